-- [Examples to hold against] T1 to T11 as one table under one claim. A row's label is its number in the paper.
use Prim.Native.Nat.{ℕ}
use mathlib.Core.Path.{◌≡◌, refl}
use mathlib.Core.List.{List, [], ◌∷◌, ◌++◌}
use lib.ListN.{replicate}
use Rattle.paper.specs.Bytes.{part}
use Rattle.paper.specs.Held.{entry_of}
use Rattle.paper.proofs.Hex.{hex, list0, index, slots0, slots1}
use Rattle.paper.proofs.Open.{opened}
use Rattle.paper.proofs.Rows.{Row, room, failing, judged}
use Rattle.paper.proofs.Rows.Row.{looking, asking, writing, coding, searching, trying}

-- the slots that lists 0 and 1 have in common, and z zeros
abbrev both : ℕ → List ℕ
both z = 5 ∷ 12 ∷ 16 ∷ 26 ∷ 30 ∷ replicate z 0

-- an index of u = 32 and B = 4 with one list: c 0, n 2, L 2, first slot 1, codes 80 00
abbrev overlong : List ℕ
overlong = hex 50 0x00000000_02000000_02000000_01000000_00000000_80_00_00000000_01000000_20000000_04000000_01000000_16000000_534C4F54

-- an index of u = 32 and B = 4 with one list, the empty one
abbrev empty : List ℕ
empty = hex 40 0x000000000000000000000000_00000000_01000000_20000000_04000000_01000000_0C000000_534C4F54

-- an index of u = 32 and B = 4 with two lists, the empty one and slot 7
abbrev seven : List ℕ
seven =
    hex 32 0x000000000000000000000000_00000000_01000000_00000000_07000000_00000000
    ++ hex 32 0x00000000_0C000000_01000000_20000000_04000000_02000000_20000000_534C4F54

-- the entries of list 0, which has four blocks
abbrev entries0 : ℕ → ℕ
entries0 = entry_of 0 (part list0 12 44)

unfoldable pub table : List (ℕ × Row)
table =
    (1, asking index 1 (0 ∷ 1 ∷ []) (room 8) (0 ∷ 0 ∷ 5 ∷ 9 ∷ 14 ∷ []) (9 ∷ 0 ∷ []) (14 ∷ 0 ∷ []) (both 3)) ∷
    (1, trying 32 4 list0 0 slots1 (4 ∷ 5 ∷ 12 ∷ 16 ∷ 26 ∷ 30 ∷ 0 ∷ []) (1 ∷ 1 ∷ 2 ∷ 2 ∷ 3 ∷ 4 ∷ 4 ∷ []) (2 ∷ 1 ∷ 2 ∷ 1 ∷ 2 ∷ 1 ∷ 0 ∷ []) (1 ∷ 2 ∷ 1 ∷ 3 ∷ 3 ∷ 2 ∷ 2 ∷ [])) ∷
    (2, asking index 0 (0 ∷ 1 ∷ []) (room 8) (0 ∷ 0 ∷ 5 ∷ 0 ∷ 0 ∷ []) [] [] (both 3)) ∷
    (3, writing 32 4 32 slots0 (room 16) (0 ∷ 0 ∷ 16 ∷ []) (hex 16 0x20000000_00000000_00000000_9D_13_50_F4)) ∷
    (4, asking index 1 (0 ∷ 1 ∷ []) (room 6) (12 ∷ 7 ∷ 0 ∷ 0 ∷ 0 ∷ []) [] [] (room 6)) ∷
    (4, asking index 1 (0 ∷ 1 ∷ []) (room 7) (0 ∷ 0 ∷ 5 ∷ 9 ∷ 14 ∷ []) (9 ∷ 0 ∷ []) (14 ∷ 0 ∷ []) (both 2)) ∷
    (5, asking index 1 (1 ∷ []) (room 7) (0 ∷ 0 ∷ 7 ∷ 0 ∷ 0 ∷ []) [] [] slots1) ∷
    (6, asking index 1 (1 ∷ 1 ∷ []) (room 7) (0 ∷ 0 ∷ 7 ∷ 1 ∷ 3 ∷ []) (0 ∷ 1 ∷ []) (0 ∷ 3 ∷ []) slots1) ∷
    (7, coding 127 (hex 1 0x7F)) ∷
    (7, coding 128 (hex 2 0x80_01)) ∷
    (7, writing 600 3 0 (1 ∷ 129 ∷ 258 ∷ 400 ∷ []) (room 31) (0 ∷ 0 ∷ 31 ∷ []) (hex 31 0x00000000_04000000_03000000_01000000_00000000_90010000_03000000_7F_80_01)) ∷
    (8, looking overlong (8 ∷ 0 ∷ [])) ∷
    (9, writing 32 4 0 [] (room 14) (0 ∷ 0 ∷ 12 ∷ []) (replicate 12 0 ++ room 2)) ∷
    (9, asking empty 1 (0 ∷ []) [] (0 ∷ 0 ∷ 0 ∷ 0 ∷ 0 ∷ []) [] [] []) ∷
    (9, asking seven 1 (1 ∷ 0 ∷ []) [] (0 ∷ 0 ∷ 0 ∷ 0 ∷ 0 ∷ []) [] [] []) ∷
    (10, asking index 1 [] (room 8) (10 ∷ 0 ∷ 0 ∷ 0 ∷ 0 ∷ []) [] [] (room 8)) ∷
    (11, searching entries0 4 0 8 2 (1 ∷ 2 ∷ 4 ∷ 3 ∷ [])) ∷
    (11, searching entries0 4 0 18 3 (1 ∷ 2 ∷ 4 ∷ 3 ∷ [])) ∷
    []

-- every row of the table holds
pub table_holds : failing table ≡ []
unfolding opened judged table
table_holds = refl
