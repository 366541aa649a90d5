-- The paper's other examples, and further ones for what its own do not see, as one table under one claim. The first digits of a label name
-- its group; docs/DECISIONS.md has the reasons for the readings that they show.
use Prim.Native.Nat.{ℕ, ◌+◌, ◌*◌}
use mathlib.Core.Path.{◌≡◌, refl}
use mathlib.Core.Option.{none, some}
use mathlib.Core.List.{List, [], ◌∷◌, ◌++◌, map, flatten}
use lib.ListN.{length, replicate, set}
use Rattle.paper.specs.Lists.{up_from}
use Rattle.paper.specs.Bytes.{u32_bytes}
use Rattle.paper.specs.Write.{encode}
use Rattle.paper.specs.Close.{frame_bytes}
use Rattle.paper.proofs.Hex.{hex, list0, list1, index, slots0, slots1}
use Rattle.paper.proofs.Open.{opened}
use Rattle.paper.proofs.Rows.{Row, room, failing, judged, joined}
use Rattle.paper.proofs.Rows.Row.{
  looking,
  asking,
  testing,
  following,
  counting,
  lending,
  writing,
  bounding,
  closing,
  lining,
  running,
  holding,
  coding,
  uncoding,
  checking,
  searching,
  trying,
}

-- where records that lie one behind the other start, from a on; and an index of records, sound or not
abbrev starts_of : ℕ → List (List ℕ) → List ℕ
starts_of a [] = []
starts_of a (r ∷ rs) = a ∷ starts_of (a + length r) rs

abbrev packed : ℕ → ℕ → List (List ℕ) → List ℕ
packed u B rs = flatten rs ++ frame_bytes u B (length (flatten rs)) (starts_of 0 rs)

-- the paper's index with another byte at i
abbrev with : ℕ → ℕ → List ℕ
with i b = set index i b

-- an index of one empty list with this u and B
abbrev bare : ℕ → ℕ → List ℕ
bare u B = replicate 16 0 ++ u32_bytes 1 ++ u32_bytes u ++ u32_bytes B ++ u32_bytes 1 ++ u32_bytes 12 ++ hex 4 0x534C4F54

-- entries that are their own positions
abbrev own : ℕ → ℕ
own i = i

-- lists 7 8 9 10 and 1 2 3 4, a block for each slot
abbrev ties : List ℕ
ties = packed 32 1 (encode 1 0 (7 ∷ 8 ∷ 9 ∷ 10 ∷ []) ∷ encode 1 0 (1 ∷ 2 ∷ 3 ∷ 4 ∷ []) ∷ [])

-- lists 4 9 16 25, 1 to 26, and the even slots 2 to 24
abbrev three : List ℕ
three =
    packed 32 2
    (encode 2 0 (4 ∷ 9 ∷ 16 ∷ 25 ∷ []) ∷ encode 2 0 (up_from 1 26) ∷ encode 2 0 (2 ∷ 4 ∷ 6 ∷ 8 ∷ 10 ∷ 12 ∷ 14 ∷ 16 ∷ 18 ∷ 20 ∷ 22 ∷ 24 ∷ []) ∷ [])

-- 2 3 11 13 14 20 22 31 with cut 11: of its second bit byte three bits are in use, and the one that is set is 20
abbrev spotless : List ℕ
spotless = encode 2 11 (2 ∷ 3 ∷ 11 ∷ 13 ∷ 14 ∷ 20 ∷ 22 ∷ 31 ∷ [])

-- the same with rubbish 1F behind the cut
abbrev stained : List ℕ
stained = set spotless 13 0x3F

-- list 0 is 3 11 12 13 22; list 1 is one of these two, each of 40 bytes
abbrev few : List ℕ
few = encode 2 0 (3 ∷ 11 ∷ 12 ∷ 13 ∷ 22 ∷ [])

abbrev tidy : List ℕ
tidy = packed 32 2 (few ∷ spotless ∷ [])

abbrev rubbish : List ℕ
rubbish = packed 32 2 (few ∷ stained ∷ [])

-- lists 5 20, and 1 2 5 with cut 16 and no tail
abbrev tailless : List ℕ
tailless = packed 32 2 (encode 2 0 (5 ∷ 20 ∷ []) ∷ encode 2 16 (1 ∷ 2 ∷ 5 ∷ []) ∷ [])

-- [Order 14] the even slots 2 to 62
abbrev evens : List ℕ
evens = map (λ i. 2 * i) (up_from 1 31)

-- a block for each slot: the even slots in 31 blocks; 16 32 48; the even slots with cut 32, in bits and 15 blocks; 31 and 32
abbrev long : List ℕ
long = packed 64 1 (encode 1 0 evens ∷ encode 1 0 (16 ∷ 32 ∷ 48 ∷ []) ∷ encode 1 32 evens ∷ encode 1 0 (31 ∷ 32 ∷ []) ∷ [])

-- [One index in full; Examples to hold against]
unfoldable pub paper_rows : List (ℕ × Row)
paper_rows =
    (101, looking index (0 ∷ 0 ∷ [])) ∷
    (102, holding index 0 slots0) ∷
    (103, holding index 1 slots1) ∷
    (104, writing 32 4 0 slots0 (room 57) (0 ∷ 0 ∷ 55 ∷ []) (list0 ++ room 2)) ∷
    (105, writing 32 4 16 slots1 (room 24) (0 ∷ 0 ∷ 24 ∷ []) list1) ∷
    (106, closing (list0 ++ list1 ++ room 32) 32 4 79 (0 ∷ 55 ∷ []) (0 ∷ 0 ∷ 111 ∷ []) index) ∷
    (107, running (some index) (hex 5 0x31_20_30_20_31) (hex 22 0x30_20_30_20_39_20_31_34_0A_35_0A_31_32_0A_31_36_0A_32_36_0A_33_30 ++ hex 1 0x0A)) ∷
    (108, asking index 0 (replicate 16 1) (room 7) (0 ∷ 0 ∷ 7 ∷ 0 ∷ 0 ∷ []) [] [] slots1) ∷
    (109, asking index 0 (replicate 17 1) (room 7) (10 ∷ 0 ∷ 0 ∷ 0 ∷ 0 ∷ []) [] [] (room 7)) ∷
    (110, looking (bare 1048576 4) (0 ∷ 0 ∷ [])) ∷
    (111, looking (bare 1048577 4) (4 ∷ 0 ∷ [])) ∷
    (112, looking (bare 32 128) (0 ∷ 0 ∷ [])) ∷
    (113, looking (bare 32 129) (4 ∷ 0 ∷ [])) ∷
    (114, looking (replicate 23 0) (1 ∷ 0 ∷ [])) ∷
    (115, testing index 0 32 (0 ∷ 0 ∷ 0 ∷ [])) ∷
    (116, testing index 0 0 (16 ∷ 0 ∷ 0 ∷ [])) ∷
    (117, testing index 0 33 (16 ∷ 0 ∷ 0 ∷ [])) ∷
    (118, testing index 0 30 (0 ∷ 0 ∷ 1 ∷ [])) ∷
    (119, testing index 1 16 (0 ∷ 0 ∷ 1 ∷ [])) ∷
    (120, testing index 2 0 (11 ∷ 0 ∷ 0 ∷ [])) ∷
    (121, counting index 0 (0 ∷ 0 ∷ 15 ∷ [])) ∷
    (122, counting index 1 (0 ∷ 0 ∷ 7 ∷ [])) ∷
    (123, counting index 2 (11 ∷ 0 ∷ 0 ∷ [])) ∷
    (124, lending index 1 (0 ∷ 0 ∷ 55 ∷ 24 ∷ []) list1) ∷
    (125, lending index 2 (11 ∷ 0 ∷ 0 ∷ 0 ∷ []) []) ∷
    []

-- Looking. The first of the two groups is about 1 to 5; in the index list 0 starts at 0, list 1 at 55, the directory at 79, the trailer at 87
unfoldable pub looking_rows : List (ℕ × Row)
looking_rows =
    (201, looking [] (1 ∷ 0 ∷ [])) ∷
    (202, looking (replicate 24 0) (2 ∷ 0 ∷ [])) ∷
    (203, looking (with 110 0x55) (2 ∷ 0 ∷ [])) ∷
    (204, looking (with 107 0x73) (2 ∷ 0 ∷ [])) ∷
    (205, looking (with 87 2) (3 ∷ 0 ∷ [])) ∷
    (206, looking (with 90 1) (3 ∷ 0 ∷ [])) ∷
    (207, looking (bare 0 4) (4 ∷ 0 ∷ [])) ∷
    (208, looking (bare 32 0) (4 ∷ 0 ∷ [])) ∷
    (209, looking (with 99 0) (4 ∷ 0 ∷ [])) ∷
    (210, looking (with 100 0x10) (4 ∷ 0 ∷ [])) ∷
    (211, looking (set (with 99 0) 100 0x10) (5 ∷ 0 ∷ [])) ∷
    (212, looking (set (set (set (with 103 0xFF) 104 0xFF) 105 0xFF) 106 0xFF) (5 ∷ 0 ∷ [])) ∷
    (213, looking (with 103 0x50) (5 ∷ 0 ∷ [])) ∷
    (214, looking (with 103 0x4E) (5 ∷ 0 ∷ [])) ∷
    (215, looking (with 79 1) (5 ∷ 0 ∷ [])) ∷
    (216, looking (with 83 0) (5 ∷ 0 ∷ [])) ∷
    (217, looking (with 83 11) (5 ∷ 0 ∷ [])) ∷
    (218, looking (with 83 68) (5 ∷ 0 ∷ [])) ∷
    (219, looking (with 83 67) (6 ∷ 0 ∷ [])) ∷
    (220, looking (with 83 79) (5 ∷ 0 ∷ [])) ∷
    (221, looking (with 83 80) (5 ∷ 0 ∷ [])) ∷
    (222, looking (set (with 83 68) 0 33) (5 ∷ 0 ∷ [])) ∷
    (223, looking (replicate 16 0 ++ hex 24 0x01000000_20000000_04000000_00100000_10C0FFFF_534C4F54) (5 ∷ 0 ∷ [])) ∷
    (224, looking (set (with 87 2) 99 0) (3 ∷ 0 ∷ [])) ∷
    (225, looking (set (with 99 1) 100 0x10) (4 ∷ 0 ∷ [])) ∷
    (251, looking (with 0 33) (6 ∷ 0 ∷ [])) ∷
    (252, looking (with 59 17) (6 ∷ 1 ∷ [])) ∷
    (253, looking (with 63 3) (6 ∷ 1 ∷ [])) ∷
    (254, looking (set (with 59 17) 54 0x81) (8 ∷ 0 ∷ [])) ∷
    (255, looking (with 16 1) (7 ∷ 0 ∷ [])) ∷
    (256, looking (with 32 2) (7 ∷ 0 ∷ [])) ∷
    (257, looking (with 40 12) (7 ∷ 0 ∷ [])) ∷
    (258, looking (with 71 0x30) (9 ∷ 1 ∷ [])) ∷
    (259, looking (with 69 16) (9 ∷ 1 ∷ [])) ∷
    (260, looking (with 77 6) (9 ∷ 1 ∷ [])) ∷
    (261, looking (with 77 0x80) (8 ∷ 1 ∷ [])) ∷
    (262, checking 32 4 (hex 13 0x00000000_00000000_01000000_05) 6) ∷
    (263, checking 3 4 (hex 21 0x01000000_03000000_00000000_80_0200000000000000) 6) ∷
    (264, checking 32 4 (hex 12 0x00000000_FFFFFFFF_00000000) 6) ∷
    (265, checking 32 4 (hex 12 0xFFFFFFFF_FFFFFFFF_FFFFFFFF) 6) ∷
    (266, checking 32 4 (hex 12 0x00000000_00000000_00000000) 0) ∷
    (267, checking 32 2 (hex 38 0x00000000_05000000_02000000_28000000_00000000_29000000_01000000_2A000000_63000000_00_00) 9) ∷
    (268, checking 32 1 (hex 21 0x00000000_01000000_01000000_05000000_00000000_00) 8) ∷
    (269, checking 32 4 (hex 22 0x00000000_02000000_02000000_20000000_00000000_80_00) 8) ∷
    (270, checking 32 4 (hex 23 0x00000000_03000000_03000000_1E000000_00000000_05_80_00) 9) ∷
    (271, checking 32 4 (hex 22 0x00000000_02000000_02000000_01000000_00000000_00_00) 8) ∷
    (272, checking 1048576 4 (hex 23 0x00000000_02000000_03000000_01000000_00000000_80_80_01) 0) ∷
    (273, checking 1048576 4 (hex 23 0x00000000_02000000_03000000_01000000_00000000_80_80_00) 8) ∷
    (274, checking 1048576 4 (hex 23 0x00000000_02000000_03000000_01000000_00000000_80_80_80) 8) ∷
    (275, checking 1048576 4 (hex 24 0x00000000_02000000_04000000_01000000_00000000_80_80_80_01) 8) ∷
    (276, checking 32 1 (hex 20 0x00000000_01000000_00000000_00000000_00000000) 9) ∷
    (277, checking 32 1 (hex 20 0x00000000_01000000_00000000_20000000_00000000) 0) ∷
    (278, checking 32 1 (hex 20 0x00000000_01000000_00000000_21000000_00000000) 9) ∷
    (279, checking 32 1 (hex 21 0x05000000_01000000_00000000_00_05000000_00000000) 9) ∷
    (280, checking 32 1 (hex 21 0x05000000_01000000_00000000_00_06000000_00000000) 0) ∷
    (281, checking 32 1 (hex 28 0x00000000_02000000_00000000_05000000_00000000_05000000_00000000) 9) ∷
    (282, testing (with 54 0x81) 0 5 (8 ∷ 0 ∷ 0 ∷ [])) ∷
    (283, counting tidy 1 (0 ∷ 0 ∷ 8 ∷ [])) ∷
    (284, lending tidy 1 (0 ∷ 0 ∷ 38 ∷ 40 ∷ []) spotless) ∷
    (285, counting (with 54 0x81) 9 (8 ∷ 0 ∷ 0 ∷ [])) ∷
    (286, lending (with 54 0x81) 1 (8 ∷ 0 ∷ 0 ∷ 0 ∷ []) []) ∷
    (287, checking 2 4 (hex 21 0x00000000_02000000_01000000_01000000_00000000_00) 0) ∷
    (288, checking 32 2 (hex 28 0x00000000_03000000_00000000_28000000_00000000_29000000_05000000) 7) ∷
    (289, checking 32 1 (hex 20 0x00000000_01000000_00000000_28000000_01000000) 7) ∷
    (290, checking 32 4 (hex 17 0x21000000_00000000_00000000_0000000000) 6) ∷
    (291, checking 32 4 (hex 16 0x20000000_00000000_00000000_9D_13_50_F4) 0) ∷
    (292, checking 32 4 (hex 21 0x00000000_02000000_01000000_1F000000_00000000_00) 0) ∷
    []

-- The doubling search by itself, and slots sought one after the other in a record
unfoldable pub search_rows : List (ℕ × Row)
search_rows =
    (321, searching own 6 0 4 4 (1 ∷ 2 ∷ 4 ∷ 5 ∷ [])) ∷
    (322, searching own 6 0 5 5 (1 ∷ 2 ∷ 4 ∷ 5 ∷ 6 ∷ [])) ∷
    (323, searching own 6 0 6 6 (1 ∷ 2 ∷ 4 ∷ 5 ∷ 6 ∷ [])) ∷
    (324, searching own 40 0 13 13 (1 ∷ 2 ∷ 4 ∷ 8 ∷ 16 ∷ 12 ∷ 14 ∷ 13 ∷ [])) ∷
    (325, searching own 40 5 30 30 (6 ∷ 7 ∷ 9 ∷ 13 ∷ 21 ∷ 37 ∷ 29 ∷ 33 ∷ 31 ∷ 30 ∷ [])) ∷
    (326, searching own 40 0 40 40 (1 ∷ 2 ∷ 4 ∷ 8 ∷ 16 ∷ 32 ∷ 36 ∷ 38 ∷ 39 ∷ 40 ∷ [])) ∷
    (327, searching own 40 5 5 5 (6 ∷ [])) ∷
    (328, searching own 40 40 40 40 []) ∷
    (331, trying 32 4 list0 0 (7 ∷ []) (8 ∷ []) (1 ∷ []) (2 ∷ []) (3 ∷ [])) ∷
    (332, trying 32 4 list0 0 (8 ∷ 18 ∷ []) (8 ∷ 18 ∷ []) (2 ∷ 3 ∷ []) (4 ∷ 2 ∷ []) (0 ∷ 0 ∷ [])) ∷
    (333, trying 32 4 list1 0 (5 ∷ 17 ∷ 25 ∷ 30 ∷ []) (5 ∷ 26 ∷ 26 ∷ 30 ∷ []) (0 ∷ 0 ∷ 0 ∷ 1 ∷ []) (0 ∷ 1 ∷ 1 ∷ 1 ∷ []) (0 ∷ 0 ∷ 0 ∷ 1 ∷ [])) ∷
    []

-- Questions
unfoldable pub asking_rows : List (ℕ × Row)
asking_rows =
    (301, asking index 2 (replicate 17 1) (room 7) (14 ∷ 0 ∷ 0 ∷ 0 ∷ 0 ∷ []) [] [] (room 7)) ∷
    (302, asking (with 54 0x81) 2 [] (room 1) (8 ∷ 0 ∷ 0 ∷ 0 ∷ 0 ∷ []) [] [] (room 1)) ∷
    (303, asking index 1 (0 ∷ 1 ∷ 2 ∷ 9 ∷ []) [] (11 ∷ 2 ∷ 0 ∷ 0 ∷ 0 ∷ []) [] [] []) ∷
    (304, asking index 1 (0 ∷ []) (room 3) (12 ∷ 15 ∷ 0 ∷ 0 ∷ 0 ∷ []) [] [] (room 3)) ∷
    (305, asking index 0 (0 ∷ 1 ∷ []) (room 6) (12 ∷ 7 ∷ 0 ∷ 0 ∷ 0 ∷ []) [] [] (room 6)) ∷
    (306, asking index 1 (1 ∷ 0 ∷ 0 ∷ []) (room 7) (0 ∷ 0 ∷ 5 ∷ 17 ∷ 25 ∷ []) (0 ∷ 9 ∷ 8 ∷ []) (0 ∷ 14 ∷ 11 ∷ []) (5 ∷ 12 ∷ 16 ∷ 26 ∷ 30 ∷ 0 ∷ 0 ∷ [])) ∷
    (307, asking index 1 (replicate 16 1) (room 7) (0 ∷ 0 ∷ 7 ∷ 15 ∷ 45 ∷ []) (0 ∷ replicate 15 1) (0 ∷ replicate 15 3) slots1) ∷
    (308, asking ties 1 (0 ∷ 1 ∷ []) (room 4) (0 ∷ 0 ∷ 0 ∷ 3 ∷ 0 ∷ []) (0 ∷ 3 ∷ []) [] (replicate 4 0)) ∷
    (309, asking ties 1 (1 ∷ 0 ∷ []) (room 4) (0 ∷ 0 ∷ 0 ∷ 4 ∷ 0 ∷ []) (0 ∷ 4 ∷ []) [] (replicate 4 0)) ∷
    (310, asking ties 1 (0 ∷ 1 ∷ 1 ∷ []) (room 4) (0 ∷ 0 ∷ 0 ∷ 3 ∷ 0 ∷ []) (0 ∷ 3 ∷ 0 ∷ []) [] (replicate 4 0)) ∷
    (311, asking three 1 (0 ∷ 1 ∷ 2 ∷ []) (room 4) (0 ∷ 0 ∷ 2 ∷ 20 ∷ 6 ∷ []) (0 ∷ 10 ∷ 10 ∷ []) (0 ∷ 2 ∷ 4 ∷ []) (4 ∷ 16 ∷ 0 ∷ 0 ∷ [])) ∷
    (312, asking tidy 1 (0 ∷ 1 ∷ []) (room 5) (0 ∷ 0 ∷ 4 ∷ 5 ∷ 1 ∷ []) (0 ∷ 5 ∷ []) (0 ∷ 1 ∷ []) (3 ∷ 11 ∷ 13 ∷ 22 ∷ 0 ∷ [])) ∷
    (313, asking tailless 1 (0 ∷ 1 ∷ []) (room 2) (0 ∷ 0 ∷ 1 ∷ 0 ∷ 0 ∷ []) [] [] (5 ∷ 0 ∷ [])) ∷
    (314, asking index 1 (replicate 17 9) [] (10 ∷ 0 ∷ 0 ∷ 0 ∷ 0 ∷ []) [] [] []) ∷
    []

-- Codes, writing and closing
unfoldable pub writing_rows : List (ℕ × Row)
writing_rows =
    (401, coding 0 (hex 1 0x00)) ∷
    (402, coding 16383 (hex 2 0xFF_7F)) ∷
    (403, coding 16384 (hex 3 0x80_80_01)) ∷
    (404, coding 16511 (hex 3 0xFF_80_01)) ∷
    (405, coding 2097151 (hex 3 0xFF_FF_7F)) ∷
    (406, uncoding []) ∷
    (407, uncoding (hex 1 0x80)) ∷
    (408, uncoding (hex 2 0x80_80)) ∷
    (409, uncoding (hex 2 0x80_00)) ∷
    (410, uncoding (hex 4 0x80_80_80_01)) ∷
    (421, writing 32 4 0 (5 ∷ 3 ∷ []) (room 99) (13 ∷ 1 ∷ 0 ∷ []) (room 99)) ∷
    (422, writing 32 4 0 (40 ∷ 3 ∷ []) (room 99) (13 ∷ 0 ∷ 0 ∷ []) (room 99)) ∷
    (423, writing 32 4 0 (5 ∷ 5 ∷ []) (room 99) (13 ∷ 1 ∷ 0 ∷ []) (room 99)) ∷
    (424, writing 32 4 0 (0 ∷ []) (room 99) (13 ∷ 0 ∷ 0 ∷ []) (room 99)) ∷
    (425, writing 32 4 33 (0 ∷ []) [] (15 ∷ 0 ∷ 0 ∷ []) []) ∷
    (426, writing 0 4 33 (0 ∷ []) [] (4 ∷ 0 ∷ 0 ∷ []) []) ∷
    (427, writing 32 129 33 (0 ∷ []) [] (4 ∷ 0 ∷ 0 ∷ []) []) ∷
    (428, writing 32 4 16 slots1 (room 23) (12 ∷ 24 ∷ 0 ∷ []) (room 23)) ∷
    (429, writing 32 4 0 (7 ∷ []) (room 22) (0 ∷ 0 ∷ 20 ∷ []) (hex 20 0x00000000_01000000_00000000_07000000_00000000 ++ room 2)) ∷
    (430, writing 32 4 32 (32 ∷ []) (room 16) (0 ∷ 0 ∷ 16 ∷ []) (hex 16 0x20000000_00000000_00000000_00_00_00_01)) ∷
    (431, writing 32 4 0 (0 ∷ []) [] (13 ∷ 0 ∷ 0 ∷ []) []) ∷
    (432, writing 32 2 11 (2 ∷ 3 ∷ 11 ∷ 13 ∷ 14 ∷ 20 ∷ 22 ∷ 31 ∷ []) (room 40) (0 ∷ 0 ∷ 40 ∷ []) (hex 40 0x0B000000_05000000_02000000_60_20_0D000000_00000000_14000000_01000000_1F000000_02000000_00_01)) ∷
    (441, closing (room 200) 32 4 0 [] (4 ∷ 0 ∷ 0 ∷ []) (room 200)) ∷
    (442, closing (list0 ++ list1 ++ room 31) 32 4 79 (0 ∷ 55 ∷ []) (12 ∷ 111 ∷ 0 ∷ []) (list0 ++ list1 ++ room 31)) ∷
    (443, closing (list0 ++ list1 ++ room 34) 32 4 79 (0 ∷ 55 ∷ []) (0 ∷ 0 ∷ 111 ∷ []) (index ++ room 2)) ∷
    (444, closing (room 9) 32 4 16777188 (0 ∷ []) (12 ∷ 16777216 ∷ 0 ∷ []) (room 9)) ∷
    (445, closing (room 9) 32 4 16777189 (0 ∷ []) (1 ∷ 0 ∷ 0 ∷ []) (room 9)) ∷
    (446, closing (room 9) 32 4 4294967295 (7 ∷ []) (1 ∷ 0 ∷ 0 ∷ []) (room 9)) ∷
    (447, closing (list0 ++ list1 ++ room 32) 32 4 79 (0 ∷ 68 ∷ []) (5 ∷ 0 ∷ 0 ∷ []) (list0 ++ list1 ++ room 32)) ∷
    (448, closing (list0 ++ list1 ++ room 31) 32 4 79 (1 ∷ 55 ∷ []) (12 ∷ 111 ∷ 0 ∷ []) (list0 ++ list1 ++ room 31)) ∷
    (449, closing (list0 ++ set list1 22 6 ++ room 32) 32 4 79 (0 ∷ 55 ∷ []) (9 ∷ 1 ∷ 0 ∷ []) (list0 ++ set list1 22 6 ++ room 32)) ∷
    (450, closing (room 9) 0 4 4294967295 (7 ∷ []) (4 ∷ 0 ∷ 0 ∷ []) (room 9)) ∷
    (451, closing (room 9) 32 4 4294967295 [] (4 ∷ 0 ∷ 0 ∷ []) (room 9)) ∷
    []

-- The program: leading zeros, the largest number and one more, 256 and 257 bytes, no number, other bytes, a way alone, 127 names
unfoldable pub program_rows : List (ℕ × Row)
program_rows =
    (501, lining (hex 8 0x20_30_30_31_0A_20_37_0A) (1 ∷ 7 ∷ [])) ∷
    (502, lining (hex 10 0x34_32_39_34_39_36_37_32_39_35) (4294967295 ∷ [])) ∷
    (503, lining (hex 10 0x34_32_39_34_39_36_37_32_39_36) []) ∷
    (504, lining (replicate 255 0x20 ++ 0x31 ∷ []) (1 ∷ [])) ∷
    (505, lining (replicate 256 0x20 ++ 0x31 ∷ []) []) ∷
    (506, lining (replicate 255 0x30 ++ 0x37 ∷ []) (7 ∷ [])) ∷
    (507, lining [] []) ∷
    (508, lining (hex 2 0x20_0A) []) ∷
    (509, lining (hex 1 0x2F) []) ∷
    (510, lining (hex 1 0x3A) []) ∷
    (511, lining (hex 3 0x31_09_30) []) ∷
    (512, lining (hex 5 0x31_20_30_0D_0A) []) ∷
    (513, lining (0x31 ∷ flatten (replicate 127 (hex 2 0x20_30))) (1 ∷ replicate 127 0)) ∷
    (521, running (some index) (0x31 ∷ flatten (replicate 127 (hex 2 0x20_30))) (hex 9 0x31_30_20_30_20_30_20_30_0A)) ∷
    (522, running (some index) (hex 1 0x31) (hex 9 0x31_30_20_30_20_30_20_30_0A)) ∷
    (523, running (some index) (hex 1 0x39) (hex 9 0x31_34_20_30_20_30_20_30_0A)) ∷
    (524, running (some index) (hex 3 0x31_20_78) (hex 6 0x75_73_61_67_65_0A)) ∷
    []

-- the program's file: missing, empty, as large as may be, too large
unfoldable pub file_rows : List (ℕ × Row)
file_rows =
    (525, running none (hex 3 0x31_20_30) (hex 5 0x66_69_6C_65_0A)) ∷
    (526, running (some []) (hex 1 0x31) (hex 8 0x31_20_30_20_30_20_30_0A)) ∷
    (527, running (some (replicate 65536 0)) (hex 3 0x31_20_30) (hex 8 0x32_20_30_20_30_20_30_0A)) ∷
    (528, running (some (replicate 65537 0)) (hex 1 0x78) (hex 5 0x66_69_6C_65_0A)) ∷
    []

-- [Order 1] Bits beyond the cut. Slots 1 and 9 with cut 9, and then each unused bit by itself; a cut that ends a byte; the cuts 1 and u; 17 beside
-- other faults of its record; the cuts 0 and 8 with a byte FF right behind the bits
unfoldable pub unused_rows : List (ℕ × Row)
unused_rows =
    (601, checking 32 2 (hex 14 0x09000000_00000000_00000000_80_80) 0) ∷
    (602, checking 32 2 (hex 14 0x09000000_00000000_00000000_80_C0) 17) ∷
    (603, checking 32 2 (hex 14 0x09000000_00000000_00000000_80_A0) 17) ∷
    (604, checking 32 2 (hex 14 0x09000000_00000000_00000000_80_90) 17) ∷
    (605, checking 32 2 (hex 14 0x09000000_00000000_00000000_80_88) 17) ∷
    (606, checking 32 2 (hex 14 0x09000000_00000000_00000000_80_84) 17) ∷
    (607, checking 32 2 (hex 14 0x09000000_00000000_00000000_80_82) 17) ∷
    (608, checking 32 2 (hex 14 0x09000000_00000000_00000000_80_81) 17) ∷
    (609, checking 32 2 (hex 14 0x0F000000_00000000_00000000_FF_FE) 0) ∷
    (610, checking 32 2 (hex 14 0x0F000000_00000000_00000000_00_01) 17) ∷
    (611, checking 32 2 (hex 13 0x08000000_00000000_00000000_FF) 0) ∷
    (612, checking 32 2 (hex 14 0x10000000_00000000_00000000_00_FF) 0) ∷
    (613, checking 32 2 (hex 13 0x01000000_00000000_00000000_80) 0) ∷
    (614, checking 32 2 (hex 13 0x01000000_00000000_00000000_40) 17) ∷
    (615, checking 32 2 (hex 16 0x20000000_00000000_00000000_FF_FF_FF_FF) 0) ∷
    (616, checking 29 2 (hex 16 0x1D000000_00000000_00000000_FF_FF_FF_F8) 0) ∷
    (617, checking 29 2 (hex 16 0x1D000000_00000000_00000000_FF_FF_FF_FC) 17) ∷
    (618, checking 28 2 (hex 16 0x1D000000_00000000_00000000_FF_FF_FF_FC) 6) ∷
    (619, checking 32 2 (hex 15 0x09000000_00000000_01000000_80_C0_00) 6) ∷
    (620, checking 32 2 (hex 15 0x09000000_00000000_00000000_80_C0_00) 6) ∷
    (621, checking 32 2 (hex 22 0x09000000_01000000_00000000_80_C0_09000000_00000000) 17) ∷
    (622, checking 32 2 (hex 22 0x09000000_01000000_00000000_80_80_09000000_00000000) 9) ∷
    (623, checking 32 2 (hex 22 0x09000000_01000000_00000000_80_C0_0A000000_01000000) 17) ∷
    (624, checking 32 2 (hex 22 0x09000000_01000000_00000000_80_80_0A000000_01000000) 7) ∷
    (625, checking 32 2 (hex 23 0x09000000_01000000_01000000_80_C0_0A000000_00000000_00) 17) ∷
    (626, checking 32 2 (hex 23 0x09000000_01000000_01000000_80_80_0A000000_00000000_00) 8) ∷
    (627, checking 256 2 (hex 20 0x00000000_01000000_00000000_FF000000_00000000) 0) ∷
    (628, checking 256 2 (hex 21 0x08000000_01000000_00000000_FF_FF000000_00000000) 0) ∷
    []

-- in an index: behind a fault of the list before, and before one of the list behind; every operation that looks; closing
unfoldable pub rubbish_rows : List (ℕ × Row)
rubbish_rows =
    (631, looking rubbish (17 ∷ 1 ∷ [])) ∷
    (632, looking (set rubbish 12 0) (9 ∷ 0 ∷ [])) ∷
    (633, looking (packed 32 2 (stained ∷ set few 12 0 ∷ [])) (17 ∷ 0 ∷ [])) ∷
    (634, asking rubbish 2 [] (room 5) (17 ∷ 1 ∷ 0 ∷ 0 ∷ 0 ∷ []) [] [] (room 5)) ∷
    (635, asking rubbish 1 (0 ∷ []) (room 5) (17 ∷ 1 ∷ 0 ∷ 0 ∷ 0 ∷ []) [] [] (room 5)) ∷
    (636, testing rubbish 0 3 (17 ∷ 1 ∷ 0 ∷ [])) ∷
    (637, counting rubbish 2 (17 ∷ 1 ∷ 0 ∷ [])) ∷
    (638, lending rubbish 0 (17 ∷ 1 ∷ 0 ∷ 0 ∷ []) []) ∷
    (639, closing (few ++ stained ++ room 32) 32 2 78 (0 ∷ 38 ∷ []) (17 ∷ 1 ∷ 0 ∷ []) (few ++ stained ++ room 32)) ∷
    (640, closing (few ++ spotless ++ room 32) 32 2 78 (0 ∷ 38 ∷ []) (0 ∷ 0 ∷ 110 ∷ []) tidy) ∷
    []

-- [Order 2] What each list cost, by its position in the question, beside the rows above: the starting list at the first position, between others and at the last; 16
-- names; then the plain way, and refusals of questions that would have cost something
unfoldable pub costing_rows : List (ℕ × Row)
costing_rows =
    (701, asking index 1 (1 ∷ 0 ∷ []) (room 7) (0 ∷ 0 ∷ 5 ∷ 9 ∷ 14 ∷ []) (0 ∷ 9 ∷ []) (0 ∷ 14 ∷ []) (5 ∷ 12 ∷ 16 ∷ 26 ∷ 30 ∷ 0 ∷ 0 ∷ [])) ∷
    (702, asking index 1 (0 ∷ 1 ∷ 1 ∷ []) (room 7) (0 ∷ 0 ∷ 5 ∷ 10 ∷ 17 ∷ []) (9 ∷ 0 ∷ 1 ∷ []) (14 ∷ 0 ∷ 3 ∷ []) (5 ∷ 12 ∷ 16 ∷ 26 ∷ 30 ∷ 0 ∷ 0 ∷ [])) ∷
    (703, asking index 1 (0 ∷ 1 ∷ 0 ∷ 1 ∷ 0 ∷ 1 ∷ 0 ∷ 1 ∷ 0 ∷ 1 ∷ 0 ∷ 1 ∷ 0 ∷ 1 ∷ 0 ∷ 1 ∷ []) (room 7) (0 ∷ 0 ∷ 5 ∷ 72 ∷ 112 ∷ []) (9 ∷ 0 ∷ 8 ∷ 1 ∷ 8 ∷ 1 ∷ 8 ∷ 1 ∷ 8 ∷ 1 ∷ 8 ∷ 1 ∷ 8 ∷ 1 ∷ 8 ∷ 1 ∷ []) (14 ∷ 0 ∷ 11 ∷ 3 ∷ 11 ∷ 3 ∷ 11 ∷ 3 ∷ 11 ∷ 3 ∷ 11 ∷ 3 ∷ 11 ∷ 3 ∷ 11 ∷ 3 ∷ []) (5 ∷ 12 ∷ 16 ∷ 26 ∷ 30 ∷ 0 ∷ 0 ∷ [])) ∷
    (704, asking three 1 (2 ∷ 1 ∷ 0 ∷ []) (room 4) (0 ∷ 0 ∷ 2 ∷ 20 ∷ 6 ∷ []) (10 ∷ 10 ∷ 0 ∷ []) (4 ∷ 2 ∷ 0 ∷ []) (4 ∷ 16 ∷ 0 ∷ 0 ∷ [])) ∷
    (705, asking index 0 (0 ∷ 1 ∷ 0 ∷ []) (room 7) (0 ∷ 0 ∷ 5 ∷ 0 ∷ 0 ∷ []) [] [] (5 ∷ 12 ∷ 16 ∷ 26 ∷ 30 ∷ 0 ∷ 0 ∷ [])) ∷
    (706, asking index 1 (0 ∷ 1 ∷ 2 ∷ []) (room 7) (11 ∷ 2 ∷ 0 ∷ 0 ∷ 0 ∷ []) [] [] (room 7)) ∷
    (707, asking index 1 (0 ∷ 1 ∷ 0 ∷ 1 ∷ 0 ∷ 1 ∷ 0 ∷ 1 ∷ 0 ∷ 1 ∷ 0 ∷ 1 ∷ 0 ∷ 1 ∷ 0 ∷ 1 ∷ 0 ∷ []) (room 7) (10 ∷ 0 ∷ 0 ∷ 0 ∷ 0 ∷ []) [] [] (room 7)) ∷
    (708, asking index 2 (0 ∷ 1 ∷ []) (room 7) (14 ∷ 0 ∷ 0 ∷ 0 ∷ 0 ∷ []) [] [] (room 7)) ∷
    (709, asking (with 54 0x81) 1 (0 ∷ 1 ∷ []) (room 7) (8 ∷ 0 ∷ 0 ∷ 0 ∷ 0 ∷ []) [] [] (room 7)) ∷
    []

-- [Order 6] How large a record can be: the order's sum, with 129 and 16,385 on both sides, no slot above the cut, none below it, and as large as can be; then 13, 15
-- before it, 4 before both, and numbers as wild as they come
unfoldable pub bounding_rows : List (ℕ × Row)
bounding_rows =
    (801, bounding 130 128 0 2 (0 ∷ 0 ∷ 22 ∷ [])) ∷
    (802, bounding 32 4 0 15 (0 ∷ 0 ∷ 55 ∷ [])) ∷
    (803, bounding 32 4 16 3 (0 ∷ 0 ∷ 24 ∷ [])) ∷
    (804, bounding 128 128 0 2 (0 ∷ 0 ∷ 21 ∷ [])) ∷
    (805, bounding 129 128 0 2 (0 ∷ 0 ∷ 22 ∷ [])) ∷
    (806, bounding 16384 128 0 2 (0 ∷ 0 ∷ 148 ∷ [])) ∷
    (807, bounding 16385 128 0 2 (0 ∷ 0 ∷ 149 ∷ [])) ∷
    (808, bounding 16385 128 0 0 (0 ∷ 0 ∷ 140 ∷ [])) ∷
    (809, bounding 32 4 32 0 (0 ∷ 0 ∷ 16 ∷ [])) ∷
    (810, bounding 32 4 9 0 (0 ∷ 0 ∷ 14 ∷ [])) ∷
    (811, bounding 1048576 1 0 1048576 (0 ∷ 0 ∷ 8396811 ∷ [])) ∷
    (812, bounding 1048576 128 0 1048576 (0 ∷ 0 ∷ 1114123 ∷ [])) ∷
    (813, bounding 32 4 16 16 (0 ∷ 0 ∷ 58 ∷ [])) ∷
    (814, bounding 32 4 16 17 (13 ∷ 0 ∷ 0 ∷ [])) ∷
    (815, bounding 32 4 32 1 (13 ∷ 0 ∷ 0 ∷ [])) ∷
    (816, bounding 32 4 33 40 (15 ∷ 0 ∷ 0 ∷ [])) ∷
    (817, bounding 32 4 33 0 (15 ∷ 0 ∷ 0 ∷ [])) ∷
    (818, bounding 0 4 33 40 (4 ∷ 0 ∷ 0 ∷ [])) ∷
    (819, bounding 1048577 4 0 0 (4 ∷ 0 ∷ 0 ∷ [])) ∷
    (820, bounding 32 0 33 40 (4 ∷ 0 ∷ 0 ∷ [])) ∷
    (821, bounding 32 129 0 0 (4 ∷ 0 ∷ 0 ∷ [])) ∷
    (822, bounding 32 4 4294967295 4294967295 (15 ∷ 0 ∷ 0 ∷ [])) ∷
    (823, bounding 32 4 0 4294967295 (13 ∷ 0 ∷ 0 ∷ [])) ∷
    (824, bounding 4294967295 4294967295 4294967295 4294967295 (4 ∷ 0 ∷ 0 ∷ [])) ∷
    []

-- [Order 8] The next slot, x itself counting: in the tail of list 0, where a block and the last block run out too; in list 1 up to the cut, between it and the
-- first block, and behind; where the bits run out before a block and before none; an empty list; then 16, 11 before it, and the index before both; and slots
-- tried one after the other, the finger staying where the search ended
unfoldable pub next_rows : List (ℕ × Row)
next_rows =
    (901, following index 0 1 (0 ∷ 0 ∷ 1 ∷ [])) ∷
    (902, following index 0 5 (0 ∷ 0 ∷ 5 ∷ [])) ∷
    (903, following index 0 7 (0 ∷ 0 ∷ 8 ∷ [])) ∷
    (904, following index 0 9 (0 ∷ 0 ∷ 12 ∷ [])) ∷
    (905, following index 0 31 (0 ∷ 0 ∷ 0 ∷ [])) ∷
    (906, following index 1 1 (0 ∷ 0 ∷ 3 ∷ [])) ∷
    (907, following index 1 6 (0 ∷ 0 ∷ 12 ∷ [])) ∷
    (908, following index 1 16 (0 ∷ 0 ∷ 16 ∷ [])) ∷
    (909, following index 1 17 (0 ∷ 0 ∷ 26 ∷ [])) ∷
    (910, following index 1 27 (0 ∷ 0 ∷ 30 ∷ [])) ∷
    (911, following index 1 32 (0 ∷ 0 ∷ 0 ∷ [])) ∷
    (912, following (with 68 0) 1 6 (0 ∷ 0 ∷ 26 ∷ [])) ∷
    (913, following tailless 1 6 (0 ∷ 0 ∷ 0 ∷ [])) ∷
    (914, following (bare 32 4) 0 1 (0 ∷ 0 ∷ 0 ∷ [])) ∷
    (915, following index 0 0 (16 ∷ 0 ∷ 0 ∷ [])) ∷
    (916, following index 0 33 (16 ∷ 0 ∷ 0 ∷ [])) ∷
    (917, following index 2 0 (11 ∷ 0 ∷ 0 ∷ [])) ∷
    (918, following (with 54 0x81) 2 0 (8 ∷ 0 ∷ 0 ∷ [])) ∷
    (919, following rubbish 0 3 (17 ∷ 1 ∷ 0 ∷ [])) ∷
    (921, trying 32 4 list0 0 (7 ∷ 8 ∷ 9 ∷ 17 ∷ 31 ∷ []) (8 ∷ 8 ∷ 12 ∷ 18 ∷ 0 ∷ []) (1 ∷ 2 ∷ 2 ∷ 2 ∷ 4 ∷ []) (2 ∷ 2 ∷ 1 ∷ 1 ∷ 2 ∷ []) (3 ∷ 0 ∷ 1 ∷ 3 ∷ 2 ∷ [])) ∷
    (922, trying 32 4 list1 1 (1 ∷ 6 ∷ 13 ∷ 31 ∷ []) (3 ∷ 12 ∷ 16 ∷ 31 ∷ []) (1 ∷ 1 ∷ 1 ∷ 1 ∷ []) (0 ∷ 0 ∷ 0 ∷ 0 ∷ []) (0 ∷ 0 ∷ 0 ∷ 2 ∷ [])) ∷
    (923, trying 32 4 (set list1 13 0) 0 (6 ∷ 17 ∷ []) (26 ∷ 26 ∷ []) (0 ∷ 0 ∷ []) (0 ∷ 1 ∷ []) (0 ∷ 0 ∷ [])) ∷
    (924, trying 32 2 (encode 2 16 (1 ∷ 2 ∷ 5 ∷ [])) 0 (6 ∷ 17 ∷ []) (0 ∷ 0 ∷ []) (0 ∷ 0 ∷ []) (0 ∷ 0 ∷ []) (0 ∷ 0 ∷ [])) ∷
    (925, trying 32 2 (encode 2 0 (3 ∷ 11 ∷ 12 ∷ [])) 0 (1 ∷ 2 ∷ 3 ∷ 4 ∷ 12 ∷ 13 ∷ []) (3 ∷ 3 ∷ 3 ∷ 11 ∷ 12 ∷ 0 ∷ []) (0 ∷ 0 ∷ 1 ∷ 1 ∷ 2 ∷ 2 ∷ []) (1 ∷ 1 ∷ 2 ∷ 1 ∷ 1 ∷ 0 ∷ []) (0 ∷ 0 ∷ 0 ∷ 1 ∷ 0 ∷ 0 ∷ [])) ∷
    []

-- [Order 14] Few slots sought in a long list: in 31 blocks, in 15 of a list whose cut makes bit tests of two of the three, and in both lists, one after the other;
-- nothing but bit tests; and the slots one by one, in the 31 blocks from finger 0, from finger 8, and from one past m
unfoldable pub bill_rows : List (ℕ × Row)
bill_rows =
    (1001, asking long 1 (0 ∷ 1 ∷ []) (room 3) (0 ∷ 0 ∷ 3 ∷ 23 ∷ 0 ∷ []) (23 ∷ 0 ∷ []) [] (16 ∷ 32 ∷ 48 ∷ [])) ∷
    (1002, asking long 1 (1 ∷ 2 ∷ []) (room 3) (0 ∷ 0 ∷ 3 ∷ 7 ∷ 0 ∷ []) (0 ∷ 7 ∷ []) [] (16 ∷ 32 ∷ 48 ∷ [])) ∷
    (1003, asking long 1 (2 ∷ 1 ∷ 0 ∷ []) (room 3) (0 ∷ 0 ∷ 3 ∷ 30 ∷ 0 ∷ []) (7 ∷ 0 ∷ 23 ∷ []) [] (16 ∷ 32 ∷ 48 ∷ [])) ∷
    (1004, asking long 1 (2 ∷ 3 ∷ []) (room 2) (0 ∷ 0 ∷ 1 ∷ 0 ∷ 0 ∷ []) [] [] (32 ∷ 0 ∷ [])) ∷
    (1005, trying 64 1 (encode 1 0 evens) 0 (16 ∷ 32 ∷ 48 ∷ []) (16 ∷ 32 ∷ 48 ∷ []) (8 ∷ 16 ∷ 24 ∷ []) (8 ∷ 8 ∷ 7 ∷ []) (0 ∷ 0 ∷ 0 ∷ [])) ∷
    (1006, trying 64 1 (encode 1 0 evens) 8 (32 ∷ 63 ∷ []) (32 ∷ 0 ∷ []) (16 ∷ 31 ∷ []) (8 ∷ 7 ∷ []) (0 ∷ 0 ∷ [])) ∷
    (1007, trying 64 1 (encode 1 0 evens) 32 (63 ∷ []) (0 ∷ []) (32 ∷ []) (0 ∷ []) (0 ∷ [])) ∷
    []

-- The one table. Its groups are computed apart, so that the check of a faulty definition names the rows that fail
unfoldable pub readings : List (ℕ × Row)
readings = paper_rows ++ (looking_rows ++ (search_rows ++ (asking_rows ++ (writing_rows ++ (program_rows ++ (file_rows ++ (unused_rows ++ (rubbish_rows ++ (costing_rows ++ (bounding_rows ++ (next_rows ++ bill_rows)))))))))))

-- all that a claim on one of its rows opens
unfoldable pub all_rows : ℕ
unfolding readings paper_rows looking_rows search_rows asking_rows writing_rows program_rows file_rows unused_rows rubbish_rows costing_rows bounding_rows next_rows bill_rows
all_rows = 0

paper_hold : failing paper_rows ≡ []
unfolding opened judged paper_rows
paper_hold = refl

looking_hold : failing looking_rows ≡ []
unfolding opened judged looking_rows
looking_hold = refl

search_hold : failing search_rows ≡ []
unfolding opened judged search_rows
search_hold = refl

asking_hold : failing asking_rows ≡ []
unfolding opened judged asking_rows
asking_hold = refl

writing_hold : failing writing_rows ≡ []
unfolding opened judged writing_rows
writing_hold = refl

program_hold : failing program_rows ≡ []
unfolding opened judged program_rows
program_hold = refl

file_hold : failing file_rows ≡ []
unfolding opened judged file_rows
file_hold = refl

unused_hold : failing unused_rows ≡ []
unfolding opened judged unused_rows
unused_hold = refl

rubbish_hold : failing rubbish_rows ≡ []
unfolding opened judged rubbish_rows
rubbish_hold = refl

costing_hold : failing costing_rows ≡ []
unfolding opened judged costing_rows
costing_hold = refl

bounding_hold : failing bounding_rows ≡ []
unfolding opened judged bounding_rows
bounding_hold = refl

next_hold : failing next_rows ≡ []
unfolding opened judged next_rows
next_hold = refl

bill_hold : failing bill_rows ≡ []
unfolding opened judged bill_rows
bill_hold = refl

-- every row holds
pub readings_hold : failing readings ≡ []
unfolding readings
readings_hold =
    joined paper_rows _ paper_hold
    (joined looking_rows _ looking_hold
    (joined search_rows _ search_hold
    (joined asking_rows _ asking_hold
    (joined writing_rows _ writing_hold
    (joined program_rows _ program_hold
    (joined file_rows _ file_hold
    (joined unused_rows _ unused_hold
    (joined rubbish_rows _ rubbish_hold
    (joined costing_rows _ costing_hold
    (joined bounding_rows _ bounding_hold
    (joined next_rows bill_rows next_hold bill_hold)))))))))))
