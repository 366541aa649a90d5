-- Bytes as the paper prints them: one hexadecimal number, the first byte first. And the paper's index in full.
use Prim.Native.Nat.{ℕ, zero, suc, ◌/◌, ◌%◌}
use mathlib.Core.List.{List, [], ◌∷◌, ◌++◌}

-- the last n bytes of v before the bytes bs
unfoldable pub hex_f : ℕ → ℕ → List ℕ → List ℕ
hex_f zero v bs = bs
hex_f (suc n) v bs = hex_f n (v / 256) (v % 256 ∷ bs)

-- n bytes
unfoldable pub hex : ℕ → ℕ → List ℕ
hex n v = hex_f n v []

-- [One index in full]
unfoldable pub list0 : List ℕ
list0 = hex 55 0x00000000_0F000000_0B000000_01000000_00000000_08000000_03000000_12000000_06000000_1B000000_09000000_02_00_00_03_02_00_01_04_00_00_01

unfoldable pub list1 : List ℕ
list1 = hex 24 0x10000000_03000000_02000000_28_11_1A000000_00000000_03_00

unfoldable pub index : List ℕ
index = list0 ++ list1 ++ hex 8 0x00000000_37000000 ++ hex 24 0x01000000_20000000_04000000_02000000_4F000000_534C4F54

unfoldable pub slots0 : List ℕ
slots0 = 1 ∷ 4 ∷ 5 ∷ 6 ∷ 8 ∷ 12 ∷ 15 ∷ 16 ∷ 18 ∷ 20 ∷ 25 ∷ 26 ∷ 27 ∷ 28 ∷ 30 ∷ []

unfoldable pub slots1 : List ℕ
slots1 = 3 ∷ 5 ∷ 12 ∷ 16 ∷ 26 ∷ 30 ∷ 31 ∷ []
