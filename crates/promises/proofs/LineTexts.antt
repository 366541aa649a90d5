-- [What is built] What a text for the small program spells: decimal numbers, parted by bytes 20 and 0A. It is said by how such a text is put together,
-- digit behind digit and number behind number, never by a reader of it.
use Prim.Native.Nat.{ℕ, ◌+◌, ◌*◌, ◌≤◌, ◌<◌}
use mathlib.Core.Path.{◌≡◌}
use mathlib.Core.Logic.{◌⊎◌}
use mathlib.Core.List.{List, [], ◌∷◌, ◌++◌}
use lib.ListN.{length}
use Rattle.laws.proofs.Lists.{Each}

-- a byte that parts numbers: a space or the end of a line
abbrev pub Blank : ℕ → Type 0
Blank b = (b ≡ 0x20) ⊎ (b ≡ 0x0a)

-- any number of them, or none
abbrev pub Gap : List ℕ → Type 0
Gap g = Each Blank g

-- a number has ended before these bytes: there are none, or the first is a blank
abbrev pub Apart : List ℕ → Type 0
Apart [] = Unit {0}
Apart (b ∷ bs) = Blank b

-- The digits ds spell v. Zeros may lead
pub data Spelt : ℕ → List ℕ → Type 0 where
  -- one digit: 0 to 9 are the bytes 30 to 39
  digit : (d : ℕ) → d < 10 → Spelt d ((0x30 + d) ∷ [])
  -- and a further digit d behind those of v
  further : (v d : ℕ) (ds : List ℕ) → Spelt v ds → d < 10 → Spelt (10 * v + d) (ds ++ (0x30 + d) ∷ [])

-- THE NUMBERS OF A TEXT, in their order
pub data Text : List ℕ → List ℕ → Type 0 where
  -- a gap alone spells no number
  gap : (g : List ℕ) → Gap g → Text g []
  -- after a gap the digits of v, which is a u32; then the numbers vs of the rest, apart from these digits
  word : (g ds rest : List ℕ) (v : ℕ) (vs : List ℕ) → Gap g → Spelt v ds → v < 4294967296 → Apart rest → Text rest vs
      → Text (g ++ ds ++ rest) (v ∷ vs)

-- A QUESTION: at most 256 bytes that spell the way and then the names
pub record Asks (text : List ℕ) (way : ℕ) (names : List ℕ) : Type 0 where
  pub short : length text ≤ 256
  pub spelt : Text text (way ∷ names)
