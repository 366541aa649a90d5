-- The table of marks: at the remainder of a slot by 16384 stands its quotient. And the pieces of a block whose slots are marked together.
use Rattle.std.specs.Prelude.{ℕ, ◌+◌, ◌/◌, ◌%◌, ◌≤◌, ◌<◌, ◌≡◌, Bool, false, List, eqb, length, get_or, drop, set}
use Rattle.paper.specs.Lists.{has, last_of}
use Rattle.paper.specs.Block.{read_codes}

-- x is marked in the table t
abbrev pub marked : List ℕ → ℕ → Bool
marked t x = eqb (get_or t (x % 16384) 0) (x / 16384)

-- the table t, with y marked
abbrev pub marking : List ℕ → ℕ → List ℕ
marking t y = set t (y % 16384) (y / 16384)

-- no slot from y on is marked
pub record Clear (y : ℕ) (t : List ℕ) : Type 0 where
  pub long : length t ≡ 16384
  pub none : (x : ℕ) → y ≤ x → x ≤ 1048576 → marked t x ≡ false

-- none at all
abbrev pub NoMarks : List ℕ → Type 0
NoMarks t = Clear 0 t

-- The reading of a block is at y, with `left` codes left from byte p on: these have no fault
pub record Reads (u : ℕ) (bs : List ℕ) (p left y : ℕ) : Type 0 where
  pub low : y ≤ u
  pub small : u ≤ 1048576
  pub sound : (read_codes u left y (drop p bs)).fault ≡ 0

-- and these are the slots that they give
abbrev pub slots_left : ℕ → List ℕ → ℕ → ℕ → ℕ → List ℕ
slots_left u bs p left y = (read_codes u left y (drop p bs)).slots

-- Of the slots zs, those from the base up to y are marked in the table t, which was before; `most` codes were left, and now those from byte p on are
pub record Piece (u : ℕ) (bs zs before : List ℕ) (base most : ℕ) (t : List ℕ) (p left y : ℕ) : Type 0 where
  pub reads : Reads u bs p left y
  pub up : base ≤ y
  pub near : y < base + 16384
  pub fewer : left ≤ most
  pub clear : Clear (y + 1) t
  pub new : (x : ℕ) → base ≤ x → x ≤ y → marked t x ≡ has x zs
  pub old : (x : ℕ) → x < base → marked before x ≡ false → marked t x ≡ false
  pub onward : (x : ℕ) → y < x → has x (slots_left u bs p left y) ≡ has x zs
  pub last : last_of y (slots_left u bs p left y) ≡ last_of base zs
