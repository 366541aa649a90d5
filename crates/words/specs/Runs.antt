-- Bits of a bit part that are not set.
use Rattle.std.specs.Prelude.{ℕ, ◌+◌, ◌-◌, ◌*◌, ◌≤◌, ◌<◌, ◌≡◌, false, List}
use Rattle.paper.specs.Record.{bit_at}

-- none of the n bits from x on is set
abbrev pub Clear : List ℕ → ℕ → ℕ → Type 0
Clear bits x n = (y : ℕ) → x ≤ y → y < x + n → bit_at bits y ≡ false

-- from byte `at` up to byte i, which is not past `to`, no bit is set
pub record ClearTo (bits : List ℕ) (at to i : ℕ) : Type 0 where
  pub low : at ≤ i
  pub high : i ≤ to
  pub clear : Clear bits (8 * at + 1) (8 * (i - at))
