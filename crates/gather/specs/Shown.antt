-- Bits as the digits of a number: the last of them is its lowest digit.
use Rattle.std.specs.Prelude.{ℕ, ◌-◌, ◌/◌, ◌%◌, ◌^◌, ◌≤◌, ◌<◌, ◌≡◌, List, eqb}
use Rattle.paper.specs.Record.{bit_at}

-- the m bits up to the slot `end` are the digits of v
pub record Shown (bits : List ℕ) (end m v : ℕ) : Type 0 where
  pub in_reach : m ≤ end
  pub small : v < 2 ^ m
  pub is : (e : ℕ) → e < m → bit_at bits (end - e) ≡ eqb (v / 2 ^ e % 2) 1
