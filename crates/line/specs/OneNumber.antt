-- One number of a text: where it begins, what it is, and where it ends.
use Rattle.std.specs.Prelude.{ℕ, ◌+◌, ◌≤◌, ◌<◌, ◌≡◌, false, List, length, drop, Option, Some, None}
use Rattle.std.proofs.Math.Option as paper
use Rattle.paper.specs.Bytes.{byte_at}
use Rattle.paper.specs.Line.{is_parting, also, read_numbers}

-- from r on the text has the same numbers as from `at` on, and no parting byte stands at r
pub record Begins (text : List ℕ) (at r : ℕ) : Type 0 where
  pub behind : at ≤ r
  pub near : r ≤ length text + 1
  pub same : read_numbers (drop r text) false 0 ≡ read_numbers (drop at text) false 0
  pub none_there : r < length text → is_parting (byte_at text r) ≡ false

-- the number found, before those of what is left of the text
abbrev pub as_numbers : List ℕ → Option (ℕ × ℕ) → paper.Option (List ℕ)
as_numbers text (Some (v, q)) = also v (read_numbers (drop q text) false 0)
as_numbers text None = paper.none

-- a number takes two places from `at` on, or more: a digit, and what parts it from the next
abbrev pub Beyond : List ℕ → ℕ → Option (ℕ × ℕ) → Type 0
Beyond text at (Some (v, q)) = (at + 2 ≤ q) × (q ≤ length text + 1)
Beyond text at None = Unit
