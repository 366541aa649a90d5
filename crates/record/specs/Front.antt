-- The slots of lists at the front of a slice of numbers: the candidate set of a question.
use Rattle.std.specs.Prelude.{ℕ, ◌≤◌, ◌<◌, ◌≡◌, List, length, get_or, take}

-- the first `count` places of the slice s hold the slots xs
pub record Front (xs : List ℕ) (count : ℕ) (s : List ℕ) : Type 0 where
  pub few : count ≤ length s
  pub are : take count s ≡ xs

-- they hold candidates: slots, none of which is 0
pub record Candidates (count : ℕ) (s : List ℕ) : Type 0 where
  pub few : count ≤ length s
  pub some : (i : ℕ) → i < count → 0 < get_or s i 0
