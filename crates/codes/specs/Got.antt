-- What one reading of a code says of the bytes s, in the paper's terms.
use Rattle.std.specs.Prelude.{ℕ, ◌≤◌, ◌≡◌, List, drop, length, Option, Some, None}
use Rattle.paper.specs.Code.{Code, code_of}
use Rattle.paper.specs.Code.Code.{code, bad}
use Rattle.codes.specs.declared.CodeAt.{CodeAt}

-- the value, and the bytes from the position behind it on
abbrev pub as_code : List ℕ → Option CodeAt → Code
as_code s (Some c) = code c.value (drop c.next s)
as_code s None = bad

-- that position is not past the end
abbrev pub Inside : List ℕ → Option CodeAt → Type 0
Inside s (Some c) = c.next ≤ length s
Inside s None = Unit

-- a code stands at position p
pub record Stands (bs : List ℕ) (p : ℕ) : Type 0 where
  pub sound : ¬ (code_of (drop p bs) ≡ bad)
