-- [What is built] The text that the small program takes its question from: decimal numbers, and bytes 20 and 0A wherever no digit stands.
use Rattle.std.specs.Prelude.{ℕ, ◌+◌, ◌-◌, ◌*◌, Bool, true, false, ◌&&◌, ◌||◌, List, [], ◌∷◌, length, ltb, leb, eqb}
use Rattle.std.proofs.Math.Option.{Option, none, some}
use Rattle.paper.specs.Lists.{pick}

-- a space or the end of a line
abbrev pub is_parting : ℕ → Bool
is_parting b = eqb b 0x20 || eqb b 0x0a

-- a digit: 0 to 9 are the bytes 30 to 39
abbrev pub is_digit : ℕ → Bool
is_digit b = leb 0x30 b && leb b 0x39

-- v before the numbers of a text that has them
abbrev pub also : ℕ → Option (List ℕ) → Option (List ℕ)
also v none = none
also v (some vs) = some (v ∷ vs)

-- the numbers of what is left of a text, or none where it is no such text; inside a number v is its value so far, and outside it is 0
unfoldable pub read_numbers : List ℕ → Bool → ℕ → Option (List ℕ)
read_numbers [] inside v = some (pick inside (v ∷ []) [])
read_numbers (b ∷ bs) inside v =
    let next = 10 * v + (b - 0x30) in
    let behind = read_numbers bs false 0 in
    let parted = pick inside (also v behind) behind in
    let on = read_numbers bs true next in
    pick (is_parting b) parted (pick (is_digit b && ltb next 4294967296) on none)

-- a question, its way and then its names; or a text that is none
pub data Line : Type 0 where
  usage : Line
  question : ℕ → List ℕ → Line

-- the first number is the way
abbrev pub as_line : Option (List ℕ) → Line
as_line none = usage
as_line (some []) = usage
as_line (some (way ∷ names)) = question way names

-- a text of more than 256 bytes is no question, whatever it holds
unfoldable pub read_line : List ℕ → Line
read_line bs = let numbers = as_line (read_numbers bs false 0) in pick (ltb 256 (length bs)) usage numbers
