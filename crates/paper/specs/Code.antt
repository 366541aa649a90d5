-- [The index, read from its end] A code packs a number into one to three bytes: digits to the base 128, the lowest first, and 128 is added
-- to each byte but the last.
use Rattle.std.specs.Prelude.{ℕ, ◌+◌, ◌*◌, ◌/◌, ◌%◌, List, [], ◌∷◌, ltb, eqb}
use Rattle.paper.specs.Lists.{pick}

-- what stands at the front of some bytes: a code's value and the bytes behind it, or no code
pub data Code : Type 0 where
  code : ℕ → List ℕ → Code
  bad : Code

-- b where there is no code, else f of the value and of the bytes behind it
abbrev pub on_code : {A : Type 0} → Code → A → (ℕ → List ℕ → A) → A
on_code bad b f = b
on_code (code v r) b f = f v r

-- Reading: one function for each byte, given the value of the bytes before it. A byte that ends the code, unless it is the first, is not
-- zero; and the third byte has to end it
unfoldable pub third : ℕ → List ℕ → Code
third v [] = bad
third v (d ∷ r) = pick (ltb d 128) (pick (eqb d 0) bad (code (v + 16384 * d) r)) bad

-- a second byte with 128 added leads on to a third
unfoldable pub second : ℕ → List ℕ → Code
second v [] = bad
second v (b ∷ r) = pick (ltb b 128) (pick (eqb b 0) bad (code (v + 128 * b) r)) (third (v + 128 * (b % 128)) r)

-- a first byte below 128 is the whole code
unfoldable pub code_of : List ℕ → Code
code_of [] = bad
code_of (a ∷ r) = pick (ltb a 128) (code a r) (second (a % 128) r)

-- Writing: as few bytes as hold the value, which is below 2,097,152
unfoldable pub code_bytes : ℕ → List ℕ
code_bytes v =
    pick (ltb v 128) (v ∷ [])
    (pick (ltb v 16384) ((128 + v % 128) ∷ v / 128 ∷ [])
    ((128 + v % 128) ∷ (128 + v / 128 % 128) ∷ v / 16384 ∷ []))
