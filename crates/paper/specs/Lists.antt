-- Choice by a test, and plain words on lists of numbers. The paper takes these for granted; nothing of the format is said here.
use Rattle.std.specs.Prelude.{ℕ, zero, suc, ◌+◌, Bool, true, false, ◌&&◌, ◌||◌, List, [], ◌∷◌, ◌++◌, length, drop, leb, eqb, Option, Some, None}

-- a where the test passes, else b. A branch that may be long, or that goes by numbers not yet checked, is bound by a `let` first
abbrev pub pick : {A : Type 0} → Bool → A → A → A
pick true a b = a
pick false a b = b

-- a test as a number: 1 where it passes, else 0
abbrev pub bit_of : Bool → ℕ
bit_of t = pick t 1 0

-- a slot as the code hands it on: none where the paper says 0
abbrev pub some_slot : ℕ → Option ℕ
some_slot zero = None
some_slot (suc s) = Some (suc s)

-- x stands among them
unfoldable pub has : ℕ → List ℕ → Bool
has x [] = false
has x (y ∷ ys) = eqb x y || has x ys

-- two lists hold the same numbers in the same order
unfoldable pub same : List ℕ → List ℕ → Bool
same [] [] = true
same [] (y ∷ ys) = false
same (x ∷ xs) [] = false
same (x ∷ xs) (y ∷ ys) = eqb x y && same xs ys

-- those that pass a test, in their order
unfoldable pub keep : (ℕ → Bool) → List ℕ → List ℕ
keep t [] = []
keep t (x ∷ xs) = let rest = keep t xs in pick (t x) (x ∷ rest) rest

-- how many pass a test before the first that fails it
unfoldable pub leading : (ℕ → Bool) → List ℕ → ℕ
leading t [] = 0
leading t (x ∷ xs) = pick (t x) (1 + leading t xs) 0

-- the first of them that is not below x; 0: there is none
unfoldable pub first_from : ℕ → List ℕ → ℕ
first_from x [] = 0
first_from x (y ∷ ys) = let behind = first_from x ys in pick (leb x y) y behind

-- k numbers that rise by one: x, x + 1 ..
unfoldable pub up_from : ℕ → ℕ → List ℕ
up_from x zero = []
up_from x (suc k) = x ∷ up_from (x + 1) k

-- their sum
unfoldable pub total : List ℕ → ℕ
total [] = 0
total (x ∷ xs) = x + total xs

-- the last of x and then xs
abbrev pub last_of : ℕ → List ℕ → ℕ
last_of x [] = x
last_of x (y ∷ ys) = last_of y ys

-- a buffer with xs written to its front: what stood behind them stays
abbrev pub on_front : List ℕ → List ℕ → List ℕ
on_front xs before = xs ++ drop (length xs) before
