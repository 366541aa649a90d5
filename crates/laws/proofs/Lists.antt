-- Choice by a test, and the plain words on lists: where a number stands, what each number is, those that pass a test, the first that is not below a number,
-- numbers that rise by one, and the last.
use Prim.Native.Nat.{ℕ, zero, suc, ◌+◌, ◌≤◌, ◌<◌}
use mathlib.Core.Path.{◌≡◌, refl, sym, ap, ◌∙◌}
use mathlib.Core.Bool.{Bool, true, false, ◌&&◌, ◌||◌, and-false, or_assoc, or-true, or-false, true≢false}
use mathlib.Core.Logic.{◌↔◌}
use mathlib.Core.List.{List, [], ◌∷◌, ◌++◌, map}
use native.Mathlib.Decide.{dec_le, ℕ_discrete}
use native.Mathlib.Nat.{add-zero, zero-add}
use native.Mathlib.Omega.{arith}
use lib.Dec.{eqb}
use lib.ListN.{length, get_or}
use borrow.Author.Tests.{le-leb, lt-leb, eq-eqb, ne_eqb}
use Rattle.paper.specs.Lists.{pick, has, keep, first_from, up_from, last_of}

-- a choice between one thing and itself
pub same_either : {A : Type 0} (t : Bool) (v : A) → pick t v v ≡ v
same_either true v = refl
same_either false v = refl

-- x is one of the list
pub data In (x : ℕ) : List ℕ → Type 0 where
  here : {y : ℕ} {ys : List ℕ} → x ≡ y → In x (y ∷ ys)
  there : {y : ℕ} {ys : List ℕ} → In x ys → In x (y ∷ ys)

-- `has`, one element at a time
pub has_none : (x : ℕ) → has x [] ≡ false
unfolding has
has_none x = refl

-- the first is x
pub has_here : (x y : ℕ) (ys : List ℕ) → x ≡ y → has x (y ∷ ys) ≡ true
unfolding has
has_here x y ys e = simp (eq-eqb _ _ e)

-- the first is another
pub has_there : (x y : ℕ) (ys : List ℕ) → ¬ (x ≡ y) → has x (y ∷ ys) ≡ has x ys
unfolding has
has_there x y ys n = simp (ne_eqb _ _ n)

-- has says so of each that is one of the list
pub has_in : (x : ℕ) (ys : List ℕ) → In x ys → has x ys ≡ true
has_in x [] it = elim it [ ]
has_in x (y ∷ ys) (here e) = has_here x y ys e
has_in x (y ∷ ys) (there i) =
    elim (ℕ_discrete x y) [
      | yes e ↦ has_here x y ys e
      | no n ↦ has_there x y ys n ∙ has_in x ys i
    ]

-- where `has` says so, x is one of the list
pub in_has : (x : ℕ) (ys : List ℕ) → has x ys ≡ true → In x ys
in_has x [] h = absurd (true≢false (sym h ∙ has_none x))
in_has x (y ∷ ys) h =
    elim (ℕ_discrete x y) [
      | yes e ↦ here e
      | no n ↦ there (in_has x ys (sym (has_there x y ys n) ∙ h))
    ]

-- each says the other
pub has_exactly : (x : ℕ) (ys : List ℕ) → (has x ys ≡ true) ↔ In x ys
has_exactly x ys = (in_has x ys, has_in x ys)

-- the number at a place is one of the list
pub in_at : (xs : List ℕ) (i : ℕ) → i < length xs → In (get_or xs i 0) xs
in_at [] i l = absurd (omega arith)
in_at (x ∷ xs) zero l = here refl
in_at (x ∷ xs) (suc i) l = there (in_at xs i (omega arith))

-- and it is the same, whatever stands for one past the end
pub at_any : (xs : List ℕ) (i a b : ℕ) → i < length xs → get_or xs i a ≡ get_or xs i b
at_any [] i a b l = absurd (omega arith)
at_any (x ∷ xs) zero a b l = refl
at_any (x ∷ xs) (suc i) a b l = at_any xs i a b (omega arith)

-- each of a list is of one kind
abbrev pub Each : {A : Type 0} → (A → Type 0) → List A → Type 0
Each P [] = Unit {0}
Each P (x ∷ xs) = P x × Each P xs

-- what each is may be said more widely
pub each_wide : {A : Type 0} (P Q : A → Type 0) → ((x : A) → P x → Q x) → (xs : List A) → Each P xs → Each Q xs
each_wide P Q f [] e = tt
each_wide P Q f (x ∷ xs) e = (f x e.0, each_wide P Q f xs e.1)

module _ (P : ℕ → Type 0) where
  -- the one at a place is of that kind too
  pub each_at : (xs : List ℕ) → Each P xs → (i : ℕ) → i < length xs → P (get_or xs i 0)
  each_at [] e i l = absurd (omega arith)
  each_at (x ∷ xs) e zero l = e.0
  each_at (x ∷ xs) e (suc i) l = each_at xs e.1 i (omega arith)

  -- and any of them
  pub each_in : (xs : List ℕ) → Each P xs → (z : ℕ) → In z xs → P z
  each_in [] e z it = elim it [ ]
  each_in (x ∷ xs) e z (here i) = rw i e.0
  each_in (x ∷ xs) e z (there i) = each_in xs e.1 z i

-- two lists joined
module _ (x : ℕ) where
  -- in one or in the other
  pub has_joined : (xs ys : List ℕ) → has x (xs ++ ys) ≡ has x xs || has x ys
  unfolding has
  has_joined [] ys = refl
  has_joined (y ∷ xs) ys = rw (has_joined xs ys) (sym (or_assoc (eqb x y) (has x xs) (has x ys)))

  -- a part that does not hold x plays no part
  pub has_front : (xs ys : List ℕ) → has x ys ≡ false → has x (xs ++ ys) ≡ has x xs
  has_front xs ys h = has_joined xs ys ∙ rw h (or-false (has x xs))

  -- nor if it is the first
  pub has_behind : (xs ys : List ℕ) → has x xs ≡ false → has x (xs ++ ys) ≡ has x ys
  has_behind xs ys h = has_joined xs ys ∙ rw h

  -- a part that holds x is enough
  pub in_front : (xs ys : List ℕ) → has x xs ≡ true → has x (xs ++ ys) ≡ true
  in_front xs ys h = has_joined xs ys ∙ rw h

  -- also if it is the second
  pub in_behind : (xs ys : List ℕ) → has x ys ≡ true → has x (xs ++ ys) ≡ true
  in_behind xs ys h = has_joined xs ys ∙ rw h (or-true (has x xs))

-- Those that pass a test
module _ (t : ℕ → Bool) where
  -- one that passes stays
  pub keep_pass : (x : ℕ) (xs : List ℕ) → t x ≡ true → keep t (x ∷ xs) ≡ x ∷ keep t xs
  unfolding keep
  keep_pass x xs e = rw e

  -- and one that fails goes
  pub keep_fail : (x : ℕ) (xs : List ℕ) → t x ≡ false → keep t (x ∷ xs) ≡ keep t xs
  unfolding keep
  keep_fail x xs e = rw e

  -- those of two lists joined
  pub keep_join : (xs ys : List ℕ) → keep t (xs ++ ys) ≡ keep t xs ++ keep t ys
  unfolding keep
  keep_join [] ys = refl
  keep_join (x ∷ xs) ys = rw (keep_join xs ys) (go (t x))
    where
      go : (b : Bool) → pick b (x ∷ (keep t xs ++ keep t ys)) (keep t xs ++ keep t ys) ≡ pick b (x ∷ keep t xs) (keep t xs) ++ keep t ys
      go true = refl
      go false = refl

  -- they are not more than all
  pub keep_length : (xs : List ℕ) → length (keep t xs) ≤ length xs
  unfolding keep
  keep_length [] = omega arith
  keep_length (x ∷ xs) = go (t x) (keep_length xs)
    where
      go : (b : Bool) → length (keep t xs) ≤ length xs → length (pick b (x ∷ keep t xs) (keep t xs)) ≤ suc (length xs)
      go true h = omega arith
      go false h = omega arith

  -- of the k numbers from x on: x passes
  pub up_pass : (x k : ℕ) → t x ≡ true → keep t (up_from x (suc k)) ≡ x ∷ keep t (up_from (x + 1) k)
  unfolding up_from
  up_pass x k e = keep_pass x (up_from (x + 1) k) e

  -- or fails
  pub up_fail : (x k : ℕ) → t x ≡ false → keep t (up_from x (suc k)) ≡ keep t (up_from (x + 1) k)
  unfolding up_from
  up_fail x k e = keep_fail x (up_from (x + 1) k) e

-- numbers that rise by one, joined
pub up_join : (x j k : ℕ) → up_from x (j + k) ≡ up_from x j ++ up_from (x + j) k
unfolding up_from
up_join x zero k = simp (add-zero, zero-add)
up_join x (suc j) k =
    let n : suc j + k ≡ suc (j + k) = omega arith in
    let e : x + 1 + j ≡ x + suc j = omega arith in
    ap (up_from x) n ∙ ap (λ (l : List ℕ). x ∷ l) (up_join (x + 1) j k ∙ ap (λ (y : ℕ). up_from (x + 1) j ++ up_from y k) e)

-- the last of joined lists
pub last_join : (p : ℕ) (xs ys : List ℕ) → last_of p (xs ++ ys) ≡ last_of (last_of p xs) ys
last_join p [] ys = refl
last_join p (x ∷ xs) ys = last_join x xs ys

-- tests of what passed others
module _ (t : ℕ → Bool) where
  -- where all pass, all stay
  pub keep_all : (xs : List ℕ) → ((x : ℕ) → t x ≡ true) → keep t xs ≡ xs
  unfolding keep
  keep_all [] h = refl
  keep_all (x ∷ xs) h = keep_pass t x xs (h x) ∙ ap (λ (l : List ℕ). x ∷ l) (keep_all xs h)

  -- one test after another is both at once
  pub keep_twice : (s : ℕ → Bool) (xs : List ℕ) → keep t (keep s xs) ≡ keep (λ x. s x && t x) xs
  unfolding keep
  keep_twice s [] = refl
  keep_twice s (x ∷ xs) = go (s x) refl (keep_twice s xs)
    where
      go : (b : Bool) → s x ≡ b → keep t (keep s xs) ≡ keep (λ x. s x && t x) xs → keep t (keep s (x ∷ xs)) ≡ keep (λ x. s x && t x) (x ∷ xs)
      go true e q = rw (e, q)
      go false e q = rw e q

  -- x stays where it was and passes
  pub has_keep : (x : ℕ) (xs : List ℕ) → has x (keep t xs) ≡ has x xs && t x
  unfolding has keep
  has_keep x [] = refl
  has_keep x (y ∷ ys) = go (t y) refl (ℕ_discrete x y) (has_keep x ys)
    where
      go : (b : Bool) → t y ≡ b → Dec (x ≡ y) → has x (keep t ys) ≡ has x ys && t x → has x (keep t (y ∷ ys)) ≡ has x (y ∷ ys) && t x
      go true e (yes z) q = rw (e, eq-eqb x y z) (sym (ap t z ∙ e))
      go true e (no n) q = rw (e, ne_eqb x y n) q
      go false e (yes z) q = rw (e, q, eq-eqb x y z) (rw (ap t z ∙ e) (and-false (has x ys)))
      go false e (no n) q = rw (e, ne_eqb x y n) q

-- where x stands in a list, it stands at some place
pub has_place : (x : ℕ) (ys : List ℕ) → has x ys ≡ true → (k : ℕ) × (k < length ys) × (get_or ys k 0 ≡ x)
has_place x ys h = go ys (in_has x ys h)
  where
    go : (ys : List ℕ) → In x ys → (k : ℕ) × (k < length ys) × (get_or ys k 0 ≡ x)
    go [] it = elim it [ ]
    go (y ∷ ys) (here e) = (0, omega arith, sym e)
    go (y ∷ ys) (there i) = let p = go ys i in (suc p.0, omega arith, p.2)

-- what a map gives at a place within the list
pub map_at : {A C : Type 0} (f : A → C) (xs : List A) (k : ℕ) (a : A) (c : C) → k < length xs → get_or (map f xs) k c ≡ f (get_or xs k a)
map_at f [] k a c l = absurd (omega arith)
map_at f (x ∷ xs) zero a c l = refl
map_at f (x ∷ xs) (suc k) a c l = map_at f xs k a c (omega arith)

-- The first that is not below x, one element at a time: none
pub first_none : (x : ℕ) → first_from x [] ≡ 0
unfolding first_from
first_none x = refl

module _ (x y : ℕ) (ys : List ℕ) where
  -- y is not below x
  pub first_here : x ≤ y → first_from x (y ∷ ys) ≡ y
  unfolding first_from
  first_here l = simp (le-leb x y l)

  -- it is
  pub first_on : y < x → first_from x (y ∷ ys) ≡ first_from x ys
  unfolding first_from
  first_on l = simp (lt-leb x y l)

-- in a list, or else in the one behind it: 0 is no slot
pub first_joined : (x : ℕ) → 0 < x → (xs ys : List ℕ) → first_from x (xs ++ ys) ≡ pick (eqb (first_from x xs) 0) (first_from x ys) (first_from x xs)
first_joined x p [] ys = rw (first_none x)
first_joined x p (y ∷ xs) ys =
    elim (dec_le x y) [
      | yes l ↦ let n : ¬ (y ≡ 0) = omega arith in rw (first_here x y (xs ++ ys) l, first_here x y xs l, ne_eqb y 0 n)
      | no g ↦ let l : y < x = omega arith in rw (first_on x y (xs ++ ys) l, first_on x y xs l) (first_joined x p xs ys)
    ]

-- where the first list has none
pub first_behind : (x : ℕ) → 0 < x → (xs ys : List ℕ) → first_from x xs ≡ 0 → first_from x (xs ++ ys) ≡ first_from x ys
first_behind x p xs ys e = first_joined x p xs ys ∙ rw e
