-- Strictly ascending lists of slots, where a slot stands in one, and the first slot that is not below another.
use Prim.Native.Nat.{ℕ, zero, suc, ◌+◌, ◌≤◌, ◌<◌}
use mathlib.Core.Path.{◌≡◌, sym, ap, ◌∙◌, refl}
use mathlib.Core.Bool.{true, false}
use mathlib.Core.List.{List, [], ◌∷◌, ◌++◌}
use native.Mathlib.Decide.{dec_le, ℕ_discrete}
use native.Mathlib.Omega.{arith}
use lib.Dec.{eqb}
use lib.ListN.{length, get_or, take, drop}
use borrow.Author.Tests.{eq-eqb, ne_eqb, lt-leb, le-ltb}
use Rattle.paper.specs.Lists.{has, first_from, last_of}
use Rattle.paper.specs.Refusal.{good_slots}
use Rattle.laws.proofs.Lists.{In, has_none, has_here, has_there, first_none, first_here, first_on}
use Rattle.laws.proofs.Lists.In.{here, there}
use Rattle.laws.proofs.Parts.{front}

-- each slot is above the one before it, the first above prev, and none above u
abbrev pub Ascends : ℕ → ℕ → List ℕ → Type 0
Ascends u prev [] = Unit {0}
Ascends u prev (x ∷ xs) = (prev < x) × (x ≤ u) × Ascends u x xs

-- Ascending lists: the bounds may be widened
pub rise_lower : (u l p : ℕ) (xs : List ℕ) → l ≤ p → Ascends u p xs → Ascends u l xs
rise_lower u l p [] h a = tt
rise_lower u l p (x ∷ xs) h a = (omega arith, a.1, a.2)

-- the upper one
pub rise_higher : (v u p : ℕ) (xs : List ℕ) → u ≤ v → Ascends u p xs → Ascends v p xs
rise_higher v u p [] h a = tt
rise_higher v u p (x ∷ xs) h a = (a.0, omega arith, rise_higher v u x xs h a.2)

-- the last slot is not below the start
pub last_most : (u p : ℕ) (xs : List ℕ) → Ascends u p xs → p ≤ last_of p xs
last_most u p [] a = omega arith
last_most u p (x ∷ xs) a = let r = last_most u x xs a.2 in omega arith

-- and not above u
pub last_within : (u p : ℕ) (xs : List ℕ) → p ≤ u → Ascends u p xs → last_of p xs ≤ u
last_within u p [] h a = h
last_within u p (x ∷ xs) h a = last_within u x xs a.1 a.2

-- two of them joined
module _ (u : ℕ) where
  -- the second goes on from the last slot of the first
  pub rise_join : (p : ℕ) (xs ys : List ℕ) → Ascends u p xs → Ascends u (last_of p xs) ys → Ascends u p (xs ++ ys)
  rise_join p [] ys a b = b
  rise_join p (x ∷ xs) ys a b = (a.0, a.1, rise_join x xs ys a.2 b)

  -- the first part of a list
  pub rise_front : (p : ℕ) (xs ys : List ℕ) → Ascends u p (xs ++ ys) → Ascends u p xs
  rise_front p [] ys a = tt
  rise_front p (x ∷ xs) ys a = (a.0, a.1, rise_front x xs ys a.2)

  -- the second part of it
  pub rise_back : (p : ℕ) (xs ys : List ℕ) → Ascends u p (xs ++ ys) → Ascends u (last_of p xs) ys
  rise_back p [] ys a = a
  rise_back p (x ∷ xs) ys a = rise_back x xs ys a.2

  -- those behind the first i, with the same lower bound
  rise_drop : (p i : ℕ) (xs : List ℕ) → Ascends u p xs → Ascends u p (drop i xs)
  rise_drop p zero xs a = a
  rise_drop p (suc i) [] a = tt
  rise_drop p (suc i) (x ∷ xs) a = rise_drop p i xs (rise_lower u p x xs (omega arith) a.2)

  -- and so where the first of them is x
  pub rise_at : (p i : ℕ) (xs : List ℕ) → Ascends u p xs → i < length xs → (x : ℕ) → x ≡ get_or xs i 0 → Ascends u p (x ∷ drop (i + 1) xs)
  rise_at p i xs a l x is = rw (front xs i x l is) at (rise_drop p i xs a)

  -- the first i
  pub rise_take : (p i : ℕ) (xs : List ℕ) → Ascends u p xs → Ascends u p (take i xs)
  rise_take p zero xs a = tt
  rise_take p (suc i) [] a = tt
  rise_take p (suc i) (x ∷ xs) a = (a.0, a.1, rise_take x i xs a.2)

  -- there are no more of them than numbers above p within u
  pub rise_length : (p : ℕ) (xs : List ℕ) → p ≤ u → Ascends u p xs → p + length xs ≤ u
  rise_length p [] h a = omega arith
  rise_length p (x ∷ xs) h a = let r = rise_length x xs a.1 a.2 in omega arith

-- a slot that rises is good, and so all are that rise
module _ (u : ℕ) where
  pub good_more : (p x : ℕ) (xs : List ℕ) → p < x → x ≤ u → good_slots u p (x ∷ xs) ≡ 1 + good_slots u x xs
  unfolding good_slots
  good_more p x xs l h = rw (lt-leb x p l, le-ltb u x h)

  pub good_all : (p : ℕ) (xs : List ℕ) → Ascends u p xs → good_slots u p xs ≡ length xs
  unfolding good_slots
  good_all p [] a = refl
  good_all p (x ∷ xs) a = good_more p x xs a.0 a.1 ∙ rw (good_all x xs a.2) (omega arith)

-- each of them is above p and within u
pub in_rising : (u p x : ℕ) (xs : List ℕ) → Ascends u p xs → In x xs → (p < x) × (x ≤ u)
in_rising u p x [] a x4 = elim x4 [ ]
in_rising u p x (y ∷ ys) a (here e) = rw e (a.0, a.1)
in_rising u p x (y ∷ ys) a (there i) = let t = in_rising u y x ys a.2 i in (omega (arith, a.0), t.1)

-- what is not above the start, or is above the end, is not in the list
pub has_low : (u p x : ℕ) (xs : List ℕ) → Ascends u p xs → x ≤ p → has x xs ≡ false
has_low u p x [] a h = has_none x
has_low u p x (y ∷ ys) a h = has_there x y ys (omega arith) ∙ has_low u y x ys a.2 (omega arith)

-- one above u
pub has_high : (u p x : ℕ) (xs : List ℕ) → Ascends u p xs → u < x → has x xs ≡ false
has_high u p x [] a h = has_none x
has_high u p x (y ∷ ys) a h = has_there x y ys (omega arith) ∙ has_high u y x ys a.2 h

-- A search in an ascending list may stop at the first slot that is not below x
module _ (x y : ℕ) (ys : List ℕ) where
  -- a slot above x: x is not there
  pub stop_above : (u : ℕ) → Ascends u y ys → x < y → has x (y ∷ ys) ≡ false
  stop_above u a h = has_there x y ys (omega arith) ∙ has_low u y x ys a (omega arith)

  -- x itself
  pub stops_at : y ≡ x → has x (y ∷ ys) ≡ true
  stops_at e = has_here x y ys (sym e)

  -- a slot below x: x can only stand behind it
  pub pass_below : y < x → has x (y ∷ ys) ≡ has x ys
  pass_below h = has_there x y ys (omega arith)

-- The first slot that is not below x: there is none where x is above u
pub first_high : (u p x : ℕ) (xs : List ℕ) → Ascends u p xs → u < x → first_from x xs ≡ 0
first_high u p x [] a h = first_none x
first_high u p x (y ∷ ys) a h = first_on x y ys (omega arith) ∙ first_high u y x ys a.2 h

-- and none where x is above the last slot
pub first_after : (u p x : ℕ) (xs : List ℕ) → Ascends u p xs → last_of p xs < x → first_from x xs ≡ 0
first_after u p x [] a h = first_none x
first_after u p x (y ∷ ys) a h = let m = last_most u y ys a.2 in first_on x y ys (omega arith) ∙ first_after u y x ys a.2 h

-- x stands in the list exactly where that slot is x itself
pub first_has : (u p x : ℕ) (xs : List ℕ) → 0 < x → Ascends u p xs → has x xs ≡ eqb (first_from x xs) x
first_has u p x [] l a = let n : ¬ (0 ≡ x) = omega arith in has_none x ∙ sym (ne_eqb 0 x n) ∙ ap (λ (s : ℕ). eqb s x) (sym (first_none x))
first_has u p x (y ∷ ys) l a =
    elim (dec_le x y) [
      | yes h ↦ stops h (ℕ_discrete y x) ∙ ap (λ (s : ℕ). eqb s x) (sym (first_here x y ys h))
      | no g ↦
          let h : y < x = omega arith in
          pass_below x y ys h ∙ first_has u y x ys l a.2 ∙ ap (λ (s : ℕ). eqb s x) (sym (first_on x y ys h))
    ]
  where
    stops : x ≤ y → Dec (y ≡ x) → has x (y ∷ ys) ≡ eqb y x
    stops h (yes e) = stops_at x y ys e ∙ sym (eq-eqb y x e)
    stops h (no n) = stop_above x y ys u a.2 (omega arith) ∙ sym (ne_eqb y x n)
