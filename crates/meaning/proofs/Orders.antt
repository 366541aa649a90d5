-- The order of the lists named: every position once, by rising count, and of equal counts the one named first.
use Prim.Native.Nat.{ℕ, zero, suc, ◌+◌, ◌≤◌, ◌<◌}
use mathlib.Core.Path.{◌≡◌, refl, sym, ap, subst, ◌∙◌}
use mathlib.Core.Bool.{Bool, true, false, ◌||◌, true≢false}
use mathlib.Core.List.{List, [], ◌∷◌}
use native.Mathlib.Decide.{dec_lt, ℕ_discrete}
use native.Mathlib.Nat.{add-zero, zero-add, le_refl}
use native.Mathlib.Omega.{arith}
use lib.ListN.{length, get_or}
use lib.Dec.{ltb, eqb}
use borrow.Author.Tests.{lt-ltb, le-ltb, eq-eqb, ne_eqb}
use Rattle.paper.specs.Lists.{has}
use Rattle.paper.specs.Question.{placed, order_from, order}
use Rattle.laws.proofs.Lists.{has_none, has_there, in_has, Each, each_wide, each_at, each_in}
use Rattle.laws.proofs.Orders.{place_last, place_here, place_on}

-- tests of numbers
or_swap : (a b c : Bool) → a || (b || c) ≡ b || (a || c)
or_swap true true c = refl
or_swap true false c = refl
or_swap false b c = refl

below_next : (z i : ℕ) → eqb z i || ltb z i ≡ ltb z (i + 1)
below_next z i = go (ℕ_discrete z i) (dec_lt z i)
  where
    go : Dec (z ≡ i) → Dec (z < i) → eqb z i || ltb z i ≡ ltb z (i + 1)
    go (yes e) d = rw (eq-eqb z i e) (sym (lt-ltb z (i + 1) (omega arith)))
    go (no n) (yes l) = rw (ne_eqb z i n) (lt-ltb z i l ∙ sym (lt-ltb z (i + 1) (omega arith)))
    go (no n) (no g) = rw (ne_eqb z i n) (le-ltb z i (omega arith) ∙ sym (le-ltb z (i + 1) (omega arith)))

-- position i comes before position j: its count is smaller, or the same and it is named earlier
pub data Before (counts : List ℕ) (i j : ℕ) : Type 0 where
  fewer : get_or counts i 0 < get_or counts j 0 → Before counts i j
  earlier : get_or counts i 0 ≡ get_or counts j 0 → i < j → Before counts i j

module _ (counts : List ℕ) where
  abbrev count : ℕ → ℕ
  count i = get_or counts i 0

  no_more : (i j : ℕ) → Before counts i j → count i ≤ count j
  no_more i j (fewer l) = omega arith
  no_more i j (earlier e l) = omega arith

  -- i among others: one more, i and they, and each of one kind where i and they are
  module _ (i : ℕ) where
    placed_length : (js : List ℕ) → length (placed count i js) ≡ suc (length js)
    placed_length [] = rw (place_last count i)
    placed_length (j ∷ js) =
        elim (dec_lt (count i) (count j)) [
          | yes l ↦ rw (place_here count i j js l)
          | no g ↦ rw (place_on count i j js (omega arith)) (ap suc (placed_length js))
        ]

    placed_has : (z : ℕ) (js : List ℕ) → has z (placed count i js) ≡ eqb z i || has z js
    unfolding has
    placed_has z [] = rw (place_last count i)
    placed_has z (j ∷ js) =
        elim (dec_lt (count i) (count j)) [
          | yes l ↦ rw (place_here count i j js l)
          | no g ↦ rw (place_on count i j js (omega arith)) (ap (λ (b : Bool). eqb z j || b) (placed_has z js) ∙ or_swap (eqb z j) (eqb z i) (has z js))
        ]

    placed_each : (P : ℕ → Type 0) (js : List ℕ) → P i → Each P js → Each P (placed count i js)
    placed_each P [] p e = rw (place_last count i) (p, tt)
    placed_each P (j ∷ js) p e =
        elim (dec_lt (count i) (count j)) [
          | yes l ↦ rw (place_here count i j js l) (p, e)
          | no g ↦ rw (place_on count i j js (omega arith)) (e.0, placed_each P js p e.1)
        ]

  -- each position comes before all behind it
  abbrev Sorted : List ℕ → Type 0
  Sorted [] = Unit {0}
  Sorted (j ∷ js) = Each (Before counts j) js × Sorted js

  placed_sorted : (i : ℕ) (js : List ℕ) → Each (λ j. j < i) js → Sorted js → Sorted (placed count i js)
  placed_sorted i [] b s = rw (place_last count i) (tt, tt)
  placed_sorted i (j ∷ js) b s =
      elim (dec_lt (count i) (count j)) [
        | yes l ↦
            let on = each_wide (Before counts j) (Before counts i) (λ x e. let m = no_more j x e in fewer (omega arith)) js s.0 in
            rw (place_here count i j js l) ((fewer l, on), s)
        | no g ↦
            let l : count j ≤ count i = omega arith in
            rw (place_on count i j js l) (placed_each i (Before counts j) js (next l (ℕ_discrete (count j) (count i))) s.0, placed_sorted i js b.1 s.1)
      ]
    where
      next : count j ≤ count i → Dec (count j ≡ count i) → Before counts j i
      next l (yes e) = earlier e b.0
      next l (no n) = fewer (omega arith)

  -- All that are placed: how many, which, and in order
  from_has : (z k i : ℕ) (done : List ℕ) → has z done ≡ ltb z i → has z (order_from count k i done) ≡ ltb z (i + k)
  unfolding order_from
  from_has z zero i done h = rw add-zero h
  from_has z (suc k) i done h =
      let e : i + 1 + k ≡ i + suc k = omega arith in
      from_has z k (i + 1) (placed count i done) (placed_has i z done ∙ ap (λ (b : Bool). eqb z i || b) h ∙ below_next z i) ∙ ap (ltb z) e

  from_length : (k i : ℕ) (done : List ℕ) → length (order_from count k i done) ≡ k + length done
  unfolding order_from
  from_length zero i done = omega arith
  from_length (suc k) i done = let l = placed_length i done in from_length k (i + 1) (placed count i done) ∙ omega arith

  -- all below i, and each before those behind it
  record Done (i : ℕ) (done : List ℕ) : Type 0 where
    below : Each (λ j. j < i) done
    sorted : Sorted done

  from_done : (k i : ℕ) (done : List ℕ) → Done i done → Done (i + k) (order_from count k i done)
  unfolding order_from
  from_done zero i done d = rw add-zero d
  from_done (suc k) i done d =
      let e : i + 1 + k ≡ i + suc k = omega arith in
      let b = placed_each i (λ j. j < i + 1) done (omega arith) (each_wide (λ j. j < i) (λ j. j < i + 1) (λ x l. omega arith) done d.below) in
      subst (λ (n : ℕ). Done n (order_from count k (i + 1) (placed count i done))) e
      (from_done k (i + 1) (placed count i done) (record { below = b; sorted = placed_sorted i done d.below d.sorted }))

  sorted_rise : (xs : List ℕ) → Sorted xs → (a b : ℕ) → a < b → b < length xs → Before counts (get_or xs a 0) (get_or xs b 0)
  sorted_rise [] s a b l h = absurd (omega arith)
  sorted_rise (x ∷ xs) s a zero l h = absurd (omega arith)
  sorted_rise (x ∷ xs) s zero (suc b) l h = each_at (Before counts x) xs s.0 b (omega arith)
  sorted_rise (x ∷ xs) s (suc a) (suc b) l h = sorted_rise xs s.1 a b (omega arith) (omega arith)

  sorted_least : (xs : List ℕ) → Sorted xs → (z : ℕ) → has z xs ≡ true → count (get_or xs 0 0) ≤ count z
  sorted_least [] s z h = absurd (true≢false (sym h ∙ has_none z))
  sorted_least (x ∷ xs) s z h =
      elim (ℕ_discrete z x) [
        | yes e ↦ rw e (le_refl (count x))
        | no n ↦ no_more x z (each_in (Before counts x) xs s.0 z (in_has z xs (sym (has_there z x xs n) ∙ h)))
      ]

  -- THE ORDER: as many positions as counts
  pub order_length : length (order counts) ≡ length counts
  unfolding order
  order_length = from_length (length counts) 0 [] ∙ add-zero (length counts)

  -- every one of them
  pub order_has : (i : ℕ) → has i (order counts) ≡ ltb i (length counts)
  unfolding order
  order_has i = rw zero-add at (from_has i (length counts) 0 [] (has_none i ∙ sym (le-ltb i 0 (omega arith))))

  order_done : Done (length counts) (order counts)
  unfolding order
  order_done = rw zero-add at (from_done (length counts) 0 [] (record { below = tt; sorted = tt }))

  -- and no other
  pub order_inside : (i : ℕ) → i < length counts → get_or (order counts) i 0 < length counts
  order_inside i l = each_at (λ j. j < length counts) (order counts) order_done.below i (rw order_length l)

  -- each before those behind it
  pub order_rise : (a b : ℕ) → a < b → b < length counts → Before counts (get_or (order counts) a 0) (get_or (order counts) b 0)
  order_rise a b l h = sorted_rise (order counts) order_done.sorted a b l (rw order_length h)

  apart : (i j : ℕ) → Before counts i j → ¬ (i ≡ j)
  apart i j (fewer l) e = let z : count i ≡ count j = ap count e in absurd (omega arith)
  apart i j (earlier c l) e = absurd (omega arith)

  -- and so none twice
  pub order_once : (a b : ℕ) → a < b → b < length counts → ¬ (get_or (order counts) a 0 ≡ get_or (order counts) b 0)
  order_once a b l h = apart _ _ (order_rise a b l h)

  -- the first has the least count
  pub order_least : (i : ℕ) → i < length counts → get_or counts (get_or (order counts) 0 0) 0 ≤ get_or counts i 0
  order_least i l = sorted_least (order counts) order_done.sorted i (order_has i ∙ lt-ltb i (length counts) l)
