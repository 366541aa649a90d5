-- What the plain way keeps: where candidates and slots rise, exactly the candidates that the list holds.
use Prim.Native.Nat.{ℕ, ◌≤◌, ◌<◌}
use mathlib.Core.Path.{◌≡◌, refl, sym, ap, ◌∙◌}
use mathlib.Core.Bool.{Bool, true, false}
use mathlib.Core.List.{List, [], ◌∷◌, ◌++◌, flatten}
use native.Mathlib.Decide.{dec_le, ℕ_discrete}
use native.Mathlib.Omega.{arith}
use lib.Dec.{eqb}
use lib.ListN.{length}
use borrow.Author.Tests.{eq-eqb, ne_eqb}
use Rattle.paper.specs.Lists.{pick, has, keep}
use Rattle.paper.specs.Record.{cut_of, bits_of, bit_at, tail_of, record_fault}
use Rattle.paper.specs.Held.{contents, listed}
use Rattle.laws.proofs.Lists.{has_none, keep_fail}
use Rattle.meaning.proofs.Rising.{Ascends, rise_lower, stops_at, stop_above, pass_below}
use Rattle.meaning.proofs.Sound.{tail_rise, has_bit, has_tail}
use Rattle.plain.specs.Sifted.{up_to, by_slots, plainly}
use Rattle.plain.proofs.Steps.{up_here, up_above}

-- two tests that agree on what is above a keep the same of a list that rises above a
pub keep_same : (f g : ℕ → Bool) (u a : ℕ) → ((x : ℕ) → a < x → f x ≡ g x) → (xs : List ℕ) → Ascends u a xs → keep f xs ≡ keep g xs
unfolding keep
keep_same f g u a e [] r = refl
keep_same f g u a e (x ∷ xs) r =
    let rest : keep f xs ≡ keep g xs = keep_same f g u a e xs (rise_lower u a x xs (omega arith) r.2) in
    rw (e x r.0, rest)

-- a test that fails on all of them keeps nothing
pub keep_none : (f : ℕ → Bool) (u a : ℕ) → ((x : ℕ) → a < x → f x ≡ false) → (xs : List ℕ) → Ascends u a xs → keep f xs ≡ []
unfolding keep
keep_none f u a e [] r = refl
keep_none f u a e (x ∷ xs) r = keep_fail f x xs (e x r.0) ∙ keep_none f u a e xs (rise_lower u a x xs (omega arith) r.2)

-- Candidates that rise above a, of which those up to y are told by a test t
module _ (u y : ℕ) (t : ℕ → Bool) where
  -- those left are above y
  pub left_rise : (a : ℕ) (xs : List ℕ) → Ascends u a xs → Ascends u y (up_to y t xs).left
  unfolding up_to
  left_rise a [] r = tt
  left_rise a (x ∷ xs) r =
      elim (dec_le x y) [
        | yes l ↦ rw (up_here y t x xs l) (left_rise x xs r.2)
        | no n ↦ rw (up_above y t x xs (omega arith)) (omega arith, r.1, r.2)
      ]

  -- those kept, and what f says of those left, are what another test h keeps of all: where t agrees with it up to y, and f behind y
  module _ (f : List ℕ → List ℕ) (h : ℕ → Bool) (high : (xs : List ℕ) → Ascends u y xs → f xs ≡ keep h xs) where
    pub both : (a : ℕ) → ((x : ℕ) → a < x → x ≤ y → t x ≡ h x) → (xs : List ℕ) → Ascends u a xs → (up_to y t xs).kept ++ f (up_to y t xs).left ≡ keep h xs
    unfolding up_to keep
    both a low [] r = high [] tt
    both a low (x ∷ xs) r =
        elim (dec_le x y) [
          | yes l ↦ rw (up_here y t x xs l, low x r.0 l) (go (h x) _ _ _ (both x (λ z k. low z (omega arith)) xs r.2))
          | no n ↦ rw (up_above y t x xs (omega arith)) (high (x ∷ xs) (omega arith, r.1, r.2))
        ]
      where
        go : (b : Bool) (ks ls ms : List ℕ) → ks ++ ls ≡ ms → pick b (x ∷ ks) ks ++ ls ≡ pick b (x ∷ ms) ms
        go true ks ls ms e = ap (λ (l : List ℕ). x ∷ l) e
        go false ks ls ms e = e

-- of the slots y and ys, only y can be one up to y
first_only : (v y : ℕ) (ys : List ℕ) → Ascends v y ys → (x : ℕ) → x ≤ y → eqb y x ≡ has x (y ∷ ys)
first_only v y ys r x l =
    elim (ℕ_discrete y x) [
      | yes e ↦ eq-eqb y x e ∙ sym (stops_at x y ys e)
      | no n ↦ ne_eqb y x n ∙ sym (stop_above x y ys v r (omega arith))
    ]

-- by slots: those that are slots are kept
slots_keep : (u v p : ℕ) (ys : List ℕ) → Ascends v p ys → (a : ℕ) (xs : List ℕ) → Ascends u a xs → (by_slots ys xs).kept ≡ keep (λ x. has x ys) xs
unfolding by_slots
slots_keep u v p [] r a xs s = sym (keep_none (λ x. has x []) u a (λ x l. has_none x) xs s)
slots_keep u v p (y ∷ ys) r a xs s =
    both u y (eqb y) (λ zs. (by_slots ys zs).kept) (λ x. has x (y ∷ ys))
    (λ zs t. slots_keep u v y ys r.2 y zs t ∙ keep_same (λ x. has x ys) (λ x. has x (y ∷ ys)) u y (λ x l. sym (pass_below x y ys l)) zs t)
    a (λ x m l. first_only v y ys r.2 x l) xs s

-- through a whole list: those that it holds are kept
pub plainly_keeps : (u B : ℕ) (r : List ℕ) → 1 ≤ B → record_fault u B (length r) r ≡ 0 → (xs : List ℕ) → Ascends u 0 xs
    → plainly (listed u B r) xs ≡ keep (λ x. has x (contents u B r)) xs
unfolding plainly listed
plainly_keeps u B r pos ok xs s =
    let slots = flatten (tail_of u B r).blocks in
    both u (cut_of r) (bit_at (bits_of r)) (λ zs. (by_slots slots zs).kept) (λ x. has x (contents u B r))
    (λ zs t.
    slots_keep u u (cut_of r) slots (tail_rise u B r pos ok) (cut_of r) zs t
    ∙ keep_same (λ x. has x slots) (λ x. has x (contents u B r)) u (cut_of r) (λ x l. sym (has_tail u B r pos ok x l)) zs t)
    0 (λ x m l. sym (has_bit u B r pos ok x m l)) xs s
