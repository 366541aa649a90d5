-- The search in closed form: which positions doubling looks at, where that ends, and between which two the gap is halved then.
use Prim.Native.Nat.{ℕ, zero, suc, ◌+◌, ◌^◌, ◌≤◌, ◌<◌}
use mathlib.Core.Path.{◌≡◌, refl, sym, ap, ◌∙◌}
use mathlib.Core.Logic.{◌⊎◌}
use mathlib.Core.Logic.◌⊎◌.{inl, inr}
use mathlib.Core.List.{List, [], ◌∷◌, ◌++◌, map, append_assoc, map-append}
use native.Mathlib.Decide.{dec_le, ℕ_discrete}
use native.Mathlib.Nat.{add-zero, pow-succ'}
use native.Mathlib.Omega.{arith}
use lib.Pow.{pow_pos}
use Rattle.paper.specs.Lists.{up_from}
use Rattle.paper.specs.Search.{Sought, saw, halved, galloped, searched}
use Rattle.laws.proofs.Lists.{up_join}
use Rattle.laws.proofs.Searches.{gallop_past, gallop_fail, gallop_good}

-- the first k positions of doubling from the finger p on: p + 1, p + 2, p + 4 ..
abbrev pub doublings : ℕ → ℕ → List ℕ
doublings p k = map (λ i. p + 2 ^ i) (up_from 0 k)

-- the last good position after k good ones: the finger itself where there was none
abbrev pub last_good : ℕ → ℕ → ℕ
last_good p zero = p
last_good p (suc k) = p + 2 ^ k

-- looks at these positions one after the other, and then the rest
abbrev pub sees : List ℕ → Sought → Sought
sees is t = record { j = t.j; seen = is ++ t.seen }

-- the first k positions of doubling are within m, and their entries good
abbrev pub GoodSoFar : (ℕ → ℕ) → ℕ → ℕ → ℕ → ℕ → Type 0
GoodSoFar s x m p k = (i : ℕ) → i < k → (p + 2 ^ i ≤ m) × (s (p + 2 ^ i) ≤ x)

one_more : (p k : ℕ) → doublings p (suc k) ≡ doublings p k ++ ((p + 2 ^ k) ∷ [])
unfolding up_from
one_more p k =
    let e : suc k ≡ k + 1 = omega arith in
    let z : 0 + k ≡ k = omega arith in
    ap (doublings p) e ∙ ap (map (λ i. p + 2 ^ i)) (up_join 0 k 1) ∙ map-append (λ i. p + 2 ^ i) (up_from 0 k) (up_from (0 + k) 1)
    ∙ ap (λ (n : ℕ). doublings p k ++ ((p + 2 ^ n) ∷ [])) z

-- one look more
sees_more : (p k : ℕ) (t : Sought) → sees (doublings p k) (saw (p + 2 ^ k) t) ≡ sees (doublings p (suc k)) t
sees_more p k t =
    let e = sym (append_assoc (doublings p k) ((p + 2 ^ k) ∷ []) t.seen) ∙ ap (λ (is : List ℕ). is ++ t.seen) (sym (one_more p k)) in
    ap (λ (is : List ℕ). record { j = t.j; seen = is }) e

-- a number is below the power of two that it tells
below_power : (n : ℕ) → n < 2 ^ n
below_power zero = omega arith
below_power (suc n) = let h = below_power n in omega arith

module _ (s : ℕ → ℕ) (x m p : ℕ) where
  -- after k good looks
  so_far : (k : ℕ) → GoodSoFar s x m p k → searched s x m p ≡ sees (doublings p k) (galloped s x m p (2 ^ k) (last_good p k))
  unfolding searched up_from
  so_far zero g = refl
  so_far (suc k) g =
      let h = g k (omega arith) in
      let on = gallop_good s x m p (2 ^ k) (last_good p k) (pow_pos k) h.0 h.1 in
      so_far k (λ i l. g i (omega arith)) ∙ ap (sees (doublings p k)) on ∙ sees_more p k _
      ∙ ap (λ (d : ℕ). sees (doublings p (suc k)) (galloped s x m p d (p + 2 ^ k))) (sym (pow-succ' 2 k))

  module _ (k : ℕ) (g : GoodSoFar s x m p k) where
    -- the next position lies past m
    pub search_past_m : m < p + 2 ^ k → searched s x m p ≡ sees (doublings p k) (halved s x (last_good p k) (m + 1))
    search_past_m l = so_far k g ∙ ap (sees (doublings p k)) (gallop_past s x m p (2 ^ k) (last_good p k) (pow_pos k) l)

    -- or its entry fails
    pub search_fails : p + 2 ^ k ≤ m → x < s (p + 2 ^ k) → searched s x m p ≡ sees (doublings p (suc k)) (halved s x (last_good p k) (p + 2 ^ k))
    search_fails l b = so_far k g ∙ ap (sees (doublings p k)) (gallop_fail s x m p (2 ^ k) (last_good p k) (pow_pos k) l b) ∙ sees_more p k _

  -- doubling ends: after k good positions the next one lies past m, or its entry is above x
  abbrev pub Ends : Type 0
  Ends = (k : ℕ) × GoodSoFar s x m p k × ((m < p + 2 ^ k) ⊎ ((p + 2 ^ k ≤ m) × (x < s (p + 2 ^ k))))

  -- one good position more
  good_more : (k : ℕ) → GoodSoFar s x m p k → p + 2 ^ k ≤ m → s (p + 2 ^ k) ≤ x → GoodSoFar s x m p (suc k)
  good_more k g a b i l =
      elim (ℕ_discrete i k) [
        | yes e ↦ rw e (a, b)
        | no n ↦ g i (omega arith)
      ]

  -- f more positions lead past m
  ends_within : (f k : ℕ) → GoodSoFar s x m p k → m < p + 2 ^ (k + f) → Ends
  ends_within zero k g h = (k, g, inl (rw add-zero at h))
  ends_within (suc f) k g h =
      elim (dec_le (p + 2 ^ k) m) [
        | no a ↦ (k, g, inl (omega arith))
        | yes a ↦
            elim (dec_le (s (p + 2 ^ k)) x) [
              | no b ↦ (k, g, inr (a, omega arith))
              | yes b ↦ let e : k + suc f ≡ suc k + f = omega arith in ends_within f (suc k) (good_more k g a b) (rw e at h)
            ]
      ]

  -- and m positions always do
  pub search_ends : Ends
  search_ends = let b = below_power m in let e : 0 + m ≡ m = omega arith in ends_within m 0 (λ i l. absurd (omega arith)) (rw e (omega arith))
