-- [Order 2] The sixteen places of an answer: what is charged to a position, one charge more or none; what stands in a place; and that a list with this
-- in each of its places is they.
use Prim.Native.Nat.{ℕ, zero, suc, ◌+◌, ◌<◌}
use mathlib.Core.Path.{◌≡◌, refl, sym, ap, ◌∙◌}
use mathlib.Core.List.{List, [], ◌∷◌, map}
use native.Mathlib.Nat.{zero-add}
use native.Mathlib.Omega.{arith}
use lib.ListN.{length, get_or}
use lib.Seq.{ext_get_or}
use borrow.Author.Tests.{eq-eqb, ne_eqb}
use Rattle.paper.specs.Lists.{up_from}
use Rattle.paper.specs.Question.{Charge, charged_at, places}

-- what is said of x, x + 1 ..
up_at : (g : ℕ → ℕ) (x k i : ℕ) → i < k → get_or (map g (up_from x k)) i 0 ≡ g (x + i)
unfolding up_from
up_at g x zero i l = absurd (omega arith)
up_at g x (suc k) zero l = let e : x ≡ x + 0 = omega arith in ap g e
up_at g x (suc k) (suc i) l = let e : x + 1 + i ≡ x + suc i = omega arith in up_at g (x + 1) k i (omega arith) ∙ ap g e

-- in looks or in codes
module _ (f : Charge → ℕ) where
  -- without a charge there is nothing to pay
  pub charged_none : (i : ℕ) → charged_at f [] i ≡ 0
  unfolding charged_at
  charged_none i = refl

  -- a charge counts at its position
  pub charged_here : (c : Charge) (cs : List Charge) (i : ℕ) → c.position ≡ i → charged_at f (c ∷ cs) i ≡ f c + charged_at f cs i
  unfolding charged_at
  charged_here c cs i e = rw (eq-eqb c.position i e)

  -- and at no other
  pub charged_there : (c : Charge) (cs : List Charge) (i : ℕ) → ¬ (c.position ≡ i) → charged_at f (c ∷ cs) i ≡ charged_at f cs i
  unfolding charged_at
  charged_there c cs i n = rw (ne_eqb c.position i n) (omega arith)

  module _ (cs : List Charge) where
    -- there are sixteen
    pub places_length : length (places f cs) ≡ 16
    unfolding places up_from
    places_length = refl

    -- each has what is charged to its position
    pub place_at : (i : ℕ) → i < 16 → get_or (places f cs) i 0 ≡ charged_at f cs i
    unfolding places
    place_at i l = up_at (charged_at f cs) 0 16 i l ∙ ap (charged_at f cs) (zero-add i)

    -- and no other list has
    pub places_are : (l : List ℕ) → length l ≡ 16 → ((i : ℕ) → i < 16 → get_or l i 0 ≡ charged_at f cs i) → l ≡ places f cs
    places_are l long each =
        ext_get_or 0 l (places f cs) (long ∙ sym places_length) (λ i h. let k : i < 16 = omega (arith, long) in each i k ∙ sym (place_at i k))
