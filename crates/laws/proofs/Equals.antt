-- Two lists held against each other: the test passes exactly where they are one list.
use Prim.Native.Nat.{ℕ}
use mathlib.Core.Path.{◌≡◌, refl, sym, ◌∙◌}
use mathlib.Core.Bool.{Bool, true, false, ◌&&◌, true≢false}
use mathlib.Core.List.{List, [], ◌∷◌}
use lib.Dec.{eqb}
use borrow.Author.Tests.{eqb-true, eq-eqb}
use Rattle.paper.specs.Lists.{same}

-- a list is itself
pub same_refl : (a : List ℕ) → same a a ≡ true
unfolding same
same_refl [] = refl
same_refl (x ∷ a) = rw (eq-eqb x x refl) (same_refl a)

never : {X : Type 0} → false ≡ true → X
never e = absurd (true≢false (sym e))

-- where the test passes they are one list
pub same_true : (a b : List ℕ) → same a b ≡ true → a ≡ b
unfolding same
same_true [] [] e = refl
same_true [] (y ∷ b) e = never e
same_true (x ∷ a) [] e = never e
same_true (x ∷ a) (y ∷ b) e = split (same_true a b) (eqb x y) refl e
  where
    split : (same a b ≡ true → a ≡ b) → (t : Bool) → eqb x y ≡ t → (t && same a b) ≡ true → ◌≡◌ {A = List ℕ} (x ∷ a) (y ∷ b)
    split ih true p q = rw (eqb-true x y p, ih q)
    split ih false p q = never q

-- a test that passes exactly where the lists are one list is this test
pub same_is : (r : Bool) (a b : List ℕ) → (r ≡ true → a ≡ b) → (a ≡ b → r ≡ true) → r ≡ same a b
same_is true a b f g = rw (f refl) (sym (same_refl b))
same_is false a b f g = other (same a b) refl
  where
    other : (t : Bool) → same a b ≡ t → false ≡ t
    other true p = g (same_true a b p)
    other false p = refl

-- where they are not one list it fails
pub same_false : (a b : List ℕ) → ¬ (a ≡ b) → same a b ≡ false
same_false a b n = sym (same_is false a b (λ e. never e) (λ e. absurd (n e)))

-- so it can be told whether they are
pub same_dec : (a b : List ℕ) → Dec (a ≡ b)
same_dec a b = go (same a b) refl
  where
    go : (t : Bool) → same a b ≡ t → Dec (a ≡ b)
    go true p = yes (same_true a b p)
    go false p = no (λ e. never (sym p ∙ rw e (same_refl b)))
