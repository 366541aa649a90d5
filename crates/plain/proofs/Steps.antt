-- Sifting candidates, one at a time: the first of them is told, or is above the slot that it is held against, or there is none.
use Prim.Native.Nat.{ℕ, ◌≤◌, ◌<◌}
use mathlib.Core.Path.{◌≡◌, refl, ap, ◌∙◌}
use mathlib.Core.Bool.{Bool, true, false}
use mathlib.Core.List.{List, [], ◌∷◌, ◌++◌, append_assoc}
use lib.Dec.{eqb}
use borrow.Author.Tests.{le-leb, lt-leb}
use Rattle.paper.specs.Lists.{pick}
use Rattle.plain.specs.Sifted.{Sifted, untold, told, behind, up_to, by_slots}

-- up to y, by a test
module _ (y : ℕ) (t : ℕ → Bool) where
  -- none
  pub up_none : up_to y t [] ≡ untold []
  unfolding up_to
  up_none = refl

  module _ (x : ℕ) (xs : List ℕ) where
    -- the first of them is told
    pub up_here : x ≤ y → up_to y t (x ∷ xs) ≡ told (t x) x (up_to y t xs)
    unfolding up_to
    up_here l = simp (le-leb x y l)

    -- the first of them is above y
    pub up_above : y < x → up_to y t (x ∷ xs) ≡ untold (x ∷ xs)
    unfolding up_to
    up_above l = simp (lt-leb x y l)

-- by slots: none
pub slots_none : (ys : List ℕ) → by_slots ys [] ≡ untold []
unfolding by_slots
slots_none [] = refl
slots_none (y ∷ ys) = rw (up_none y (eqb y)) (slots_none ys)

module _ (y : ℕ) (ys : List ℕ) (x : ℕ) (xs : List ℕ) where
  -- the first of them is told
  pub slots_here : x ≤ y → by_slots (y ∷ ys) (x ∷ xs) ≡ told (eqb y x) x (by_slots (y ∷ ys) xs)
  unfolding by_slots
  slots_here l = rw (up_here y (eqb y) x xs l) (go (eqb y x) _ _)
    where
      go : (b : Bool) (ks : List ℕ) (s : Sifted) → behind (pick b (x ∷ ks) ks) s ≡ told b x (behind ks s)
      go true ks s = refl
      go false ks s = refl

  -- the first of them is above y
  pub slots_above : y < x → by_slots (y ∷ ys) (x ∷ xs) ≡ by_slots ys (x ∷ xs)
  unfolding by_slots
  slots_above l = rw (up_above y (eqb y) x xs l)

-- by some slots, and then by others
pub slots_join : (ys zs xs : List ℕ) → by_slots (ys ++ zs) xs ≡ behind (by_slots ys xs).kept (by_slots zs (by_slots ys xs).left)
unfolding by_slots
slots_join [] zs xs = refl
slots_join (y ∷ ys) zs xs =
    let s = up_to y (eqb y) xs in
    ap (behind s.kept) (slots_join ys zs s.left) ∙ rw append_assoc
