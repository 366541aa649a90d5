-- Reading in a block up to the slot x, step by step: y is the slot read last.
use Prim.Native.Nat.{ℕ, ◌≤◌, ◌<◌}
use mathlib.Core.Path.{◌≡◌}
use mathlib.Core.List.{List, [], ◌∷◌}
use borrow.Author.Tests.{le-leb, lt-leb}
use Rattle.paper.specs.Walk.{seek, more}

-- it stops where y is not below x
pub seek_here : (x y : ℕ) (zs : List ℕ) → x ≤ y → seek x y zs ≡ record { slot = y; codes = 0 }
unfolding seek
seek_here x y [] l = simp (le-leb x y l)
seek_here x y (z ∷ zs) l = simp (le-leb x y l)

module _ (x y : ℕ) (l : y < x) where
  -- no slot is left
  pub seek_out : seek x y [] ≡ record { slot = 0; codes = 0 }
  unfolding seek
  seek_out = simp (lt-leb x y l)

  -- or the next one costs a code
  pub seek_on : (z : ℕ) (zs : List ℕ) → seek x y (z ∷ zs) ≡ more (seek x z zs)
  unfolding seek
  seek_on z zs = simp (lt-leb x y l)
