-- [Order 6] The rows of telling how large a record can be: 4, 15 and 13. They are said of u, B, the cut and the number of slots above it, with the numbers spelt out, and
-- are gone through in the order's own order, so that at most one number is given. Before them, what the number of bytes is.
use Prim.Native.Nat.{ℕ, ◌+◌, ◌*◌, ◌≤◌, ◌<◌}
use mathlib.Core.Path.{◌≡◌}
use Rattle.laws.proofs.Rounding.{RoundsUp}
use Rattle.promises.proofs.IndexRows.{Outside}
use Rattle.promises.proofs.WriteRows.{Ranges, Cuts}

-- d goes p whole times into U
abbrev pub GoesInto : ℕ → ℕ → ℕ → Type 0
GoesInto d U p = (p * d ≤ U) × (U < p * d + d)

-- THE BOUND for n slots above this cut is b bytes: for the head 12, for the bits w, for m blocks 8 each; for the c slots that begin no block one each;
-- and one more for each time that 129 goes into the U slots above the cut, and that 16,385 does
pub record BoundFor (u B cut n b : ℕ) : Type 0 where
  pub w : ℕ
  pub bits : RoundsUp cut 8 w
  pub m : ℕ
  pub blocks : RoundsUp n B m
  pub c : ℕ
  pub others : m + c ≡ n
  pub U : ℕ
  pub above : cut + U ≡ u
  pub p : ℕ
  pub twos : GoesInto 129 U p
  pub q : ℕ
  pub threes : GoesInto 16385 U q
  pub sum : b ≡ 12 + w + 8 * m + c + p + q

-- THE NUMBER AND THE PLACE, where it is refused
pub data BoundRefused (u B cut n : ℕ) : ℕ → ℕ → Type 0 where
  -- 4: u or B is out of its range
  u_range : Outside 1 1048576 u → BoundRefused u B cut n 4 0
  b_range : Outside 1 128 B → BoundRefused u B cut n 4 0
  -- 15: the cut is above u
  cut_above : Ranges u B → u < cut → BoundRefused u B cut n 15 0
  -- 13: fewer than n slots lie above the cut
  too_many : Cuts u B cut → u < cut + n → BoundRefused u B cut n 13 0

-- NO ROW: and at least n slots lie above the cut
pub record BoundAccepted (u B cut n : ℕ) : Type 0 where
  pub cuts : Cuts u B cut
  pub enough : cut + n ≤ u
