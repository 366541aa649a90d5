-- Slots cut in blocks of B: how many blocks there are, and that joined they are the slots again.
use Prim.Native.Nat.{ℕ, zero, suc}
use mathlib.Core.Path.{◌≡◌, refl, sym, ap}
use mathlib.Core.List.{List, flatten}
use lib.ListN.{length, drop, length-drop, take-append-drop}
use Rattle.paper.specs.Write.{in_blocks}
use Rattle.laws.proofs.Parts.{no_length}
use Rattle.laws.proofs.Rounding.{RoundsUp, rounds_zero, rounds_less}

-- m blocks
pub blocks_length : (B m : ℕ) (xs : List ℕ) → length (in_blocks B m xs) ≡ m
unfolding in_blocks
blocks_length B zero xs = refl
blocks_length B (suc m) xs = ap suc (blocks_length B m (drop B xs))

-- behind the first block there is a block less
pub blocks_less : (B : ℕ) (xs : List ℕ) (m : ℕ) → RoundsUp (length xs) B (suc m) → RoundsUp (length (drop B xs)) B m
blocks_less B xs m r = rw length-drop (rounds_less (length xs) B m r)

-- joined, they are the slots again
pub blocks_flat : (B m : ℕ) (xs : List ℕ) → RoundsUp (length xs) B m → flatten (in_blocks B m xs) ≡ xs
unfolding in_blocks flatten
blocks_flat B zero xs r = sym (no_length xs (rounds_zero (length xs) B r))
blocks_flat B (suc m) xs r = rw (blocks_flat B m (drop B xs) (blocks_less B xs m r)) (take-append-drop B xs)
