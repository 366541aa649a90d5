-- [Order 14] How near the looks of a walk can come to the bill.
use Prim.Native.Nat.{ℕ, ◌+◌, ◌<◌}
use native.Mathlib.Nat.{sub-zero}
use Rattle.promises.proofs.Bills.{bill}
use Rattle.promises.proofs.WalkCost.{OfWalks, walk_below, walk_spare}

-- HOW NEAR, from finger 0 on
pub spare_walks : (e : ℕ) → OfWalks (λ n q m. 0 < q → (n < bill e q m) × (0 < e → n + q < bill e q m))
spare_walks e l xs some = (rw sub-zero at (walk_below l xs e 0 some), λ h. rw sub-zero at (walk_spare l xs e 0 some h))
