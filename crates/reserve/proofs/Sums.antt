-- The bound as the code sums it up, and what is known of the numbers where nothing is refused.
use Prim.Native.Nat.{ℕ, ◌+◌, ◌-◌, ◌*◌, ◌/◌, ◌≤◌, ◌<◌}
use mathlib.Core.Path.{◌≡◌}
use lib.Dec.{ltb}
use borrow.Author.Tests.{ltb-false}
use Rattle.paper.specs.Bytes.{ceil_div}
use Rattle.paper.specs.Refusal.{verdict, accepted, fault4, fault13n, fault15}
use Rattle.paper.specs.Reserve.{most_bytes, bound_fault}
use Rattle.laws.proofs.Frames.{one_up, failed, within_passed}

-- with the bytes of bits and the blocks as they were rounded up
pub most_is : (u B cut n bits m : ℕ) → bits ≡ ceil_div cut 8 → m ≡ ceil_div n B
    → 12 + bits + 8 * m + (n - m) + (u - cut) / 129 + (u - cut) / 16385 ≡ most_bytes u B cut n
unfolding most_bytes
most_is u B cut n bits m e f = rw (e, f)

-- u is not too large, B is not 0, the cut lies within u, and no more slots are to lie above it than there are
pub record Roomy (u B cut n : ℕ) : Type 0 where
  pub small : u ≤ 1048576
  pub some : 0 < B
  pub cut_within : cut ≤ u
  pub few : n ≤ u - cut

-- where 4, 15 and 13 refuse nothing
pub roomy : (u B cut n : ℕ) → (bound_fault u B cut n).number ≡ 0 → Roomy u B cut n
unfolding bound_fault fault4 fault13n fault15
roomy u B cut n ok =
    let p = within_passed 4 (one_up 3) _ 1 1048576 u ok in
    let q = within_passed 4 (one_up 3) _ 1 128 B p.2 in
    let r = failed (verdict 15 0) (one_up 14) _ (ltb u cut) q.2 in
    let s = failed (verdict 13 0) (one_up 12) accepted (ltb (u - cut) n) r.1 in
    record { small = p.1; some = q.0; cut_within = ltb-false u cut r.0; few = ltb-false (u - cut) n s.0 }
