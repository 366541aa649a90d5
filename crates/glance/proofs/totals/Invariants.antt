use Prim.Native.Nat.{◌-◌}
use lib.ListN.{length}
use Rattle.quick.proofs.Places.{Glanced}
use Rattle.glance.proofs.totals.Given as goal

abbrev pub invariant-loop-i : goal.invariant-loop-i
invariant-loop-i l = Glanced l.s l.i l.sums.wrong l.sums.low l.sums.led l.sums.on

abbrev pub decreases-loop-i : goal.decreases-loop-i
decreases-loop-i l = length l.s - l.i
