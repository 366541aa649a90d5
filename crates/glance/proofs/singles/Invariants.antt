use Prim.Native.Nat.{◌*◌}
use Rattle.quick.proofs.Places.{FlatTo}
use Rattle.glance.proofs.singles.Given as goal

abbrev pub invariant-loop-turn : goal.invariant-loop-turn
invariant-loop-turn l = FlatTo l.s (8 * l.turn) l.sums.wrong l.sums.low
