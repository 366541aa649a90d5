use Prim.Native.Nat.{◌+◌, ◌*◌}
use Rattle.quick.proofs.Places3.{Glanced3}
use Rattle.glance.proofs.triples.Given as goal

abbrev pub invariant-loop-turn : goal.invariant-loop-turn
invariant-loop-turn l = Glanced3 l.s (8 * l.turn + 2) l.sums.wrong l.sums.low l.sums.led l.sums.on l.sums.far
