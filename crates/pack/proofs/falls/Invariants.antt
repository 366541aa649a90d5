use Rattle.pack.proofs.Judging.{Falls}
use Rattle.pack.proofs.falls.Given as goal

abbrev pub invariant-loop-i : goal.invariant-loop-i
invariant-loop-i l = Falls l.slots l.i l.count
