use Rattle.pack.proofs.Judging.{Good}
use Rattle.pack.proofs.good_front.Given as goal

abbrev pub invariant-loop-i : goal.invariant-loop-i
invariant-loop-i l = Good l.u l.slots l.prev l.i
