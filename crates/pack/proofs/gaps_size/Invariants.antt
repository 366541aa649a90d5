use Rattle.pack.proofs.Gaps.{Along, Measured}
use Rattle.pack.proofs.gaps_size.Given as goal

abbrev pub invariant-loop-x : goal.invariant-loop-x
invariant-loop-x l = Along l.slots l.last l.x-index × Measured l.prev l.slots l.last l.size l.x-index
