use Rattle.pack.proofs.Gaps.{Along, Putting}
use Rattle.pack.proofs.put_gaps.Given as goal

abbrev pub invariant-loop-x : goal.invariant-loop-x
invariant-loop-x l = Along l.slots l.last l.x-index × Putting l.prev l.slots l.initial.room l.at l.room l.last l.to l.x-index
