use lib.ListN.{length}
use Rattle.pack.proofs.Marking.{Marked}
use Rattle.pack.proofs.mark.Given as goal

abbrev pub invariant-loop-x : goal.invariant-loop-x
invariant-loop-x l = Marked l.low (length l.initial.bits) l.bits l.x-index
