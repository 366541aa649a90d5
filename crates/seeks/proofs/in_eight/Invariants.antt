use Rattle.seeks.specs.Sought.{sought}
use Rattle.seeks.proofs.Hops.{Along}
use Rattle.seeks.proofs.in_eight.Given as goal

abbrev pub invariant-loop-b : goal.invariant-loop-b
invariant-loop-b l =
    let b = l.block in
    Along l.x b.u b.codes.now b.count (sought b l.x l.fn.from) l.at l.b-index l.here.codes l.here.slot
