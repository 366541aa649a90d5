use Rattle.paper.specs.Look.{list_fault, lists_fault}
use Rattle.frame.proofs.Steps.{Head}
use Rattle.frame.proofs.check_records.Given as goal

abbrev pub invariant-loop-i : goal.invariant-loop-i
invariant-loop-i g l =
    let start = g.S.Starts.begins l.starts in
    Head l.bytes start l.u l.block l.lists (lists_fault (list_fault l.u l.block) l.bytes start l.lists 0) l.from l.i
