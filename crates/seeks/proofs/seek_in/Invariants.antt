use Rattle.paper.specs.Walk.{seek}
use Rattle.codes.specs.InBlock.{stopped, read_block}
use Rattle.seeks.specs.Sought.{Head}
use Rattle.seeks.proofs.seek_in.Given as goal

abbrev pub invariant-loop-codes : goal.invariant-loop-codes
invariant-loop-codes l =
    let b = l.block in
    Head l.x b.u b.codes.now b.count (stopped 0 (seek l.x b.first (read_block b).slots)) l.at l.codes l.slot
