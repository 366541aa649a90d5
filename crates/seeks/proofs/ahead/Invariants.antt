use Rattle.paper.specs.Walk.{seek}
use Rattle.codes.specs.InBlock.{stopped, read_block}
use Rattle.seeks.proofs.Hops.{Ahead}
use Rattle.seeks.proofs.ahead.Given as goal

abbrev pub invariant-loop-hop : goal.invariant-loop-hop
invariant-loop-hop l =
    let b = l.block in
    Ahead l.x b.u b.codes.now b.count (stopped 0 (seek l.x b.first (read_block b).slots)) l.hop l.here.codes l.here.slot
