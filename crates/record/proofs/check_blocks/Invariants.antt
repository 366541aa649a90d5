use Rattle.paper.specs.Tail.{read_blocks}
use Rattle.record.proofs.Turns.{Head}
use Rattle.record.proofs.check_blocks.Given as goal

abbrev pub invariant-loop-nth : goal.invariant-loop-nth
invariant-loop-nth l = Head l.u l.block l.len (read_blocks l.u l.block l.len l.m l.n l.cut 0 l.entries l.codes).fault l.entries l.codes l.m l.nth l.left l.start l.prev
