use mathlib.Core.List.{◌++◌, flatten}
use lib.ListN.{length, take}
use Rattle.paper.specs.Record.{tail_of}
use Rattle.gather.proofs.InBlocks.{Blocks}
use Rattle.gather.proofs.gather_blocks.Given as goal

abbrev pub invariant-loop-nth : goal.invariant-loop-nth
invariant-loop-nth l = Blocks l.list.parts.u l.list.parts.block l.list.rec.now (take l.at l.initial.slots ++ flatten (tail_of l.list.parts.u l.list.parts.block l.list.rec.now).blocks) (length l.initial.slots) l.slots l.nth l.w
