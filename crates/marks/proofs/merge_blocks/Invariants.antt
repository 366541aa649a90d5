use Rattle.marks.specs.Waiting.{comes_to, AtBlock}
use Rattle.marks.proofs.merge_blocks.Given as goal

abbrev pub invariant-loop-nth : goal.invariant-loop-nth
invariant-loop-nth l = AtBlock l.list l.nth (comes_to l.list l.initial.told l.initial.slots) l.marks l.told l.slots
