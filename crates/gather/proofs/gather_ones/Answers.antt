use borrow.Author.Rules.{rules}
use Rattle.gather.proofs.InCodes.{one_turns}
use Rattle.gather.proofs.gather_ones.Goals as goal

pub overflow_add-slot : goal.overflow_add-slot
overflow_add-slot c = search (one_turns, rules)

pub overflow_add-slot-in-loop-p : goal.overflow_add-slot-in-loop-p
overflow_add-slot-in-loop-p c = search (one_turns, rules)

pub loop-p-preserved : goal.loop-p-preserved
loop-p-preserved c = search (one_turns, rules)

pub returns : goal.returns
returns c = search (one_turns, rules)
