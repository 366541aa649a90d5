use Rattle.question.proofs.Asking.{none_further, left_begin, left_few, left_next, left_end}
use Rattle.question.proofs.by_merging.Goals as goal

pub loop-position-init : goal.loop-position-init
loop-position-init c = search left_begin

pub loop-position-preserved : goal.loop-position-preserved
loop-position-preserved c = search left_next

pub returns : goal.returns
returns c = (search (left_end, none_further), search left_few)
