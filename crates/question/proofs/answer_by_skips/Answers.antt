use Rattle.question.proofs.Asking.{none_further, cost_begin, cost_next, answered}
use borrow.Author.Rules.{rules}
use Rattle.question.proofs.answer_by_skips.Goals as goal

pub loop-position-init : goal.loop-position-init
loop-position-init c = search cost_begin

pub loop-position-preserved : goal.loop-position-preserved
loop-position-preserved c = cost_next _ _ (search) _ (search) _ (search) _ _ _ _ _ _ c.loop-position.invariant _ _ c.walk_name-w.ensures _ _ (search rules) (search rules)

pub returns : goal.returns
returns c = answered _ _ (search rules) _ _ _ _ _ _ _ c.loop-position.invariant (search none_further) _ _ (search rules) c.clear.ensures
