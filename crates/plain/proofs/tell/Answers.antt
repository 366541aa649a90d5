use borrow.Author.Rules.{rules}
use Rattle.plain.proofs.Turns.{tell_done, tell_stop, tell_turn}
use Rattle.plain.proofs.tell.Goals as goal

pub returns-then-y-x : goal.returns-then-y-x
returns-then-y-x g c = λ t e. tell_stop _ _ _ _ _ _ _ _ c.loop-next.invariant (search rules) c.if-y-x.true t e

pub loop-next-preserved : goal.loop-next-preserved
loop-next-preserved g c = tell_turn _ _ _ _ _ _ _ _ c.loop-next.invariant (search rules) c.if-y-x.false _ c.test.ensures _ c.one-more.ensures.0 c.one-more.ensures.1

pub returns : goal.returns
returns g c = λ t e. tell_done _ _ _ _ _ _ _ _ c.loop-next.invariant (search rules) _ (search rules) t e
