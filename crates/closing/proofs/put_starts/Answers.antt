use borrow.Author.Rules.{rules}
use Rattle.closing.proofs.Puts.{puttings, putting_turn}
use Rattle.closing.proofs.put_starts.Goals as goal

pub loop-i-preserved : goal.loop-i-preserved
loop-i-preserved c = putting_turn c.loop-i.invariant c.loop-i-test.true _ _ c.put_u32.ensures (search rules)

pub returns : goal.returns
returns c = search puttings
