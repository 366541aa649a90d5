use borrow.Author.Rules.{rules}
use Rattle.plain.proofs.Joining.{by_blocks}
use Rattle.plain.proofs.merge_blocks.Goals as goal

pub loop-nth-preserved : goal.loop-nth-preserved
loop-nth-preserved c = search (by_blocks, rules)
