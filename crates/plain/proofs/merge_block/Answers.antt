use borrow.Author.Rules.{rules}
use Rattle.plain.proofs.Turns.{by_codes}
use Rattle.plain.proofs.merge_block.Goals as goal

pub loop-next-preserved-then-x-y : goal.loop-next-preserved-then-x-y
loop-next-preserved-then-x-y c = search (by_codes, rules)
