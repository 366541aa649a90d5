use borrow.Author.Rules.{rules}
use Rattle.pack.proofs.Gaps.{measures}
use Rattle.pack.proofs.gaps_size.Goals as goal

pub loop-x-preserved : goal.loop-x-preserved
loop-x-preserved c = (search (measures, rules), search (measures, rules))

pub returns : goal.returns
returns c = (search (measures, rules), search (measures, rules))
