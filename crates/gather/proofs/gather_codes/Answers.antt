use borrow.Author.Rules.{rules}
use Rattle.gather.proofs.ReadCodes.{codes_end, codes_bad, codes_above, codes_next}
use Rattle.gather.proofs.gather_codes.Goals as goal

pub returns-in_default : goal.returns-in_default
returns-in_default c = search (codes_bad, rules)

pub returns-then-u-slot : goal.returns-then-u-slot
returns-then-u-slot c = search (codes_above, rules)

pub loop-w-preserved : goal.loop-w-preserved
loop-w-preserved c = search (codes_next, rules)

pub returns : goal.returns
returns c = search (codes_end, rules)
