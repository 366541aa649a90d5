use borrow.Author.Rules.{rules}
use Rattle.pack.proofs.Marking.{marks}
use Rattle.pack.proofs.mark.Goals as goal

pub put_bit-requires : goal.put_bit-requires
put_bit-requires c = (search (marks, rules), search (marks, rules))

pub loop-x-preserved : goal.loop-x-preserved
loop-x-preserved c = search (marks, rules)
