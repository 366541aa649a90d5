use borrow.Author.Rules.{rules}
use borrow.Author.Tests.{tests}
use Rattle.names.proofs.Records.{countings}
use Rattle.names.proofs.count_names.Goals as goal

pub count_record-requires : goal.count_record-requires
count_record-requires c = (search countings, search countings)

pub loop-i-preserved : goal.loop-i-preserved
loop-i-preserved c = search (countings, rules, tests)
