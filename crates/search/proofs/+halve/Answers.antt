use Rattle.search.proofs.Looking.{upper, lower}
use borrow.Author.Rules.{rules}
use Rattle.search.proofs.+halve.Goals as goal

pub returns-then-entry-x : goal.returns-then-entry-x
returns-then-entry-x t c = (search upper, search rules)

pub returns : goal.returns
returns t c = (search lower, search rules)
