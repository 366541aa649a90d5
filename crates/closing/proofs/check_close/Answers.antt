use borrow.Author.Rules.{rules}
use lib.Seq.{take_all}
use Rattle.closing.proofs.Checks.{same_lie, same_tell}
use Rattle.closing.proofs.check_close.Goals as goal

-- (take_all: no proof needs it today; with it, other starts that are handed on fail at what they break)
pub check_records-requires-clause-laid : goal.check_records-requires-clause-laid
check_records-requires-clause-laid c = same_lie _ _ _ _ _ c.in_ok-check_given.ensures _ (search (rules, take_all))

pub returns : goal.returns
returns c = same_tell _ _ _ _ _ c.in_ok-check_given.ensures _ _ _ c.check_records.ensures (search (rules, take_all)) (search rules)
