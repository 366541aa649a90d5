use Rattle.record.proofs.Opening.{cut_listed, m_listed}
use Rattle.search.proofs.Trials.{j_within, by_none, by_block}
use borrow.Author.Rules.{rules}
use Rattle.search.proofs.seek_slot.Goals as goal

pub returns-then-j-eq0 : goal.returns-then-j-eq0
returns-then-j-eq0 c = (search (by_none, cut_listed, m_listed, c.or_behind-first.ensures), search rules)

pub returns : goal.returns
returns c = (search (by_block, cut_listed, m_listed, c.or_behind-slot.ensures), search j_within)
