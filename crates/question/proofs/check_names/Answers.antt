use borrow.Author.Rules.{rules}
use Rattle.laws.proofs.Links.{name_links, fourteen_good}
use Rattle.question.proofs.check_names.Goals as goal

pub returns-clause-told : goal.returns-clause-told
returns-clause-told c = let known = c.in_ok-way.ensures.0 in fourteen_good _ _ known _ (search (name_links, rules))
