use Rattle.search.proofs.Trials.{by_bits}
use borrow.Author.Rules.{rules}
use Rattle.search.proofs.next_slot.Goals as goal

pub returns : goal.returns
returns c = (search (by_bits, c.or_behind-slot.ensures), search rules)
