use borrow.Author.Rules.{rules}
use Rattle.marks.proofs.Joining.{merged}
use Rattle.marks.proofs.merge.Goals as goal

pub returns : goal.returns
returns c = merged _ _ _ _ c.args.list.now.opened _ _ c.requires.1 _ _ _ (rw c.bits.ensures.0 at c.merge_bits-told.ensures) _ (search rules) _ _ c.merge_tail.ensures
