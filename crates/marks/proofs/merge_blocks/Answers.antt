use borrow.Author.Rules.{rules}
use Rattle.marks.proofs.Waiting.{anew, carried}
use Rattle.marks.proofs.Joining.{block_passed, all_told, blocks_done}
use Rattle.marks.proofs.merge_blocks.Goals as goal

pub returns-then-n-next : goal.returns-then-n-next
returns-then-n-next c = all_told _ _ _ _ c.args.list.now.opened _ _ _ _ _ _ _ c.loop-nth.invariant (search rules)

pub loop-nth-preserved-then-below : goal.loop-nth-preserved-then-below
loop-nth-preserved-then-below c = block_passed _ _ _ _ c.args.list.now.opened _ (search rules) _ _ _ _ _ _ c.loop-nth.invariant (search rules) (search rules)

pub merge_block-told-requires : goal.merge_block-told-requires
merge_block-told-requires c = (search rules, search anew)

pub loop-nth-preserved : goal.loop-nth-preserved
loop-nth-preserved c = search carried

pub returns : goal.returns
returns c = search blocks_done
