use borrow.Author.Rules.{rules}
use Rattle.gather.proofs.InBlocks.{block_turns}
use Rattle.gather.proofs.gather_blocks.Goals as goal

pub loop-nth-init : goal.loop-nth-init
loop-nth-init c = search (block_turns, rules)

pub bounds-slots-w : goal.bounds-slots-w
bounds-slots-w c = search (block_turns, rules)

pub gather_known-w-requires : goal.gather_known-w-requires
gather_known-w-requires c = search (block_turns, rules)

pub loop-nth-preserved : goal.loop-nth-preserved
loop-nth-preserved c = search (block_turns, rules)

pub returns : goal.returns
returns c = search (block_turns, rules)
