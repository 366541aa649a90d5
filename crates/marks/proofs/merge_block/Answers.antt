use borrow.Author.Rules.{rules}
use Rattle.marks.proofs.Waiting.{block_done, block_none, block_next}
use Rattle.marks.proofs.Joining.{block_begin}
use Rattle.marks.proofs.merge_block.Goals as goal

pub pieces-init : goal.pieces-init
pieces-init c = (search rules, search block_begin)

pub returns-then-read-eq0 : goal.returns-then-read-eq0
returns-then-read-eq0 c = search (block_done, rules)

pub returns-then-n-told : goal.returns-then-n-told
returns-then-n-told c = search (block_none, rules)

pub pieces-preserved : goal.pieces-preserved
pieces-preserved c = (search rules, search (block_next, rules))
