use native.Mathlib.Omega.{arith}
use borrow.Author.Rules.{rules}
use Rattle.marks.proofs.Pieces.{block_reads, piece_begin, piece_turn}
use Rattle.marks.proofs.mark_on.Goals as goal

pub loop-read-init : goal.loop-read-init
loop-read-init c = (search rules, piece_begin _ _ _ _ _ _ (block_reads c.args.block c.requires.0) c.requires.1 _ c.put_mark.ensures _ (omega arith))

pub loop-read-preserved : goal.loop-read-preserved
loop-read-preserved c =
    (search rules, piece_turn _ _ _ _ _ _ _ _ _ _ c.loop-read.invariant.1 (omega arith) _ _ c.known_code-got.ensures.0 (omega arith) _ c.put_mark-in-loop-read.ensures _ (omega arith))
