use mathlib.Core.Path.{refl}
use native.Mathlib.Omega.{arith}
use Rattle.std.proofs.lemmas.List.{take_rest}
use Rattle.marks.proofs.Pieces.{block_reads, stands, there, within, sum_fits, slot_fits, next_slots, next_reads}
use Rattle.marks.proofs.next_slot.Goals as goal

pub known_code-got-requires : goal.known_code-got-requires
known_code-got-requires c = let r = block_reads c.args.block c.requires.0 in (there _ _ _ _ _ r c.requires.1, stands _ _ _ _ _ r c.requires.1)

pub overflow_add-result : goal.overflow_add-result
overflow_add-result c = let r = block_reads c.args.block c.requires.0 in record { fits = sum_fits _ _ _ _ _ r c.requires.1 _ _ c.known_code-got.ensures.0 }

pub overflow_add-result-2 : goal.overflow_add-result-2
overflow_add-result-2 c = let r = block_reads c.args.block c.requires.0 in record { fits = slot_fits _ _ _ _ _ r c.requires.1 _ _ c.known_code-got.ensures.0 }

pub invariant_of-result : goal.invariant_of-result
invariant_of-result c = let r = block_reads c.args.block c.requires.0 in
    record { low = within _ _ _ _ _ r c.requires.1 _ _ c.known_code-got.ensures.0; sound = rw (take_rest c.args.block.codes.now c.known_code-got.result.next) (next_reads _ _ _ _ _ r c.requires.1 _ _ c.known_code-got.ensures.0).sound }

pub returns : goal.returns
returns c = let r = block_reads c.args.block c.requires.0 in
    (refl, rw (take_rest c.args.block.codes.now c.known_code-got.result.next) (next_slots _ _ _ _ _ r c.requires.1 _ _ c.known_code-got.ensures.0), omega arith)
