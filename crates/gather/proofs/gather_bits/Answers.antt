use borrow.Author.Rules.{rules}
use Rattle.gather.proofs.InBits.{bits_begin, words_end, words_room, words_turn, bits_end, bit_stored}
use Rattle.gather.proofs.gather_bits.Goals as goal

pub loop-nth-init : goal.loop-nth-init
loop-nth-init c = search (bits_begin, rules)

pub put_word-w-requires : goal.put_word-w-requires
put_word-w-requires c = search (words_room, rules)

pub loop-nth-preserved : goal.loop-nth-preserved
loop-nth-preserved c = search (words_turn, rules)

pub loop-x-init : goal.loop-x-init
loop-x-init c = search (words_end, rules)

pub loop-x-preserved : goal.loop-x-preserved
loop-x-preserved c = bit_stored _ _ _ _ _ _ _ c.loop-x.invariant (search rules) _ c.bit.ensures _ c.one-more.ensures.0 (search rules)

pub returns : goal.returns
returns c = bits_end _ _ _ _ _ _ _ c.loop-x.invariant (search rules)
