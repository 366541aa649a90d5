use mathlib.Core.Path.{refl}
use native.Mathlib.Omega.{arith}
use borrow.Author.Rules.{rules}
use Rattle.gather.proofs.InBits.{high_fits, slot_fits, word_end, word_turn}
use Rattle.gather.proofs.put_word.Goals as goal

pub bounds-slots-w : goal.bounds-slots-w
bounds-slots-w c = slot_fits _ _ _ _ _ _ _ c.loop-v.invariant _ refl (search rules)

pub overflow_sub-v : goal.overflow_sub-v
overflow_sub-v c = high_fits _ _ _ _ _ _ _ c.loop-v.invariant _ refl (search rules)

pub loop-v-preserved : goal.loop-v-preserved
loop-v-preserved c = word_turn _ _ _ _ _ _ _ c.loop-v.invariant _ refl (search rules) _ (omega arith) (omega arith)

pub returns : goal.returns
returns c = search (word_end, rules)
