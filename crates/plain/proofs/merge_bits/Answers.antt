use borrow.Author.Rules.{rules}
use Rattle.paper.specs.Record.{bit_at}
use Rattle.plain.proofs.Turns.{bits_told}
use Rattle.plain.proofs.merge_bits.Goals as goal

pub returns : goal.returns
returns c = bits_told _ _ _ _ _ _ (c.tell.ensures (bit_at c.args.bits.now) (λ x r l p. search rules))
