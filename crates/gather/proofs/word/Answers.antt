use Rattle.gather.proofs.InBits.{word_shown}
use Rattle.gather.proofs.word.Goals as goal

pub returns : goal.returns
returns c = let bytes = c.type_inv.bits in
    let a = c.args in
    word_shown a.bits.now (λ i. (bytes i).fits) a.at _ c.from_be_bytes.ensures
