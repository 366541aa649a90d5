use Rattle.words.proofs.Eights.{eights_on}
use Rattle.words.proofs.ones_by_eights.Goals as goal

pub loop-turn-preserved : goal.loop-turn-preserved
loop-turn-preserved c = let bytes = c.type_inv.bits in
    let l = c.loop-turn in
    eights_on c.args.bits.now l.turn l.ones l.invariant (λ i. (bytes i).fits) _ _ c.u64_at.type_inv c.u64_at.ensures c.from-ones.ensures
