use borrow.Author.Rules.{rules}
use Rattle.glance.proofs.Turns.{flats_on, flats_told}
use Rattle.glance.proofs.singles.Goals as goal

pub loop-turn-preserved : goal.loop-turn-preserved
loop-turn-preserved c = let bytes = c.type_inv.s in
    let l = c.loop-turn in
    flats_on c.args.s.now l.turn l.sums.wrong l.sums.low l.invariant (λ i. (bytes i).fits) _ _ _ c.and-sums.ensures c.loop-turn-test.true c.u64_at.ensures

pub returns : goal.returns
returns c = let bytes = c.type_inv.s in
    let l = c.loop-turn in
    flats_told c.args.s.now l.turn l.sums.wrong l.sums.low l.invariant (λ i. (bytes i).fits) _ _ _ c.and.ensures
    (search rules) (search rules) c.loop-turn-test.false l.auto.turn-end (search (c.upper.ensures, rules)) c.told.ensures
