use borrow.Author.Rules.{rules}
use mathlib.Core.Path.{refl}
use Rattle.glance.proofs.Turns.{threes_begin, threes_on, threes_told}
use Rattle.glance.proofs.triples.Goals as goal

pub loop-turn-init : goal.loop-turn-init
loop-turn-init c = let bytes = c.type_inv.s in
    threes_begin c.args.s.now (λ i. (bytes i).fits) c.requires.0 c.requires.1 _ _ _ _ refl refl c.from-first.ensures c.from-second.ensures c.and-sums.ensures

pub loop-turn-preserved : goal.loop-turn-preserved
loop-turn-preserved c = let bytes = c.type_inv.s in
    let l = c.loop-turn in
    threes_on c.args.s.now l.turn l.sums.wrong l.sums.low l.sums.led l.sums.on l.sums.far l.invariant (λ i. (bytes i).fits) _ _ _ _ _ _ _ _
    c.and-sums-in-loop-turn.ensures c.loop-turn-test.true c.u64_at.ensures c.u64_at-in-loop-turn.ensures c.u64_at-in-loop-turn-2.ensures

pub returns : goal.returns
returns c = let bytes = c.type_inv.s in
    let l = c.loop-turn in
    threes_told c.args.s.now l.turn l.sums.wrong l.sums.low l.sums.led l.sums.on l.sums.far l.invariant (λ i. (bytes i).fits) _ _ _ _ _ _ _ _ c.and.ensures
    (search rules) c.loop-turn-test.false l.auto.turn-end c.upper.ensures c.upper-2.ensures c.upper-3.ensures c.told.ensures
