use borrow.Author.Rules.{rules}
use native.Mathlib.Omega.{arith}
use Rattle.quick.proofs.Places.{glance_begin}
use Rattle.glance.proofs.Turns.{pairs_on, pairs_told}
use Rattle.glance.proofs.totals.Goals as goal

pub loop-i-init : goal.loop-i-init
loop-i-init c = let bytes = c.type_inv.s in
    let first = (bytes 0).fits in
    glance_begin c.args.s.now c.from-first.result c.requires.0 c.from-first.ensures (omega (arith, c.from-first.ensures))

pub loop-i-preserved : goal.loop-i-preserved
loop-i-preserved c = let bytes = c.type_inv.s in
    let l = c.loop-i in
    pairs_on c.args.s.now l.i l.sums.wrong l.sums.low l.sums.led l.sums.on l.invariant (λ i. (bytes i).fits) _ _ _ _ _ _ c.and-sums.ensures (search rules)
    c.u64_at.ensures c.u64_at-in-loop-i.ensures

pub returns : goal.returns
returns c = let bytes = c.type_inv.s in
    let l = c.loop-i in
    pairs_told c.args.s.now l.i l.sums.wrong l.sums.low l.sums.led l.sums.on l.invariant (λ i. (bytes i).fits) _ _ _ _ _ _ c.and.ensures
    (search rules) (search rules) (search rules) c.upper.ensures c.upper-2.ensures c.told.ensures
