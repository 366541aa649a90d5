use native.Mathlib.Omega.{arith}
use borrow.Author.Rules.{rules}
use Rattle.seeks.proofs.Hops.{along_turn, next_fits, nth_byte}
use Rattle.seeks.proofs.in_eight.Goals as goal

pub onward-requires : goal.onward-requires
onward-requires c =
    let b = c.args.block in
    let h = c.loop-b.here in
    let e = nth_byte b.codes.now c.args.from.codes _ c.loop-b.b-index c.from.result c.from.ensures (search rules) in
    λ g. let f = next_fits c.args.x b.u b.codes.now b.count c.args.from.codes c.args.from.slot (search rules) (search rules) c.loop-b.b-index h.codes h.slot c.loop-b.invariant (search rules) c.from.result e g in
    omega (arith, f)

pub loop-b-preserved : goal.loop-b-preserved
loop-b-preserved c =
    let b = c.args.block in
    let h = c.loop-b.here in
    let e = nth_byte b.codes.now c.args.from.codes _ c.loop-b.b-index c.from.result c.from.ensures (search rules) in
    along_turn c.args.x b.u b.codes.now b.count c.args.from.codes c.args.from.slot (search rules) (search rules) c.loop-b.b-index h.codes h.slot c.loop-b.invariant (search rules) c.from.result e _ _ (search rules) c.onward.ensures
