use mathlib.Core.Path.{◌∙◌}
use borrow.Author.Rules.{rules}
use Rattle.slots_c.proofs.Fields.{set_past, put_next}
use Rattle.slots_c.proofs.put.Goals as goal
use Rattle.slots_c.proofs.put.Goals.{then-at-out, else-at-out}

pub loop-i-preserved : goal.loop-i-preserved
loop-i-preserved c =
    let next = put_next c.args.out.now c.loop-i.out c.args.from c.args.fields.now c.loop-i.i c.loop-i.invariant c.loop-i-test.true c.if-at-out.out in
    elim c.if-at-out.branch [ then-at-out w ↦ next _ w.out-is (search rules) | else-at-out w ↦ next _ (w.out-is ∙ set_past _ _ _ w.if-at-out.false) (search rules) ]
