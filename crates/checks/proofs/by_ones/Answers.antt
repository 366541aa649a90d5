use native.Mathlib.Omega.{arith}
use Rattle.quick.proofs.Accepting.{flat_good}
use Rattle.checks.proofs.Turns.{up_to_is}
use borrow.Author.Rules.{rules}
use Rattle.checks.proofs.by_ones.Goals as goal

pub returns : goal.returns
returns c = let a = c.args in
    let bytes = c.type_inv.s in
    let t = c.singles-t in
    up_to_is a.u a.first _ _ _ c.up_to.ensures
    (λ le. flat_good a.u a.count a.first _ a.s.now (λ i. (bytes i).fits) t.result.low t.result.wrong t.ensures (search rules) (search rules) (omega arith) le)
