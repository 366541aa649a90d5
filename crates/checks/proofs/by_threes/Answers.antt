use native.Mathlib.Omega.{arith}
use Rattle.quick.proofs.Accepting.{threes_good}
use Rattle.checks.proofs.Turns.{up_to_is}
use borrow.Author.Rules.{rules}
use Rattle.checks.proofs.by_threes.Goals as goal

pub returns : goal.returns
returns c = let a = c.args in
    let bytes = c.type_inv.s in
    let t = c.triples-t in
    let r = t.result in
    let all = c.counted.ensures (search rules) in
    up_to_is a.u a.first _ _ _ c.up_to.ensures
    (λ le. threes_good a.u a.count a.first _ a.s.now (λ i. (bytes i).fits) r.low r.wrong r.led r.on r.far t.ensures (search rules) all.0 all.1 (omega arith) le)
