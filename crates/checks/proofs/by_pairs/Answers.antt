use native.Mathlib.Omega.{arith}
use Rattle.quick.proofs.Accepting.{pairs_good}
use Rattle.checks.proofs.Turns.{up_to_is}
use borrow.Author.Rules.{rules}
use Rattle.checks.proofs.by_pairs.Goals as goal

pub returns : goal.returns
returns c = let a = c.args in
    let bytes = c.type_inv.s in
    let t = c.totals-t in
    let r = t.result in
    let all = c.counted.ensures (search rules) in
    up_to_is a.u a.first _ _ _ c.up_to.ensures
    (λ le. pairs_good a.u a.count a.first _ a.s.now (λ i. (bytes i).fits) r.low r.wrong r.led r.on t.ensures (search rules) all.0 all.1 (omega arith) le)
