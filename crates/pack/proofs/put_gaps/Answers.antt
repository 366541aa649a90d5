use mathlib.Core.Path.{refl}
use native.Mathlib.Omega.{arith}
use borrow.Author.Rules.{rules}
use Rattle.pack.proofs.Gaps.{along_within, puts}
use Rattle.pack.proofs.put_gaps.Goals as goal

pub put_code-to-requires : goal.put_code-to-requires
put_code-to-requires c = let within = along_within c.loop-x.invariant.0 c.loop-x-test.true _ refl in
    (omega (arith, within), search (puts, rules))

pub loop-x-preserved : goal.loop-x-preserved
loop-x-preserved c = (search (puts, rules), search (puts, rules))
