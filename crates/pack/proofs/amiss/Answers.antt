use mathlib.Core.Path.{refl}
use lib.ListN.{length}
use borrow.Author.Rules.{rules}
use Rattle.std.proofs.Common.{◌≡◌, arith}
use Rattle.std.proofs.lemmas.Bool.Decides.{nat_tests}
use Rattle.pack.proofs.Judging.{rises_all}
use Rattle.pack.proofs.amiss.Goals as goal

pub returns-else-u-slots : goal.returns-else-u-slots
returns-else-u-slots c = let given = c.args in
    λ z.
    let none : c.falls.result ≡ 0 = grind (arith, nat_tests) in
    rises_all given.u (length given.slots.now) given.slots.now refl (search rules) (search rules) (search rules) (c.falls.ensures none)
