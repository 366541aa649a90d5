use borrow.Author.Rules.{rules}
use Rattle.pack.proofs.Judging.{rising_good, rising_few}
use Rattle.pack.proofs.good_slots.Goals as goal

pub returns : goal.returns
returns c = let given = c.args in
    let a = c.amiss.ensures (search rules) in
    (rising_good given.u given.slots.now a, rising_few given.u given.slots.now a)
