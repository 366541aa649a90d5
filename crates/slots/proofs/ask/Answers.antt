use mathlib.Core.Path.{refl}
use borrow.Author.Rules.{rules}
use Rattle.slots.proofs.Asking.{question_refused, no_room, answered}
use Rattle.slots.proofs.ask.Goals as goal

pub returns-in-Err : goal.returns-in-Err
returns-in-Err c = search (question_refused, c.in-Err.ensures.told)

pub returns-then-slots-need : goal.returns-then-slots-need
returns-then-slots-need c =
    let p = c.in-Ok.ensures in
    let q = c.rank-question in
    no_room _ _ _ _ p.told _ refl _ _ q.ensures.0 q.ensures.1 _ q.result.least c.if-slots-need.true _ c.refused-then-slots-need.ensures

pub returns-in-BySkips : goal.returns-in-BySkips
returns-in-BySkips c =
    let p = c.in-Ok.ensures in
    let q = c.rank-question in
    answered _ _ _ _ p.told _ refl _ _ q.ensures.0 q.ensures.1 _ q.result.least c.if-slots-need.false 1 (rw c.in-BySkips.is at p.known) _ _ (search rules)

pub returns-in-Plainly : goal.returns-in-Plainly
returns-in-Plainly c =
    let p = c.in-Ok.ensures in
    let q = c.rank-question in
    answered _ _ _ _ p.told _ refl _ _ q.ensures.0 q.ensures.1 _ q.result.least c.if-slots-need.false 0 (rw c.in-Plainly.is at p.known) _ _ (search rules)
