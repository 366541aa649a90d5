use Rattle.slots.proofs.Reserving.{bound_refused}
use Rattle.slots.proofs.bound.Goals as goal

pub returns-in-Err : goal.returns-in-Err
returns-in-Err c = search (bound_refused, c.in-Err.ensures)
