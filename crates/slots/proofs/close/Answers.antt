use Rattle.slots.proofs.Closing.{close_refused, close_made}
use Rattle.slots.proofs.close.Goals as goal

pub returns-in-Err : goal.returns-in-Err
returns-in-Err c = search (close_refused, c.in-Err.ensures)

pub returns : goal.returns
returns c = search (close_made, c.in_default.ensures)
