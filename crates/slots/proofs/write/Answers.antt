use Rattle.slots.proofs.Writing.{write_refused, write_no_room, write_done}
use Rattle.slots.proofs.write.Goals as goal

pub returns-in-Err : goal.returns-in-Err
returns-in-Err c = search (write_refused, c.in-Err.ensures)

pub returns-then-room-end : goal.returns-then-room-end
returns-then-room-end c = search (write_no_room, c.in_default.ensures)

pub returns : goal.returns
returns c = search (write_done, c.in_default.ensures)
