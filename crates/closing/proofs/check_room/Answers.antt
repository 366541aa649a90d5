use Rattle.laws.proofs.Faults.{told_on}
use Rattle.closing.proofs.Checks.{starts_tell}
use Rattle.closing.proofs.check_room.Goals as goal

pub returns-in_err-check_starts : goal.returns-in_err-check_starts
returns-in_err-check_starts c = rw (told_on c.from_residual.result _ c.from_residual.ensures.1) (search (starts_tell, c.in_err-check_starts.ensures))
