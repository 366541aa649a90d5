use Rattle.question.proofs.Asking.{first_known, room_there}
use Rattle.question.proofs.start.Goals as goal

pub gather_name-requires : goal.gather_name-requires
gather_name-requires c = (search first_known, search room_there)
