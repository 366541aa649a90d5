use Rattle.std.proofs.Common.{sym}
use Rattle.std.proofs.lemmas.List.{length-take-le}
use Rattle.rack.proofs.Rooms.{count_fits}
use Rattle.rack.proofs.reply.Goals as goal

pub slice_bounds-slots-end : goal.slice_bounds-slots-end
slice_bounds-slots-end g c = count_fits _ _ _ _ _ _ c.ask-answer.ensures

pub slice_bounds-print_slots-end : goal.slice_bounds-print_slots-end
slice_bounds-print_slots-end g c = sym (length-take-le _ _ (count_fits _ _ _ _ _ _ c.ask-answer.ensures))
