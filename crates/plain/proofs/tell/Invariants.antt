use lib.ListN.{length, take}
use Rattle.paper.specs.Bytes.{part}
use Rattle.plain.specs.Sifted.{behind, up_to}
use Rattle.plain.proofs.Turns.{Telling}
use Rattle.plain.proofs.tell.Given as goal

abbrev pub invariant-loop-next : goal.invariant-loop-next
invariant-loop-next g l =
    Telling (goal.F-pre g l.test) (goal.F-post g l.test) l.y (λ t. behind (take l.fn.from.kept l.initial.slots) (up_to l.y t (part l.initial.slots l.fn.from.next (length l.initial.slots))))
    (length l.initial.slots) l.kept l.next l.slots
