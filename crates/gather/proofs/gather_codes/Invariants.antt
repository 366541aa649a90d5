use mathlib.Core.List.{◌++◌}
use lib.ListN.{length, take}
use Rattle.paper.specs.Block.{read_codes}
use Rattle.gather.proofs.ReadCodes.{Codes}
use Rattle.gather.proofs.gather_codes.Given as goal

abbrev pub invariant-loop-w : goal.invariant-loop-w
invariant-loop-w l = Codes l.u l.s (take l.at l.initial.slots ++ (read_codes l.u l.count l.first l.s).slots) (length l.initial.slots) l.slots l.p l.end l.slot l.w
