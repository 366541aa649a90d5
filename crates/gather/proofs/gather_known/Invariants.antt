use mathlib.Core.List.{◌++◌}
use lib.ListN.{length, take}
use Rattle.codes.specs.InBlock.{read_block}
use Rattle.gather.proofs.InCodes.{Codes}
use Rattle.gather.proofs.gather_known.Given as goal

abbrev pub invariant-loop-w : goal.invariant-loop-w
invariant-loop-w l = let b = l.fn.block in Codes b.u b.codes.now (take l.at l.initial.slots ++ (read_block b).slots) (length l.initial.slots) l.slots l.p l.end l.slot l.w
