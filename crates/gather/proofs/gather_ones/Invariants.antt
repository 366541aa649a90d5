use mathlib.Core.List.{◌++◌}
use lib.ListN.{length, take}
use Rattle.codes.specs.InBlock.{read_block}
use Rattle.gather.proofs.InCodes.{Ones}
use Rattle.gather.proofs.gather_ones.Given as goal

abbrev pub invariant-loop-p : goal.invariant-loop-p
invariant-loop-p l = let b = l.fn.block in Ones b.u b.codes.now (take l.at l.initial.slots ++ (read_block b).slots) (length l.initial.slots) l.slots l.at l.p l.slot
