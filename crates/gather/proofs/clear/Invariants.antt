use Prim.Native.Nat.{◌-◌}
use mathlib.Core.List.{◌++◌}
use lib.ListN.{length, take, replicate}
use Rattle.laws.proofs.Clearing.{Cleared}
use Rattle.gather.proofs.clear.Given as goal

abbrev pub invariant-loop-i : goal.invariant-loop-i
invariant-loop-i l = Cleared (take l.from l.initial.slots ++ replicate (length l.initial.slots - l.from) 0) (length l.initial.slots) l.slots l.i
