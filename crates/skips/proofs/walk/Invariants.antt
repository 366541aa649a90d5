use Prim.Native.Nat.{◌≤◌}
use Rattle.record.specs.Holds.{list_of}
use Rattle.skips.proofs.Walking.{Head}
use Rattle.skips.proofs.walk.Given as goal

abbrev pub invariant-loop-at : goal.invariant-loop-at
invariant-loop-at l = (l.finger ≤ l.list.parts.m) × Head (list_of l.list) l.initial.slots l.slots l.kept l.at l.finger l.looks l.codes
