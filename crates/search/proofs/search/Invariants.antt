use Prim.Native.Nat.{◌+◌, ◌-◌, ◌*◌}
use Rattle.paper.specs.Held.{entry_of}
use Rattle.search.proofs.Looking.{Head}
use Rattle.search.proofs.search.Given as goal

abbrev pub invariant-loop-d : goal.invariant-loop-d
invariant-loop-d l = Head (entry_of 0 l.entries) l.x l.m l.finger l.d l.lo l.looks

abbrev pub decreases-loop-d : goal.decreases-loop-d
decreases-loop-d l = 2 * l.m + 1 - l.d
