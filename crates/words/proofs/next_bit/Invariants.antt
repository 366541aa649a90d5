use Prim.Native.Nat.{◌+◌, ◌*◌, ◌≤◌, ◌<◌}
use mathlib.Core.Path.{◌≡◌}
use lib.ListN.{length}
use Rattle.paper.specs.Record.{next_bit}
use Rattle.words.proofs.next_bit.Given as goal

abbrev pub invariant-loop-left : goal.invariant-loop-left
invariant-loop-left l = (0 < l.at) × (l.at + l.left ≤ 8 * length l.bits + 1) × (l.at + l.left ≤ 4294967295) × (next_bit l.bits l.at l.left ≡ next_bit l.bits l.x l.k)

abbrev pub decreases-loop-left : goal.decreases-loop-left
decreases-loop-left l = l.left
