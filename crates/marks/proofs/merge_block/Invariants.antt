use Prim.Native.Nat.{◌+◌}
use lib.ListN.{length}
use mathlib.Core.Path.{◌≡◌}
use Rattle.marks.specs.Waiting.{comes_to, from_block}
use Rattle.marks.proofs.Waiting.{Comes}
use Rattle.marks.proofs.merge_block.Given as goal

abbrev pub invariant-pieces : goal.invariant-pieces
invariant-pieces l = (length l.slots ≡ length l.initial.slots)
    × Comes l.list.parts.u (from_block l.list 0) (from_block l.list (l.nth + 1)) (comes_to l.list l.initial.told l.initial.slots) l.marks l.n l.told.kept l.told.next l.slots l.block

abbrev pub decreases-pieces : goal.decreases-pieces
decreases-pieces l = l.block.count
