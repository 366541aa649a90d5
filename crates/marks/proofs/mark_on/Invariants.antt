use Prim.Native.Nat.{◌-◌, ◌≤◌}
use lib.ListN.{length}
use Rattle.record.specs.Opened.{block_slots}
use Rattle.marks.specs.Marks.{Piece}
use Rattle.marks.proofs.mark_on.Given as goal

abbrev pub invariant-loop-read : goal.invariant-loop-read
invariant-loop-read l = let b = l.fn.block in (l.at ≤ length b.codes.now) × Piece b.u b.codes.now (block_slots b) l.initial.marks b.first b.count l.marks l.at (b.count - l.read) l.y
