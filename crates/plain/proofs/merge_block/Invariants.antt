use Prim.Native.Nat.{◌+◌, ◌-◌}
use lib.ListN.{take}
use Rattle.paper.specs.Bytes.{part}
use Rattle.record.specs.Opened.{block_slots}
use Rattle.plain.specs.Sifted.{behind, by_slots}
use Rattle.plain.proofs.Turns.{Reading}
use Rattle.plain.proofs.merge_block.Given as goal

abbrev pub invariant-loop-next : goal.invariant-loop-next
invariant-loop-next l =
    let b = l.fn.block in
    Reading b.u b.codes.now (behind (take l.initial.kept l.initial.slots) (by_slots (block_slots b) (part l.initial.slots l.initial.next l.n))) l.n l.kept l.next l.slots l.at l.left l.y

abbrev pub decreases-loop-next : goal.decreases-loop-next
decreases-loop-next l = l.n - l.next + l.left
