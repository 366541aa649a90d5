use mathlib.Core.List.{flatten}
use lib.ListN.{length, take}
use Rattle.paper.specs.Bytes.{part}
use Rattle.paper.specs.Record.{tail_of}
use Rattle.plain.specs.Sifted.{behind, by_slots}
use Rattle.plain.proofs.Merging.{Merging}
use Rattle.record.proofs.Opening.{slots_from}
use Rattle.plain.proofs.merge_blocks.Given as goal

abbrev pub invariant-loop-nth : goal.invariant-loop-nth
invariant-loop-nth l =
    let n = length l.initial.slots in
    let u = l.list.parts.u in
    let B = l.list.parts.block in
    let r = l.list.rec.now in
    Merging (behind (take l.initial.told.kept l.initial.slots) (by_slots (flatten (tail_of u B r).blocks) (part l.initial.slots l.initial.told.next n)))
    (by_slots (slots_from u B r l.nth)) n n l.told.kept l.told.next l.slots
