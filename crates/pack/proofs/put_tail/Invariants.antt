use Rattle.std.proofs.Common.{◌≡◌}
use Rattle.std.specs.Slice.Iter.{chunks_rest, chunks_size}
use Rattle.pack.proofs.Tailing.{Filling}
use Rattle.pack.proofs.put_tail.Given as goal

abbrev pub invariant-loop-slots : goal.invariant-loop-slots
invariant-loop-slots l =
    (chunks_size l.slots-iterator ≡ l.block) × Filling l.block l.high l.initial.room l.entries l.codes l.room l.entry l.at (chunks_rest l.slots-iterator)
