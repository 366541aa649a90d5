use Rattle.std.proofs.Common.{◌≡◌}
use Rattle.std.specs.Slice.Iter.{chunks_rest, chunks_size}
use Rattle.pack.proofs.Tailing.{Sized}
use Rattle.pack.proofs.tail_size.Given as goal

abbrev pub invariant-loop-slots : goal.invariant-loop-slots
invariant-loop-slots l = (chunks_size l.slots-iterator ≡ l.block) × Sized l.block l.high l.size (chunks_rest l.slots-iterator)
