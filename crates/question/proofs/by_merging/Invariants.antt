use Prim.Native.Nat.{◌+◌}
use Rattle.question.proofs.Asking.{Left}
use Rattle.question.proofs.by_merging.Given as goal

abbrev pub invariant-loop-position : goal.invariant-loop-position
invariant-loop-position l = Left l.question.index.bytes.now l.question.names.now l.slots l.left (l.position-index + 1)
