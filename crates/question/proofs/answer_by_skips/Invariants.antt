use Prim.Native.Nat.{◌+◌}
use Rattle.question.proofs.Asking.{Costing}
use Rattle.question.proofs.answer_by_skips.Given as goal

abbrev pub invariant-loop-position : goal.invariant-loop-position
invariant-loop-position l = Costing l.question.index.bytes.now l.question.names.now l.slots l.left (l.position-index + 1) l.looks l.codes l.looks16 l.codes16
