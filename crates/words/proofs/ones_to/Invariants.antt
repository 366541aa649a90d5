use Rattle.words.proofs.Ones.{CountedTo}
use Rattle.words.proofs.ones_to.Given as goal

abbrev pub invariant-loop-byte : goal.invariant-loop-byte
invariant-loop-byte l = CountedTo l.bits l.from l.byte-index l.ones
