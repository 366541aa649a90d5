use Rattle.line.proofs.Reading.{Skipped}
use Rattle.line.proofs.skip.Given as goal

abbrev pub invariant-loop-i : goal.invariant-loop-i
invariant-loop-i l = Skipped l.text l.at l.i
