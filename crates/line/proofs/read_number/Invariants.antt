use Rattle.line.proofs.Reading.{Inside}
use Rattle.line.proofs.read_number.Given as goal

abbrev pub invariant-loop-i : goal.invariant-loop-i
invariant-loop-i l = Inside l.text l.at l.i l.value
