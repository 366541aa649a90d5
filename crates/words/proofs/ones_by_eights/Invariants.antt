use Rattle.words.proofs.Eights.{Eighths}
use Rattle.words.proofs.ones_by_eights.Given as goal

abbrev pub invariant-loop-turn : goal.invariant-loop-turn
invariant-loop-turn l = Eighths l.bits l.turn l.ones
