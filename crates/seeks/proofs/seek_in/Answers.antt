use borrow.Author.Rules.{rules}
use Rattle.seeks.proofs.Turns.{seek_turn}
use Rattle.seeks.proofs.seek_in.Goals as goal

pub loop-codes-preserved : goal.loop-codes-preserved
loop-codes-preserved c = search (seek_turn, rules)
