use Rattle.question.proofs.Asking.{answered_plainly}
use Rattle.question.proofs.answer_plainly.Goals as goal

pub returns : goal.returns
returns c = search answered_plainly
