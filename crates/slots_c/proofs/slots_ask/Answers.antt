use Rattle.slots_c.proofs.Fields.{ask-handed}
use Rattle.slots_c.proofs.slots_ask.Goals as goal

pub returns : goal.returns
returns c = ask-handed _ _ _ _ _ _ _ _ c.ask-answer.ensures cc
