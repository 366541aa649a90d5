use borrow.Author.Rules.{rules}
use Rattle.skips.proofs.Walking.{begin, some, turn, end}
use Rattle.skips.proofs.walk.Goals as goal

pub loop-at-init : goal.loop-at-init
loop-at-init c = (search rules, search begin)

pub try_slot-step-requires : goal.try_slot-step-requires
try_slot-step-requires c = (search rules, search some)

pub loop-at-preserved : goal.loop-at-preserved
loop-at-preserved c = (search rules, search turn)

pub returns : goal.returns
returns c = search end
