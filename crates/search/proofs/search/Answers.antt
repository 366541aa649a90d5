use Rattle.search.proofs.Looking.{turn, failed, ended}
use Rattle.search.proofs.search.Goals as goal

pub returns-then-x-entry : goal.returns-then-x-entry
returns-then-x-entry c = search failed

pub loop-d-preserved : goal.loop-d-preserved
loop-d-preserved c = search turn

pub returns : goal.returns
returns c = search ended
