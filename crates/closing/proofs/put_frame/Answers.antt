use Rattle.closing.proofs.Puts.{frame_put}
use Rattle.closing.proofs.put_frame.Goals as goal

pub returns : goal.returns
returns c = search frame_put
