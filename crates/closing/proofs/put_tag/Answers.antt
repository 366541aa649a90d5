use Rattle.closing.proofs.Puts.{tag_put}
use Rattle.closing.proofs.put_tag.Goals as goal

pub returns : goal.returns
returns c = tag_put c.args.room.now c.args.at c.copy_from_slice.new.self c.requires c.copy_from_slice.ensures.after
