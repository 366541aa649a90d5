use Rattle.closing.proofs.Puts.{trailer_put}
use Rattle.closing.proofs.put_trailer.Goals as goal

pub returns : goal.returns
returns c = trailer_put _ _ _ _ _ _ _ _ _ _ _ _ c.put_u32.ensures c.put_u32-2.ensures c.put_u32-3.ensures
    c.put_u32-4.ensures c.put_u32-5.ensures c.put_tag.ensures
