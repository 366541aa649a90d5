use Rattle.names.proofs.Records.{record_sound, block_some, u_small}
use Rattle.names.proofs.index.Index.list.Goals as goal

pub open-requires : goal.open-requires
open-requires c = (search record_sound, search block_some, search u_small)
