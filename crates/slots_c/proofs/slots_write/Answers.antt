use mathlib.Core.List.{[], ◌∷◌}
use Rattle.slots_c.proofs.Fields.{write-handed, put_fitted}
use Rattle.slots_c.proofs.slots_write.Goals as goal

pub returns : goal.returns
returns c = write-handed _ _ _ _ _ _ _ _ _ c.write-written.ensures (put_fitted _ (_ ∷ _ ∷ _ ∷ []) _ _ c.put.ensures cc)
