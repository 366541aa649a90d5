use mathlib.Core.List.{[], ◌∷◌}
use Rattle.slots_c.proofs.Fields.{lend_handed, put_fitted}
use Rattle.slots_c.proofs.slots_lend.Goals as goal

pub returns : goal.returns
returns c = lend_handed _ _ _ _ _ c.part-lies.ensures (put_fitted _ (_ ∷ _ ∷ []) _ _ c.put.ensures cc)
