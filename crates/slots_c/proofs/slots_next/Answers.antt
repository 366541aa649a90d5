use mathlib.Core.List.{[], ◌∷◌}
use Rattle.slots_c.proofs.Fields.{next_handed, put_fitted}
use Rattle.slots_c.proofs.slots_next.Goals as goal

pub returns : goal.returns
returns c = next_handed _ _ _ _ _ _ c.next-told.ensures (put_fitted _ (_ ∷ _ ∷ _ ∷ []) _ _ c.put.ensures cc)
