use mathlib.Core.List.{[], ◌∷◌}
use Rattle.slots_c.proofs.Fields.{bound_handed, put_fitted}
use Rattle.slots_c.proofs.slots_bound.Goals as goal

pub returns : goal.returns
returns c = bound_handed _ _ _ _ _ _ _ c.bound-most.ensures (put_fitted _ (_ ∷ _ ∷ _ ∷ []) _ _ c.put.ensures cc)
