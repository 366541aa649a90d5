use mathlib.Core.List.{[], ◌∷◌}
use Rattle.slots_c.proofs.Fields.{count_handed, put_fitted}
use Rattle.slots_c.proofs.slots_count.Goals as goal

pub returns : goal.returns
returns c = count_handed _ _ _ _ _ c.count-counted.ensures (put_fitted _ (_ ∷ _ ∷ _ ∷ []) _ _ c.put.ensures cc)
