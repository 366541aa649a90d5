use mathlib.Core.List.{[], ◌∷◌}
use Rattle.slots_c.proofs.Fields.{close-handed, put_fitted}
use Rattle.slots_c.proofs.slots_close.Goals as goal

pub returns : goal.returns
returns c = close-handed _ _ _ _ _ _ _ _ _ c.close-closed.ensures (put_fitted _ (_ ∷ _ ∷ _ ∷ []) _ _ c.put.ensures cc)
