use mathlib.Core.List.{[], ◌∷◌}
use Rattle.slots_c.proofs.Fields.{look_handed, put_fitted}
use Rattle.slots_c.proofs.slots_look.Goals as goal

pub returns : goal.returns
returns c = look_handed _ _ _ _ c.look-seen.ensures (put_fitted _ (_ ∷ _ ∷ []) _ _ c.put.ensures cc)
