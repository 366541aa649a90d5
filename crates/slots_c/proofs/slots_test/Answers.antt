use mathlib.Core.List.{[], ◌∷◌}
use Rattle.slots_c.proofs.Fields.{test-handed, as_bit, put_fitted}
use Rattle.slots_c.proofs.slots_test.Goals as goal

pub returns : goal.returns
returns c = test-handed _ _ _ _ _ _ _ c.test-tested.ensures (as_bit _) (put_fitted _ (_ ∷ _ ∷ _ ∷ []) _ _ c.put.ensures cc)
