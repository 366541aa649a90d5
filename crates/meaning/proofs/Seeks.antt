-- Reading in a block stops at its first slot that is not below x.
use Prim.Native.Nat.{ℕ, ◌<◌}
use mathlib.Core.Path.{◌≡◌, sym, ap, ◌∙◌}
use mathlib.Core.List.{List, [], ◌∷◌}
use native.Mathlib.Decide.{dec_le}
use native.Mathlib.Omega.{arith}
use Rattle.paper.specs.Lists.{first_from}
use Rattle.paper.specs.Walk.{Seek, seek}
use Rattle.laws.proofs.Lists.{first_none, first_here, first_on}
use Rattle.laws.proofs.Seeking.{seek_here, seek_out, seek_on}

-- that slot is its answer, whatever the slots are
pub seek_first : (x y : ℕ) (zs : List ℕ) → (seek x y zs).slot ≡ first_from x (y ∷ zs)
seek_first x y [] =
    elim (dec_le x y) [
      | yes l ↦ ap (λ (t : Seek). t.slot) (seek_here x y [] l) ∙ sym (first_here x y [] l)
      | no g ↦ let l : y < x = omega arith in ap (λ (t : Seek). t.slot) (seek_out x y l) ∙ sym (first_on x y [] l ∙ first_none x)
    ]
seek_first x y (z ∷ zs) =
    elim (dec_le x y) [
      | yes l ↦ ap (λ (t : Seek). t.slot) (seek_here x y (z ∷ zs) l) ∙ sym (first_here x y (z ∷ zs) l)
      | no g ↦
          let l : y < x = omega arith in
          ap (λ (t : Seek). t.slot) (seek_on x y l z zs) ∙ seek_first x z zs ∙ sym (first_on x y (z ∷ zs) l)
    ]
