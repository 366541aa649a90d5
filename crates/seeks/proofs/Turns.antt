-- The loop over the codes of a block that is sought in: what is left to read answers as the whole does. One law for each way out of the loop and one for a turn.
use Prim.Native.Nat.{ℕ, ◌+◌, ◌-◌, ◌≤◌, ◌<◌}
use mathlib.Core.Path.{◌≡◌, sym, ap, ◌∙◌}
use mathlib.Core.List.{List}
use native.Mathlib.Nat.{sub-zero}
use native.Mathlib.Omega.{arith}
use lib.ListN.{length, drop}
use Rattle.paper.specs.Lists.{some_slot}
use Rattle.paper.specs.Code.{code_of}
use Rattle.paper.specs.Code.Code.{code}
use Rattle.paper.specs.Block.{read_codes}
use Rattle.paper.specs.Walk.{Seek, seek, more}
use Rattle.laws.proofs.Blocks as blocks
use Rattle.laws.proofs.Seeking.{seek_here, seek_out, seek_on}
use Rattle.codes.specs.Got.{Stands}
use Rattle.codes.proofs.Sound as sound
use Rattle.codes.specs.declared.Stopped.{Stopped}
use Rattle.codes.specs.InBlock.{stopped}
use Rattle.seeks.specs.Sought.{Head}

-- seeking: none is read
pub seek_begin : (x u : ℕ) (bs : List ℕ) (count y : ℕ) → y ≤ u → (read_codes u count y bs).fault ≡ 0
    → Head x u bs count (stopped 0 (seek x y (read_codes u count y bs).slots)) 0 0 y
seek_begin x u bs count y l f = record { few = omega arith; low = l; sound = rw sub-zero f; same = rw sub-zero }

module _ (x u : ℕ) (bs : List ℕ) (count : ℕ) (t : Stopped) (p n y : ℕ) (h : Head x u bs count t p n y) (lt : n < count) where
  -- a code stands there
  pub code_stands : Stands bs p
  code_stands = sound.stands u (count - n) y bs p h.sound (omega arith)

  -- and so a byte does
  pub code_inside : p < length bs
  code_inside = sound.inside u (count - n) y bs p h.sound (omega arith)

  module _ (v q : ℕ) (is : code v (drop q bs) ≡ code_of (drop p bs)) where
    -- its slot is not above u
    pub code_below : y + v + 1 ≤ u
    code_below = sound.below u (count - n) y bs p h.sound (omega arith) v q is

    -- and is the next one
    pub seek_turn : y < x → Head x u bs count t q (n + 1) (y + v + 1)
    seek_turn l =
        let m : count - n - 1 ≡ count - (n + 1) = omega arith in
        let f = sound.rest_sound u (count - n) y bs p h.sound (omega arith) v q is in
        let i = sound.rest_slots u (count - n) y bs p h.sound (omega arith) v q is in
        let s = ap (seek x y) i ∙ seek_on x y l (y + v + 1) _ in
        record { few = omega arith; low = code_below; sound = rw m at f; same = rw (← m) (moved _ (ap (stopped n) (sym s) ∙ h.same)) }
      where
        moved : (w : Seek) → stopped n (more w) ≡ t → stopped (n + 1) w ≡ t
        moved w e = let z : n + 1 + w.codes ≡ n + (1 + w.codes) = omega arith in ap (λ (m : ℕ). record { slot = some_slot w.slot; codes = m }) z ∙ e

-- the ways out of the loop, and what is known of a code that is left
pub ruleset seeks = (blocks.slots_none, seek_here, seek_out, code_stands, code_inside, code_below, seek_turn)
