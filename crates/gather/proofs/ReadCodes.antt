-- Slots of the codes of a block, whatever its bytes are: reading ends where no code stands, or where one leads above u.
use Prim.Native.Nat.{ℕ, ◌+◌, ◌-◌, ◌≤◌, ◌<◌}
use mathlib.Core.Path.{◌≡◌, refl, ap}
use mathlib.Core.List.{List, ◌++◌}
use native.Mathlib.Omega.{arith}
use lib.ListN.{length, set, take, drop}
use Rattle.paper.specs.Code.{code_of}
use Rattle.paper.specs.Block.{Block, read_codes}
use Rattle.laws.proofs.Blocks as blocks
use Rattle.std.specs.Prelude.{Option, Some, None}
use Rattle.codes.specs.declared.CodeAt.{CodeAt}
use Rattle.codes.specs.Got.{as_code}
use Rattle.codes.proofs.Turns.{is_bad, is_code}
use Rattle.record.specs.Front.{Front}
use Rattle.gather.proofs.Filling.{Filling, filled, put}

-- what holds at the head of the loop over the codes of a block: behind the slot y, one is left for each place from w up to `stop`, from position p on
pub record Codes (u : ℕ) (bs : List ℕ) (t : List ℕ) (size : ℕ) (s : List ℕ) (p stop y w : ℕ) : Type 0 where
  pub low : y ≤ u
  pub few : w ≤ stop
  pub fill : Filling t size s w (stop - w) (read_codes u (stop - w) y (drop p bs)).slots

-- at the start all of them are to come
pub codes_begin : (u : ℕ) (bs s : List ℕ) (count y at : ℕ) → y ≤ u → at + count ≤ length s
    → Codes u bs (take at s ++ (read_codes u count y bs).slots) (length s) s 0 (at + count) y at
codes_begin u bs s count y at low l =
    let k : at + count - at ≡ count = omega arith in
    record { low = low; few = omega arith; fill = rw k (record { long = refl; room = l; same = refl }) }

module _ (u : ℕ) (bs : List ℕ) (t : List ℕ) (size : ℕ) (s : List ℕ) (p stop y w : ℕ) (h : Codes u bs t size s p stop y w) where
  -- what is left to read is b
  left : (b : Block) → read_codes u (stop - w) y (drop p bs) ≡ b → (read_codes u (stop - w) y (drop p bs)).slots ≡ b.slots
  left b e = ap (λ (b : Block). b.slots) e

  -- no code is left
  pub codes_end : stop ≤ w → Front t stop s
  codes_end l =
      let e : stop ≡ w = omega (arith, h.few) in
      rw e (filled h.fill (blocks.slots_none u y (stop - w) (omega arith) (drop p bs)))

  module _ (some : w < stop) (g : Option CodeAt) (is : as_code bs g ≡ code_of (drop p bs)) where
    -- no code stands there
    pub codes_bad : g ≡ None → Front t w s
    codes_bad e = filled h.fill (left _ (blocks.turn_bad u y (stop - w) bs p (omega arith) (is_bad bs p g is e)))

    module _ (c : CodeAt) (e : g ≡ Some c) where
      -- the slot would be above u
      pub codes_above : u - y ≤ c.value → Front t w s
      codes_above l = filled h.fill (left _ (blocks.turn_above u y (stop - w) bs p (omega arith) c.value c.next (is_code bs p g c is e) (omega (arith, h.low))))

      -- the slot is put to the others
      pub codes_next : c.value < u - y → Codes u bs t size (set s w (y + c.value + 1)) c.next stop (y + c.value + 1) (w + 1)
      codes_next l =
          let i : y + c.value + 1 ≤ u = omega arith in
          let k : stop - w - 1 ≡ stop - (w + 1) = omega arith in
          record {
            low = i;
            few = omega arith;
            fill = rw k at (put h.fill _ _ (left _ (blocks.turn_next u y (stop - w) bs p (omega arith) c.value c.next (is_code bs p g c is e) i)) (omega arith));
          }
