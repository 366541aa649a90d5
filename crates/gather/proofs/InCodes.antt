-- The slots of the codes of a block without a fault, put one behind the other.
use Prim.Native.Nat.{ℕ, ◌+◌, ◌-◌, ◌≤◌, ◌<◌}
use mathlib.Core.Path.{◌≡◌, refl}
use mathlib.Core.List.{List, ◌++◌}
use native.Mathlib.Nat.{add-zero}
use native.Mathlib.Omega.{arith}
use lib.ListN.{length, set, take, drop}
use Rattle.std.proofs.Common.{Fits, w32}
use Rattle.paper.specs.Bytes.{byte_at}
use Rattle.paper.specs.Code.{code_of}
use Rattle.paper.specs.Code.Code.{code}
use Rattle.paper.specs.Block.{read_codes}
use Rattle.laws.proofs.Blocks.{slots_none}
use Rattle.codes.specs.Got.{Stands}
use Rattle.codes.proofs.Sound as sound
use Rattle.record.specs.Front.{Front}
use Rattle.gather.proofs.Filling.{Filling, filled, put}

-- what holds at the head of the loop over the codes of a block: behind the slot y, one is left for each place from w up to `stop`, from position p on
pub record Codes (u : ℕ) (bs : List ℕ) (t : List ℕ) (size : ℕ) (s : List ℕ) (p stop y w : ℕ) : Type 0 where
  pub few : w ≤ stop
  pub sound : (read_codes u (stop - w) y (drop p bs)).fault ≡ 0
  pub fill : Filling t size s w (stop - w) (read_codes u (stop - w) y (drop p bs)).slots

-- at the start all of them are to come
pub codes_begin : (u : ℕ) (bs s : List ℕ) (count y at : ℕ) → (read_codes u count y bs).fault ≡ 0 → at + count ≤ length s
    → Codes u bs (take at s ++ (read_codes u count y bs).slots) (length s) s 0 (at + count) y at
codes_begin u bs s count y at f l =
    let k : at + count - at ≡ count = omega arith in
    record { few = omega arith; sound = rw k f; fill = rw k (record { long = refl; room = l; same = refl }) }

module _ (u : ℕ) (bs : List ℕ) (t : List ℕ) (size : ℕ) (s : List ℕ) (p stop y w : ℕ) (h : Codes u bs t size s p stop y w) where
  -- no code is left
  pub codes_end : stop ≤ w → Front t stop s
  codes_end l =
      let e : stop ≡ w = omega (arith, h.few) in
      rw e (filled h.fill (slots_none u y (stop - w) (omega arith) (drop p bs)))

  module _ (some : w < stop) where
    left : 0 < stop - w
    left = omega arith

    -- a code stands there
    pub code_stands : Stands bs p
    code_stands = sound.stands u (stop - w) y bs p h.sound left

    -- and so a byte does
    pub code_inside : p < length bs
    code_inside = sound.inside u (stop - w) y bs p h.sound left

    -- there is room for its slot
    pub code_room : w < length s
    code_room = omega (arith, h.fill.long, h.fill.room)

    module _ (v q : ℕ) (is : code v (drop q bs) ≡ code_of (drop p bs)) where
      -- which is not above u
      pub code_below : y + v + 1 ≤ u
      code_below = sound.below u (stop - w) y bs p h.sound left v q is

      -- and so fits 32 bits, as u does
      pub code_sum : Fits w32 u → Fits w32 (y + v)
      code_sum f = record { fits = omega (arith, f.fits, code_below) }

      pub code_fits : Fits w32 u → Fits w32 (y + v + 1)
      code_fits f = record { fits = omega (arith, f.fits, code_below) }

      -- and is put to the others
      pub code_next : Codes u bs t size (set s w (y + v + 1)) q stop (y + v + 1) (w + 1)
      code_next =
          let k : stop - w - 1 ≡ stop - (w + 1) = omega arith in
          record {
            few = omega arith;
            sound = rw k at (sound.rest_sound u (stop - w) y bs p h.sound left v q is);
            fill = rw k at (put h.fill _ _ (sound.rest_slots u (stop - w) y bs p h.sound left v q is) left);
          }

-- all of these
pub ruleset code_turns = (codes_begin, codes_end, code_stands, code_inside, code_room, code_sum, code_fits, code_next)

-- the same where each byte is a code: i of them are taken
pub record Ones (u : ℕ) (bs : List ℕ) (t : List ℕ) (size : ℕ) (s : List ℕ) (at i y : ℕ) : Type 0 where
  pub all : Codes u bs t size s i (at + length bs) y (at + i)

-- none is taken
pub ones_begin : (u : ℕ) (bs s : List ℕ) (count y at : ℕ) → length bs ≡ count → (read_codes u count y bs).fault ≡ 0 → at + count ≤ length s
    → Ones u bs (take at s ++ (read_codes u count y bs).slots) (length s) s at 0 y
ones_begin u bs s count y at e f l = record { all = rw (add-zero at, e) (codes_begin u bs s count y at f l) }

module _ (u : ℕ) (bs : List ℕ) (t : List ℕ) (size : ℕ) (s : List ℕ) (at i y : ℕ) (h : Ones u bs t size s at i y) where
  -- all of them are
  pub ones_end : length bs ≤ i → Front t (at + length bs) s
  ones_end l = codes_end u bs t size s i (at + length bs) y (at + i) h.all (omega arith)

  module _ (l : i < length bs) where
    -- there is room for one more
    pub ones_room : at + i < length s
    ones_room = code_room u bs t size s i (at + length bs) y (at + i) h.all (omega arith)

    module _ (b : ℕ) (is : b ≡ byte_at bs i) where
      as_one_code : code b (drop (i + 1) bs) ≡ code_of (drop i bs)
      as_one_code = sound.alone_is u (at + length bs - (at + i)) y bs i h.all.sound (omega arith) (omega arith) b is

      -- whose slot fits 32 bits, as u does
      pub ones_sum : Fits w32 u → Fits w32 (y + b)
      ones_sum = code_sum u bs t size s i (at + length bs) y (at + i) h.all (omega arith) b (i + 1) as_one_code

      pub ones_fits : Fits w32 u → Fits w32 (y + b + 1)
      ones_fits = code_fits u bs t size s i (at + length bs) y (at + i) h.all (omega arith) b (i + 1) as_one_code

      -- and is put to the others
      pub ones_turn : Ones u bs t size (set s (at + i) (y + b + 1)) at (i + 1) (y + b + 1)
      ones_turn =
          let e : at + i + 1 ≡ at + (i + 1) = omega arith in
          record { all = rw e at (code_next u bs t size s i (at + length bs) y (at + i) h.all (omega arith) b (i + 1) as_one_code) }

-- all of these
pub ruleset one_turns = (ones_begin, ones_end, ones_room, ones_sum, ones_fits, ones_turn)
