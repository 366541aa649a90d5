-- A piece of a block: codes without a fault give slot after slot, and each is marked.
use Prim.Native.Nat.{ℕ, ◌+◌, ◌-◌, ◌≤◌, ◌<◌}
use mathlib.Core.Path.{◌≡◌, refl, sym, ap, ◌∙◌}
use mathlib.Core.List.{List, ◌∷◌}
use native.Mathlib.Decide.{dec_le, ℕ_discrete}
use native.Mathlib.Omega.{arith}
use lib.ListN.{length, drop, length-set}
use Rattle.paper.specs.Lists.{has, last_of}
use Rattle.paper.specs.Code.{code_of}
use Rattle.paper.specs.Code.Code.{code}
use Rattle.meaning.proofs.Rising.{stop_above, stops_at, pass_below}
use Rattle.meaning.proofs.Blocks.{codes_rise}
use Rattle.codes.specs.Got.{Stands}
use Rattle.codes.proofs.Sound as sound
use Rattle.codes.specs.declared.block.Block.{Block}
use Rattle.marks.specs.Marks.{marked, marking, Clear, Reads, slots_left, Piece}
use Rattle.marks.proofs.Tables.{mark_here, mark_near, mark_other}

-- codes without a fault, one of which is left
module _ (u : ℕ) (bs : List ℕ) (p left y : ℕ) (r : Reads u bs p left y) (some : 0 < left) where
  -- it stands there
  pub stands : Stands bs p
  stands = sound.stands u left y bs p r.sound some

  -- in the block
  pub there : p < length bs
  there = sound.inside u left y bs p r.sound some

  -- and leads to the next slot
  module _ (v q : ℕ) (is : code v (drop q bs) ≡ code_of (drop p bs)) where
    -- within u
    pub within : y + v + 1 ≤ u
    within = sound.below u left y bs p r.sound some v q is

    -- and so the sum fits 32 bits
    pub sum_fits : y + v < 4294967296
    sum_fits = let w = within in let m = r.small in omega arith

    -- that of the next slot too
    pub slot_fits : y + v + 1 < 4294967296
    slot_fits = let w = within in let m = r.small in omega arith

    -- and is a slot
    pub slot_small : y + v + 1 ≤ 1048576
    slot_small = let w = within in let m = r.small in omega arith

    -- which is the first of those left
    pub next_slots : slots_left u bs p left y ≡ (y + v + 1) ∷ slots_left u bs q (left - 1) (y + v + 1)
    next_slots = sound.rest_slots u left y bs p r.sound some v q is

    -- and the others have no fault
    pub next_reads : Reads u bs q (left - 1) (y + v + 1)
    next_reads = record { low = within; small = r.small; sound = sound.rest_sound u left y bs p r.sound some v q is }

-- a block that is known to be well, before any of its codes is read
pub block_reads : (d : Block) → d.u ≤ 1048576 → Reads d.u d.codes.now 0 d.count d.first
block_reads d l = record { low = d.low; small = l; sound = d.sound }

-- the slot read last is marked, and begins a piece
pub piece_begin : (u : ℕ) (bs : List ℕ) (p left y : ℕ) (t : List ℕ) → Reads u bs p left y → Clear y t → (t' : List ℕ) → t' ≡ marking t y → (m : ℕ) → m ≡ left
    → Piece u bs (y ∷ slots_left u bs p left y) t' y left t' p m y
piece_begin u bs p left y t r c t' is m e =
    rw (is, e)
    record {
      reads = r;
      up = omega arith;
      near = omega arith;
      fewer = omega arith;
      clear =
          record {
            long = length-set t _ _ ∙ c.long;
            none = λ x l m. mark_other t y c.long x (λ e. absurd (omega arith)) (c.none x (omega arith) m);
          };
      new = λ x l m. let e : y ≡ x = omega arith in rw (← e) (mark_here t y c.long ∙ sym (stops_at y y (slots_left u bs p left y) refl));
      old = λ x l h. h;
      onward = λ x l. sym (pass_below x y (slots_left u bs p left y) l);
      last = refl;
    }

module _ (u : ℕ) (bs zs before : List ℕ) (base most : ℕ) (t : List ℕ) (p left y : ℕ) (h : Piece u bs zs before base most t p left y) (some : 0 < left)
    (v q : ℕ) (is : code v (drop q bs) ≡ code_of (drop p bs)) where
  -- the slots from the next one on
  ahead : (x : ℕ) → y < x → has x ((y + v + 1) ∷ slots_left u bs q (left - 1) (y + v + 1)) ≡ has x zs
  ahead x l = ap (has x) (sym (next_slots u bs p left y h.reads some v q is)) ∙ h.onward x l

  -- the next slot is marked too, where it is less than 16384 above the base
  pub piece_turn : y + v + 1 - base < 16384 → (t' : List ℕ) → t' ≡ marking t (y + v + 1) → (m : ℕ) → m ≡ left - 1 → Piece u bs zs before base most t' q m (y + v + 1)
  piece_turn l t' made m is_m =
      let r = h.reads in
      let c = h.clear in
      let b = h.up in
      let f = h.fewer in
      let z = y + v + 1 in
      let s : slots_left u bs p left y ≡ z ∷ slots_left u bs q (left - 1) z = next_slots u bs p left y r some v q is in
      let n : Reads u bs q (left - 1) z = next_reads u bs p left y r some v q is in
      rw (made, is_m)
      record {
        reads = n;
        up = omega arith;
        near = omega arith;
        fewer = omega arith;
        clear =
            record {
              long = length-set t _ _ ∙ c.long;
              none = λ x k m. mark_other t z c.long x (λ e. absurd (omega arith)) (c.none x (omega arith) m);
            };
        new = λ x k m. told x k m (dec_le x y) (ℕ_discrete z x);
        old = λ x k m. mark_other t z c.long x (λ e. absurd (omega arith)) (h.old x k m);
        onward = λ x k. sym (pass_below x z (slots_left u bs q (left - 1) z) k) ∙ ahead x (omega arith);
        last = sym (ap (last_of y) s) ∙ h.last;
      }
    where
      told : (x : ℕ) → base ≤ x → x ≤ y + v + 1 → Dec (x ≤ y) → Dec (y + v + 1 ≡ x) → marked (marking t (y + v + 1)) x ≡ has x zs
      told x k m (yes a) e = mark_near t (y + v + 1) h.clear.long x (omega arith) (omega arith) ∙ h.new x k a
      told x k m (no a) (yes e) = rw (← e) (mark_here t (y + v + 1) h.clear.long ∙ sym (stops_at (y + v + 1) (y + v + 1) _ refl) ∙ ahead (y + v + 1) (omega arith))
      told x k m (no a) (no e) =
          let n = next_reads u bs p left y h.reads some v q is in
          let w = n.low in
          let b = n.small in
          mark_other t (y + v + 1) h.clear.long x (λ i. e (sym i)) (h.clear.none x (omega arith) (omega arith))
          ∙ sym (stop_above x (y + v + 1) _ u (codes_rise u _ _ _ n.sound) (omega arith))
          ∙ ahead x (omega arith)

-- all of a piece, with its base, are marked in a table t; what is left is told by the bytes from p on
pub piece_end : (u : ℕ) (bs zs t t' : List ℕ) (base most : ℕ) → Clear base t → t' ≡ marking t base → (t'' : List ℕ) (p left y : ℕ)
    → Piece u bs zs t' base most t'' p left y → (m : ℕ) → m ≡ left → Piece u (drop p bs) zs t base most t'' 0 m y
piece_end u bs zs t t' base most c is t'' p left y h m e =
    rw e
    record {
      reads = record { low = h.reads.low; small = h.reads.small; sound = h.reads.sound };
      up = h.up;
      near = h.near;
      fewer = h.fewer;
      clear = h.clear;
      new = h.new;
      old = λ x l m. h.old x l (rw is (mark_other t base c.long x (λ e. absurd (omega arith)) m));
      onward = h.onward;
      last = h.last;
    }

-- the loop over a piece
pub ruleset pieces = (block_reads, stands, there, within, sum_fits, slot_fits, slot_small, next_slots, next_reads, piece_begin, piece_turn, piece_end)
