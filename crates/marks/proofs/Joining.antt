-- Block after block, and the whole list.
use Prim.Native.Nat.{ℕ, ◌+◌, ◌*◌, ◌≤◌, ◌<◌}
use mathlib.Core.Path.{◌≡◌, refl, sym, ap, ◌∙◌}
use mathlib.Core.List.{List, [], ◌∷◌, ◌++◌, append-nil}
use native.Mathlib.Omega.{arith}
use lib.ListN.{length, get_or, take}
use Rattle.paper.specs.Lists.{has, keep}
use Rattle.paper.specs.Bytes.{part, u32_at}
use Rattle.paper.specs.Record.{bit_at, bits_of, tail_of}
use Rattle.paper.specs.Held.{contents}
use Rattle.laws.proofs.Lists.{has_none}
use Rattle.laws.proofs.Parts.{part_none}
use Rattle.meaning.proofs.Rising.{Ascends}
use Rattle.meaning.proofs.Sound.{tail_rise, has_bit, has_tail}
use Rattle.record.specs.declared.Parts.{Parts}
use Rattle.record.specs.Opened.{Opened, block_slots}
use Rattle.record.specs.Front.{Front}
use Rattle.codes.specs.declared.block.Block.{Block}
use Rattle.record.proofs.Opening.{blocks_next, first_next, slots_from, cut_is, slots_end}
use Rattle.plain.specs.Sifted.{up_to, Told}
use Rattle.marks.specs.Marks.{Clear}
use Rattle.marks.specs.Waiting.{whole, Waits, Below}
use Rattle.plain.proofs.Meant.{keep_same, keep_none, left_rise, both}
use Rattle.marks.proofs.Waiting.{Comes, passed_over}

-- nothing is kept of the candidates left: those that stand kept are all
module _ (slots : List ℕ) (count kept next : ℕ) (s : List ℕ) (few : kept ≤ length s) where
  only_kept : keep (λ x. has x slots) (part s next count) ≡ [] → Front (whole slots count kept next s) kept s
  only_kept e = record { few = few; are = sym (append-nil (take kept s)) ∙ ap (λ (v : List ℕ). take kept s ++ v) (sym e) }

  none_there : count ≤ next → Front (whole slots count kept next s) kept s
  unfolding keep
  none_there l = only_kept (rw (part_none s next count l))

module _ (u B : ℕ) (r : List ℕ) (p : Parts) (o : Opened u B r p) where
  -- the slots behind the cut
  abbrev slots : List ℕ
  slots = slots_from u B r 0

  -- block `nth` comes: its first slot is the base of a piece
  pub block_begin : (nth : ℕ) → nth < p.m → (w t : List ℕ) (count kept next : ℕ) (s : List ℕ) → Waits u slots (slots_from u B r nth) w t count kept next s
      → (q : Block) → get_or (tail_of u B r).blocks nth [] ≡ block_slots q → q.u ≡ u
      → Comes u slots (slots_from u B r (nth + 1)) w t count kept next s q
  block_begin nth l w t count kept next s h q is same = record { same = same; small = o.small; waits = rw (blocks_next u B r p o nth l q is) at h }

  module _ (nth : ℕ) (l : nth < p.m) (w t : List ℕ) (count kept next : ℕ) (s : List ℕ) (h : Waits u slots (slots_from u B r nth) w t count kept next s) where
    -- block `nth` is passed over
    pub block_passed : next < count → Below p r nth (get_or s next 0) → Waits u slots (slots_from u B r (nth + 1)) w t count kept next s
    block_passed k b =
        let q = first_next u B r p o nth l in
        let n = first_next u B r p o (nth + 1) b.further in
        passed_over u slots (u32_at r (p.from + 8 * nth) ∷ q.0) (slots_from u B r (nth + 1)) w t count kept next s (rw q.1 at h)
        (u32_at r (p.from + 8 * (nth + 1))) _ n.1 k b.low

  module _ (nth : ℕ) (w t : List ℕ) (count kept next : ℕ) (s : List ℕ) (h : Waits u slots (slots_from u B r nth) w t count kept next s) where
    -- no candidate is left
    pub all_told : count ≤ next → Front w kept s
    all_told e = let l = h.low in let m = h.within in let k = h.room in rw (← h.same) (none_there slots count kept next s (omega arith) e)

    -- no block is left
    pub blocks_done : p.m ≤ nth → Front w kept s
    blocks_done e =
        let l = h.low in
        let m = h.within in
        let k = h.room in
        rw (← h.same)
        (only_kept slots count kept next s (omega arith)
        (keep_none (λ x. has x slots) u h.floor (λ x f. h.ahead x f ∙ ap (has x) (slots_end u B r p o nth e) ∙ has_none x) (part s next count) h.rise))

  -- Candidates that rise above the cut
  module _ (count kept next : ℕ) (s : List ℕ) (low : kept ≤ next) (within : next ≤ count) (room : count ≤ length s) (rise : Ascends u p.cut (part s next count)) where
    -- there is no block
    pub no_blocks : p.m ≡ 0 → Front (whole slots count kept next s) kept s
    no_blocks z =
        only_kept slots count kept next s (omega arith)
        (keep_none (λ x. has x slots) u p.cut (λ x f. ap (has x) (slots_end u B r p o 0 (omega arith)) ∙ has_none x) (part s next count) rise)

    -- there are none
    pub no_candidates : count ≤ next → Front (whole slots count kept next s) kept s
    no_candidates e = none_there slots count kept next s (omega arith) e

    -- all slots are to come
    pub blocks_begin : (t : List ℕ) → Clear 0 t → Waits u slots slots (whole slots count kept next s) t count kept next s
    blocks_begin t c =
        record {
          floor = p.cut;
          low = low;
          within = within;
          room = room;
          rise = rise;
          clear = record { long = c.long; none = λ x l k. c.none x (omega arith) k };
          ahead = λ x l. refl;
          above = rw (cut_is u B r p o) (tail_rise u B r o.some_b o.sound);
          same = refl;
        }

  -- The whole list: the bits tell the candidates up to the cut
  module _ (count : ℕ) (s : List ℕ) (rise : Ascends u 0 s) (kept next : ℕ) (t : List ℕ)
      (told : Told (up_to p.cut (bit_at (bits_of r)) s) count kept next t) where
    abbrev left : List ℕ
    left = (up_to p.cut (bit_at (bits_of r)) s).left

    left_above : Ascends u p.cut left
    left_above = left_rise u p.cut (bit_at (bits_of r)) 0 s rise

    -- the others are above it
    pub above_cut : (c : ℕ) → c ≡ count → Ascends u p.cut (part t next c)
    above_cut c e = rw (e, told.rest) left_above

    -- and those of them that are slots behind it make up all that the list holds
    pub merged : (c : ℕ) → c ≡ count → (m : ℕ) (v : List ℕ) → Front (whole slots c kept next t) m v → Front (keep (λ x. has x (contents u B r)) s) m v
    merged c e m v f =
        let cut = cut_is u B r p o in
        record {
          few = f.few;
          are =
              f.are
              ∙ rw (e, told.front, told.rest)
              (both u p.cut (bit_at (bits_of r)) (keep (λ x. has x slots)) (λ x. has x (contents u B r))
              (λ xs r'. keep_same (λ x. has x slots) (λ x. has x (contents u B r)) u p.cut (λ x l. sym (has_tail u B r o.some_b o.sound x (omega arith))) xs r') 0
              (λ x l k. sym (has_bit u B r o.some_b o.sound x (omega arith) (omega arith))) s rise);
        }

-- where there are candidates behind the cut and blocks, or not
pub ruleset tails = (no_blocks, no_candidates, blocks_begin)
