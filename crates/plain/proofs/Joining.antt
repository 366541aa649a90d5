-- Block after block, and the whole list: what the parts of a merge leave makes up what is said of the whole.
use Prim.Native.Nat.{ℕ, ◌+◌, ◌≤◌, ◌<◌}
use mathlib.Core.Path.{◌≡◌, sym, ap, ◌∙◌}
use mathlib.Core.List.{List, [], ◌++◌, flatten, append_assoc}
use native.Mathlib.Omega.{arith}
use lib.ListN.{length, get_or, take}
use Rattle.paper.specs.Bytes.{part}
use Rattle.paper.specs.Record.{cut_of, bits_of, bit_at, tail_of}
use Rattle.paper.specs.Held.{listed}
use Rattle.record.specs.declared.Parts.{Parts}
use Rattle.codes.specs.declared.block.Block.{Block}
use Rattle.record.specs.Opened.{Opened, block_slots}
use Rattle.record.specs.Front.{Front}
use Rattle.record.proofs.Opening.{slots_from, cut_is, slots_end, blocks_next}
use Rattle.plain.specs.Sifted.{Sifted, behind, up_to, by_slots, plainly, Told}
use Rattle.plain.proofs.Steps.{slots_none, slots_join}
use Rattle.plain.proofs.Merging.{Merging, begun, none_left, all_left}

-- by the slots ys, and then by zs
joined : (w : Sifted) (long count kept next : ℕ) (s ys zs : List ℕ) → Merging w (by_slots (ys ++ zs)) long count kept next s → (m n : ℕ) (t : List ℕ)
    → Told (behind (take kept s) (by_slots ys (part s next count))) count m n t → length t ≡ length s → Merging w (by_slots zs) long count m n t
joined w long count kept next s ys zs h m n t told e =
    record {
      low = told.low;
      within = told.within;
      room = told.room;
      same_length = e ∙ h.same_length;
      same = rw (told.front, told.rest, append_assoc) (ap (behind (take kept s)) (sym (slots_join ys zs (part s next count))) ∙ h.same);
    }

-- what is told stands at the front
told_front : (w : Sifted) (count kept next : ℕ) (s : List ℕ) → Told w count kept next s → Front w.kept kept s
told_front w count kept next s t = record { few = omega arith; are = t.front }

module _ (u B : ℕ) (r : List ℕ) where
  module _ (ks : List ℕ) (v : Sifted) (long count kept next : ℕ) (s : List ℕ) (nth : ℕ)
      (h : Merging (behind ks v) (by_slots (slots_from u B r nth)) long count kept next s) where
    -- no candidate is left
    pub blocks_none : count ≤ next → Front (ks ++ v.kept) kept s
    blocks_none l = told_front _ count kept next s (none_left _ _ long count kept next s h l (slots_none (slots_from u B r nth)))

    module _ (p : Parts) (o : Opened u B r p) where
      -- no block is left
      pub blocks_end : p.m ≤ nth → Front (ks ++ v.kept) kept s
      unfolding by_slots
      blocks_end l = told_front _ count kept next s (all_left _ _ long count kept next s h (rw (slots_end u B r p o nth l)))

      -- a block is gone through
      pub blocks_turn : nth < p.m → (q : Block) → get_or (tail_of u B r).blocks nth [] ≡ block_slots q → (c m n : ℕ) (t : List ℕ) → c ≡ count
          → Told (behind (take kept s) (by_slots (block_slots q) (part s next c))) c m n t
          → length t ≡ length s → Merging (behind ks v) (by_slots (slots_from u B r (nth + 1))) long count m n t
      blocks_turn l q is c m n t same told e = joined _ long count kept next s _ _ (rw (blocks_next u B r p o nth l q is) at h) m n t (rw same at told) e

-- the loop over the blocks, from its start on
pub ruleset by_blocks = (begun, blocks_none, blocks_end, blocks_turn)

-- The whole list: its bits, and then its blocks
module _ (u B : ℕ) (r : List ℕ) (p : Parts) (o : Opened u B r p) where
  -- what the bits leave, and then the blocks, is what is said of the whole
  pub merged : (count kept next : ℕ) (s t : List ℕ) → Told (up_to p.cut (bit_at (bits_of r)) s) count kept next t → (m : ℕ) (v : List ℕ)
      → Front (take kept t ++ (by_slots (flatten (tail_of u B r).blocks) (part t next count)).kept) m v → Front (plainly (listed u B r) s) m v
  unfolding plainly listed
  merged count kept next s t told m v f =
      let w : up_to p.cut (bit_at (bits_of r)) s ≡ up_to (cut_of r) (bit_at (bits_of r)) s = rw (cut_is u B r p o) in
      record { few = f.few; are = f.are ∙ rw (told.front, told.rest, w) }
