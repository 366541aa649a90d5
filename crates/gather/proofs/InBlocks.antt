-- Gathering the blocks of a tail one after the other, and then a whole list: its bits, and behind them its blocks.
use Prim.Native.Nat.{ℕ, ◌+◌, ◌≤◌, ◌<◌}
use mathlib.Core.Path.{◌≡◌, refl, sym, ap, ◌∙◌}
use mathlib.Core.List.{List, [], ◌++◌, flatten, append_assoc}
use native.Mathlib.Numerals.{add-one}
use native.Mathlib.Omega.{arith}
use lib.ListN.{length, get_or, set, take, length-set, length-append}
use lib.Seq.{take-suc-set, length-take-le}
use Rattle.paper.specs.Record.{cut_of, bits_of, slots_to_cut, tail_of}
use Rattle.paper.specs.Held.{contents, count_of}
use Rattle.meaning.proofs.Blocks.{codes_count}
use Rattle.meaning.proofs.Sound as sound
use Rattle.record.specs.declared.Parts.{Parts}
use Rattle.codes.specs.declared.block.Block.{Block}
use Rattle.codes.specs.InBlock.{read_block}
use Rattle.record.specs.Opened.{Opened, block_slots}
use Rattle.record.specs.Front.{Front}
use Rattle.record.proofs.Opening as opening
use Rattle.record.proofs.Opening.{slots_from, bits_hold}
use Rattle.gather.proofs.Filling.{Filling, filled}

-- what holds at the head of the loop over the blocks: those from block b on are to come
pub record Blocks (u B : ℕ) (r : List ℕ) (t : List ℕ) (size : ℕ) (s : List ℕ) (b w : ℕ) : Type 0 where
  pub fill : Filling t size s w (length (slots_from u B r b)) (slots_from u B r b)

module _ (u B : ℕ) (r : List ℕ) (p : Parts) (o : Opened u B r p) where
  -- the slots of the blocks are as many as the head says
  slots_number : length (flatten (tail_of u B r).blocks) ≡ p.n
  unfolding contents count_of
  slots_number =
      let c = sound.contents_count u B r o.some_b o.sound in
      let n = opening.n_is u B r p o in
      omega (arith, simp length-append at c)

  -- at the start all blocks are to come
  pub blocks_begin : (s : List ℕ) (at : ℕ) → at + p.n ≤ length s → Blocks u B r (take at s ++ flatten (tail_of u B r).blocks) (length s) s 0 at
  blocks_begin s at l = let e = slots_number in record { fill = record { long = refl; room = omega arith; same = refl } }

  module _ (t : List ℕ) (size : ℕ) (s : List ℕ) (b w : ℕ) (h : Blocks u B r t size s b w) where
    -- behind the last block nothing is to come
    pub blocks_end : p.m ≤ b → Front t w s
    blocks_end l = filled h.fill (opening.slots_end u B r p o b l)

    module _ (l : b < p.m) (q : Block) (is : get_or (tail_of u B r).blocks b [] ≡ block_slots q) where
      -- the block, and then the others
      block_is : slots_from u B r b ≡ block_slots q ++ slots_from u B r (b + 1)
      block_is = opening.blocks_next u B r p o b l q is

      codes_number : length (read_block q).slots ≡ q.count
      codes_number = codes_count q.u _ _ _ q.sound

      -- their slots, counted
      block_size : length (slots_from u B r b) ≡ 1 + q.count + length (slots_from u B r (b + 1))
      block_size = rw (block_is, length-append) (omega (arith, codes_number))

      -- there is room for its first slot
      pub first_room : w < length s
      first_room = omega (arith, block_size, h.fill.room, h.fill.long)

      -- and for those that its codes give
      pub codes_room : w + 1 + q.count ≤ length (set s w q.first)
      codes_room = rw length-set (omega (arith, block_size, h.fill.room, h.fill.long))

      -- the block is gathered: w₂ slots stand in s₂
      pub block_next : (s₂ : List ℕ) (w₂ : ℕ) → length s₂ ≡ length (set s w q.first)
          → Front (take (w + 1) (set s w q.first) ++ (read_block q).slots) w₂ s₂
          → Blocks u B r t size s₂ (b + 1) w₂
      block_next s₂ w₂ kept f =
          let i = first_room in
          let rest = slots_from u B r (b + 1) in
          let n : length s₂ ≡ length s = kept ∙ length-set s w q.first in
          let a : take w₂ s₂ ≡ take w s ++ block_slots q = f.are ∙ simp (add-one w, take-suc-set s w q.first i, append_assoc) in
          let j : take w₂ s₂ ++ rest ≡ t = rw a (simp append_assoc (rw block_is at h.fill.same)) in
          let e = length-take-le w₂ s₂ f.few in
          let g = length-take-le w s (omega arith) in
          let c = codes_number in
          let k : w₂ ≡ w + (1 + q.count) = sym e ∙ rw (a, length-append, g, c) (omega arith) in
          record { fill = record { long = n ∙ h.fill.long; room = omega (arith, block_size, h.fill.room); same = j } }

-- all of these
pub ruleset block_turns = (blocks_begin, blocks_end, first_room, codes_room, block_next)

-- A whole list: its bits, and then its blocks
module _ (u B : ℕ) (r : List ℕ) (p : Parts) (o : Opened u B r p) where
  -- its bits up to the cut, as the head gives it
  cut_same : slots_to_cut p.cut (bits_of r) ≡ slots_to_cut (cut_of r) (bits_of r)
  cut_same = rw (opening.cut_is u B r p o)

  -- the cut is not too large
  pub cut_small : p.cut ≤ 1048576
  cut_small = let s = o.slots in let b = o.small in omega arith

  module _ (s : List ℕ) (l : count_of r ≤ length s) where
    -- there is room for their slots
    pub bits_room : length (slots_to_cut p.cut (bits_of r)) ≤ length s
    unfolding count_of
    bits_room = rw cut_same (omega arith)

    -- and then for those of the tail
    pub tail_room : (s₁ : List ℕ) (w : ℕ) → length s₁ ≡ length s → Front (slots_to_cut p.cut (bits_of r)) w s₁ → w + p.n ≤ length s₁
    unfolding count_of
    tail_room s₁ w kept f =
        let n = opening.n_is u B r p o in
        let e : w ≡ length (slots_to_cut (cut_of r) (bits_of r)) = sym (length-take-le w s₁ f.few) ∙ ap length (f.are ∙ cut_same) in
        omega arith

  -- both gathered, they are the list
  pub whole_list : (s₁ s₂ : List ℕ) (w w₂ : ℕ) → Front (slots_to_cut p.cut (bits_of r)) w s₁
      → Front (take w s₁ ++ flatten (tail_of u B r).blocks) w₂ s₂ → Front (contents u B r) w₂ s₂
  unfolding contents
  whole_list s₁ s₂ w w₂ f g = record { few = g.few; are = g.are ∙ ap (λ (l : List ℕ). l ++ flatten (tail_of u B r).blocks) (f.are ∙ cut_same) }

-- all of these
pub ruleset list_steps = (cut_small, bits_room, tail_room, whole_list)
