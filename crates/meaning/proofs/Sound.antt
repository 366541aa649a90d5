-- An accepted record: its parts make it up, its slots ascend, there are as many as it counts, where each of them is found, and the next one from a slot on.
use Prim.Native.Nat.{ℕ, zero, suc, ◌+◌, ◌-◌, ◌*◌, ◌≤◌, ◌<◌, min}
use mathlib.Core.Path.{◌≡◌, refl, sym, ap, ◌∙◌}
use mathlib.Core.List.{List, ◌∷◌, flatten}
use native.Mathlib.Decide.{ℕ_discrete}
use native.Mathlib.Nat.{zero-add}
use native.Mathlib.Omega.{arith}
use lib.ListN.{length, get_or, drop, length-append}
use Rattle.paper.specs.Lists.{has, first_from, last_of}
use Rattle.paper.specs.Tail.{Tail, block_count, first_slot, offset_of, read_blocks, read_tail}
use Rattle.paper.specs.Record.{cut_of, tail_count, code_length, bit_length, bits_of, behind_bits, entries_of, codes_of, bit_at, next_bit, slots_to_cut, tail_in, tail_of, fault17, record_fault}
use Rattle.paper.specs.Held.{contents, count_of, listed, entry_of}
use Rattle.paper.specs.Walk.{or_behind}
use Rattle.laws.proofs.Lists.{has_front, has_behind, first_joined, first_behind}
use Rattle.laws.proofs.Rounding.{rounds_ceil, rounds_left}
use Rattle.laws.proofs.Tails.{tail_offset, tail_blocks}
use Rattle.laws.proofs.Records.{Fits, Unset, fits_6, unset_17}
use Rattle.meaning.proofs.Rising.{Ascends, rise_higher, rise_lower, rise_join, last_within, has_low, has_high, first_high}
use Rattle.meaning.proofs.Bits.{bits_rise, bits_has, bits_first}
use Rattle.meaning.proofs.Blocks.{block_end, codes_read, BlockIs, Chain, blocks_sound}
use Rattle.meaning.proofs.Chains.{block_at, count_of_block, chain_length, chain_rise, chain_block, chain_above, chain_count, chain_next, chain_from, chain_first}

-- The parts of a record: m, the number of its blocks; their entries; the code bytes
abbrev pub blocks_of : ℕ → List ℕ → ℕ
blocks_of B r = block_count B (tail_count r)

-- its skip entries
abbrev pub skips_of : ℕ → List ℕ → List ℕ
skips_of B r = entries_of (blocks_of B r) (behind_bits r)

-- its code bytes
abbrev pub code_bytes_of : ℕ → List ℕ → List ℕ
code_bytes_of B r = codes_of (blocks_of B r) (behind_bits r)

module _ (u B : ℕ) (r : List ℕ) (pos : 1 ≤ B) (ok : record_fault u B (length r) r ≡ 0) where
  the_parts : Fits u B (length r) (cut_of r) (tail_count r) (code_length r) × (fault17 (cut_of r) (bits_of r) (tail_of u B r).fault ≡ 0)
  unfolding record_fault
  the_parts = fits_6 u B (length r) (cut_of r) (tail_count r) (code_length r) (fault17 (cut_of r) (bits_of r) (tail_of u B r).fault) ok

  behind_6 : Unset (cut_of r) (bits_of r) × ((tail_of u B r).fault ≡ 0)
  behind_6 = unset_17 (cut_of r) (bits_of r) (tail_of u B r).fault the_parts.1

  -- The parts: the cut is within u
  pub cut_within : cut_of r ≤ u
  cut_within = the_parts.0.cut

  -- n, the tail count, is at most the number of slots above the cut
  pub tail_fits : tail_count r ≤ u - cut_of r
  tail_fits = the_parts.0.count

  -- head, bits, entries and codes make up the record
  pub parts_sum : 12 + bit_length (cut_of r) + 8 * blocks_of B r + code_length r ≡ length r
  parts_sum = the_parts.0.sum

  -- no bit beyond the cut is set
  pub none_beyond : Unset (cut_of r) (bits_of r)
  none_beyond = behind_6.0

  -- the tail is read without a fault
  tail_sound : (tail_of u B r).fault ≡ 0
  tail_sound = behind_6.1

  -- the tail, as it is read
  read : Tail
  read = read_tail u B (cut_of r) (tail_count r) (code_length r) (skips_of B r) (code_bytes_of B r)

  tail_is : tail_of u B r ≡ read
  unfolding tail_of tail_in read
  tail_is = refl

  -- the codes of block 0 begin at 0
  first_offset : offset_of (skips_of B r) 0 ≡ 0
  unfolding read
  first_offset =
      elim (ℕ_discrete (offset_of (skips_of B r) 0) 0) [
        | yes e ↦ e
        | no f ↦
            absurd
            (let t = tail_is ∙ tail_offset u B (cut_of r) (tail_count r) (code_length r) (skips_of B r) (code_bytes_of B r) f in
            let z : 7 ≡ 0 = sym (ap (λ (t : Tail). t.fault) t) ∙ tail_sound in
            omega arith)
      ]

  from_none : tail_count r ≡ tail_count r - 0 * B
  from_none = omega arith

  blocks_are : tail_of u B r
      ≡ read_blocks u B (code_length r) (blocks_of B r) (tail_count r - 0 * B) (cut_of r) 0 (drop (8 * 0) (skips_of B r)) (drop 0 (code_bytes_of B r))
  unfolding read
  blocks_are =
      tail_is
      ∙ tail_blocks u B (cut_of r) (tail_count r) (code_length r) (skips_of B r) (code_bytes_of B r) first_offset
      ∙ ap (λ (n : ℕ). read_blocks u B (code_length r) (blocks_of B r) n (cut_of r) 0 (skips_of B r) (code_bytes_of B r)) from_none

  -- its blocks, from block 0 on, behind the cut
  tail_chain : Chain u B (code_length r) (blocks_of B r) (tail_count r) (skips_of B r) (code_bytes_of B r) pos 0 (cut_of r) (tail_of u B r).blocks
  tail_chain =
      rw blocks_are
      (blocks_sound u B (code_length r) (blocks_of B r) (tail_count r) (skips_of B r) (code_bytes_of B r) pos (blocks_of B r) 0 (cut_of r) 0 (omega arith)
      (λ l. sym first_offset) (sym (ap (λ (t : Tail). t.fault) blocks_are) ∙ tail_sound))

  -- The tail: n slots above the cut, ascending within u, in m blocks
  pub tail_rise : Ascends u (cut_of r) (flatten (tail_of u B r).blocks)
  tail_rise = chain_rise u B _ _ _ _ _ pos (tail_of u B r).blocks 0 (cut_of r) tail_chain

  -- as many as the head says
  pub blocks_number : length (tail_of u B r).blocks ≡ blocks_of B r
  blocks_number = rw zero-add at (chain_length u B _ _ _ _ _ pos (tail_of u B r).blocks 0 (cut_of r) tail_chain)

  count_of_tail : length (flatten (tail_of u B r).blocks) ≡ tail_count r
  count_of_tail = chain_count u B _ _ _ _ _ pos refl (tail_of u B r).blocks 0 (cut_of r) tail_chain ∙ sym from_none

  -- The whole list: it ascends in 1..u, and has as many slots as the record counts
  pub contents_rise : Ascends u 0 (contents u B r)
  unfolding contents
  contents_rise =
      let c = cut_within in
      let bits = bits_rise (cut_of r) (bits_of r) in
      let last = last_within (cut_of r) 0 (slots_to_cut (cut_of r) (bits_of r)) (omega arith) bits in
      let front = slots_to_cut (cut_of r) (bits_of r) in
      let behind = flatten (tail_of u B r).blocks in
      rise_join u 0 front behind (rise_higher u (cut_of r) 0 front c bits) (rise_lower u (last_of 0 front) (cut_of r) behind last tail_rise)

  -- as many as counted
  pub contents_count : length (contents u B r) ≡ count_of r
  unfolding contents count_of
  contents_count = rw (length-append, count_of_tail)

  -- Block b, of m
  module _ (b : ℕ) (l : b < blocks_of B r) where
    -- all that is known of it
    block_is : BlockIs u B (code_length r) (blocks_of B r) (tail_count r) (skips_of B r) (code_bytes_of B r) b (block_at (tail_of u B r).blocks b)
    block_is = rw zero-add at (chain_block u B _ _ _ _ _ pos (tail_of u B r).blocks 0 (cut_of r) b tail_chain (omega arith))

    -- slots are left for it
    pub block_some_left : 1 ≤ tail_count r - b * B
    block_some_left = rounds_left (tail_count r) B (blocks_of B r) (rounds_ceil (tail_count r) B pos) b l

    -- how many slots it has
    pub block_size : length (block_at (tail_of u B r).blocks b) ≡ min B (tail_count r - b * B)
    block_size = count_of_block u B _ _ _ _ _ b _ block_is pos block_some_left

    -- its codes lie in order and among the code bytes
    pub block_forward : offset_of (skips_of B r) b ≤ block_end (code_length r) (blocks_of B r) (skips_of B r) b
    block_forward = block_is.forward

    -- not beyond L
    pub block_within : block_end (code_length r) (blocks_of B r) (skips_of B r) b ≤ code_length r
    block_within = block_is.within

    -- they have no fault, and give its slots behind the first
    pub block_sound : (codes_read u B (code_length r) (blocks_of B r) (tail_count r) (skips_of B r) (code_bytes_of B r) b).fault ≡ 0
    block_sound = block_is.sound

    -- its slots
    pub block_slots : block_at (tail_of u B r).blocks b
        ≡ first_slot (skips_of B r) b ∷ (codes_read u B (code_length r) (blocks_of B r) (tail_count r) (skips_of B r) (code_bytes_of B r) b).slots
    block_slots = block_is.is

  -- The entries: each is the first slot of its block, above the cut and within u, and they rise
  module _ (b : ℕ) where
    -- an entry says the first slot of its block
    pub entry_first : b < blocks_of B r → get_or (block_at (tail_of u B r).blocks b) 0 0 ≡ first_slot (skips_of B r) b
    entry_first l = rw (block_slots b l)

    -- within u
    pub first_within : b < blocks_of B r → first_slot (skips_of B r) b ≤ u
    first_within l = (block_is b l).low

    -- above the cut
    first_above : b < blocks_of B r → cut_of r < first_slot (skips_of B r) b
    first_above l = rw zero-add at (chain_above u B _ _ _ _ _ pos (tail_of u B r).blocks 0 (cut_of r) b tail_chain (omega arith))

    -- and below the first slot of the next block
    first_rise : b + 1 < blocks_of B r → first_slot (skips_of B r) b < first_slot (skips_of B r) (b + 1)
    first_rise l = rw zero-add at (chain_first u B _ _ _ _ _ pos (tail_of u B r).blocks 0 (cut_of r) b tail_chain (omega arith))

  -- s(0), the cut, and s(1) .. s(m)
  pub entry_within : (j : ℕ) → j ≤ blocks_of B r → entry_of (cut_of r) (skips_of B r) j ≤ u
  unfolding entry_of
  entry_within zero l = cut_within
  entry_within (suc b) l = first_within b l

  -- each is below the next
  entry_next : (j : ℕ) → j < blocks_of B r → entry_of (cut_of r) (skips_of B r) j < entry_of (cut_of r) (skips_of B r) (suc j)
  unfolding entry_of
  entry_next zero l = first_above 0 l
  entry_next (suc b) l = let e : b + 1 ≡ suc b = omega arith in rw e at (first_rise b (omega arith))

  -- and so they rise
  pub entry_rise : (i j : ℕ) → i < j → j ≤ blocks_of B r → entry_of (cut_of r) (skips_of B r) i < entry_of (cut_of r) (skips_of B r) j
  entry_rise i zero h l = absurd (omega arith)
  entry_rise i (suc j) h l =
      let n = entry_next j l in
      elim (ℕ_discrete i j) [
        | yes e ↦ rw e n
        | no g ↦ let s = entry_rise i j (omega arith) (omega arith) in omega arith
      ]

  -- Where a slot stands: up to the cut its bit tells
  module _ (x : ℕ) where
    -- its bit
    pub has_bit : 1 ≤ x → x ≤ cut_of r → has x (contents u B r) ≡ bit_at (bits_of r) x
    unfolding contents
    has_bit l h = has_front x (slots_to_cut (cut_of r) (bits_of r)) _ (has_low u (cut_of r) x _ tail_rise h) ∙ bits_has (cut_of r) (bits_of r) x l h

    -- above the cut, the tail alone
    pub has_tail : cut_of r < x → has x (contents u B r) ≡ has x (flatten (tail_of u B r).blocks)
    unfolding contents
    has_tail h = has_behind x (slots_to_cut (cut_of r) (bits_of r)) _ (has_high (cut_of r) 0 x _ (bits_rise (cut_of r) (bits_of r)) h)

  -- The next slot from x on
  module _ (x : ℕ) (some : 0 < x) where
    -- up to the cut that of the next set bit, and where the bits run out the first slot of block 0
    pub next_bits : x ≤ cut_of r → first_from x (contents u B r) ≡ or_behind (listed u B r) 0 (next_bit (bits_of r) x (cut_of r + 1 - x))
    unfolding contents listed entry_of or_behind
    next_bits h =
        let first = chain_next u B _ _ _ _ _ pos x (tail_of u B r).blocks 0 (cut_of r) tail_chain (λ l. let a = first_above 0 l in omega arith) in
        first_joined x some (slots_to_cut (cut_of r) (bits_of r)) _ ∙ rw (bits_first (cut_of r) (bits_of r) x some h, first)

    module _ (above : cut_of r < x) where
      -- above the cut, in the tail alone
      next_tail : first_from x (contents u B r) ≡ first_from x (flatten (tail_of u B r).blocks)
      unfolding contents
      next_tail = first_behind x some (slots_to_cut (cut_of r) (bits_of r)) _ (first_high (cut_of r) 0 x _ (bits_rise (cut_of r) (bits_of r)) above)

      -- before block 0 it is the first slot of that block
      pub next_before : (0 < blocks_of B r → x < first_slot (skips_of B r) 0) → first_from x (contents u B r) ≡ or_behind (listed u B r) 0 0
      unfolding listed entry_of or_behind
      next_before g = next_tail ∙ chain_next u B _ _ _ _ _ pos x (tail_of u B r).blocks 0 (cut_of r) tail_chain (λ l. let a = g l in omega arith)

      -- from the first slot of block b on, below that of the next block: the one in block b, and where it runs out the first slot of the next
      pub next_in : (b : ℕ) → b < blocks_of B r → first_slot (skips_of B r) b ≤ x → (b + 1 < blocks_of B r → x < first_slot (skips_of B r) (b + 1))
          → first_from x (contents u B r) ≡ or_behind (listed u B r) (suc b) (first_from x (block_at (tail_of u B r).blocks b))
      unfolding listed entry_of or_behind
      next_in b l f g =
          let e : b + 1 ≡ suc b = omega arith in
          next_tail
          ∙ rw (zero-add, e) at
          (chain_from u B _ _ _ _ _ pos x some (tail_of u B r).blocks 0 (cut_of r) b tail_chain (omega arith) (rw zero-add f)
          (λ l. rw zero-add (let a = g (omega arith) in omega arith)))
