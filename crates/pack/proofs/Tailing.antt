-- A tail, block by block: its blocks, their entries and their codes, measured and written.
use Prim.Native.Nat.{ℕ, suc, ◌+◌, ◌-◌, ◌*◌, ◌≤◌, ◌<◌, min}
use mathlib.Core.Path.{◌≡◌, refl, sym, ap, subst, ◌∙◌}
use mathlib.Core.List.{List, [], ◌∷◌, ◌++◌, flatten}
use native.Mathlib.Decide.{dec_le}
use native.Mathlib.Omega.{arith}
use lib.ListN.{length, get_or, take, drop, length-append, length-drop}
use lib.Seq.{sets, length-sets, take_all, take_at, drop_at}
use Rattle.std.proofs.lemmas.List.{nil_from_length, append-nil}
use Rattle.paper.specs.Bytes.{u32_bytes, part, ceil_div}
use Rattle.paper.specs.Write.{in_blocks, gap_codes, block_codes, skip_entries}
use Rattle.laws.proofs.Parts.{nothing, part_cons, part_end, length_part}
use Rattle.laws.proofs.Words.{length_word}
use Rattle.laws.proofs.Stores.{sets_join, sets_swap}
use Rattle.laws.proofs.Rounding.{rounds_ceil, rounds_more, rounds_none, ceil_next}
use Rattle.laws.proofs.Codes.{gaps_few}
use Rattle.laws.proofs.Entries.{entries_length}
use Rattle.meaning.proofs.Rising.{Ascends, rise_lower, rise_front, rise_back, rise_length}
use Rattle.pack.specs.Measures.{blocks_for, tail_codes}

-- slots in blocks of B: the first block, and those behind it
blocks_step : (B : ℕ) → 0 < B → (xs : List ℕ) → 0 < length xs → blocks_for B xs ≡ take B xs ∷ blocks_for B (drop B xs)
unfolding in_blocks
blocks_step B pos xs some =
    let m = ceil_div (length xs) B in
    let s : m ≡ suc (m - 1) = rounds_more (length xs) B m some (rounds_ceil (length xs) B pos) in
    let n : m - 1 ≡ ceil_div (length (drop B xs)) B = rw length-drop (ceil_next B pos (length xs) m refl (omega arith)) in
    ap (λ (k : ℕ). in_blocks B k xs) s ∙ ap (λ (k : ℕ). take B xs ∷ in_blocks B k (drop B xs)) n

-- The slots of which `rest` is left, and of it the next block
module _ (B : ℕ) (pos : 0 < B) (rest block behind : List ℕ) (is : rest ≡ block ++ behind) (size : length block ≡ min B (length rest)) (l : 0 < length rest) where
  -- it has a slot
  pub block_some : 0 < length block
  block_some = omega arith

  both : length block + length behind ≡ length rest
  both = rw (is, length-append)

  taken : take B rest ≡ block
  taken = go (dec_le B (length rest))
    where
      go : Dec (B ≤ length rest) → take B rest ≡ block
      go (yes h) = let n : length block ≡ B = omega arith in rw is (take_at block behind B n)
      go (no g) = let n : length behind ≡ 0 = omega (arith, both) in take_all B rest (omega arith) ∙ is ∙ ap (λ (r : List ℕ). block ++ r) (nil_from_length behind n) ∙ append-nil block

  dropped : drop B rest ≡ behind
  dropped = go (dec_le B (length rest))
    where
      go : Dec (B ≤ length rest) → drop B rest ≡ behind
      go (yes h) = let n : length block ≡ B = omega arith in rw is (drop_at block behind B n)
      go (no g) = let n : length behind ≡ 0 = omega (arith, both) in nothing rest B (omega arith) ∙ sym (nil_from_length behind n)

  abbrev first : ℕ
  first = get_or block 0 0

  abbrev others : List ℕ
  others = part block 1 (length block)

  first_others : block ≡ first ∷ others
  first_others = sym (part_end block 0) ∙ part_cons block 0 (length block) block_some (omega arith)

  -- the blocks from it on
  blocks_next : blocks_for B rest ≡ (first ∷ others) ∷ blocks_for B behind
  blocks_next =
      blocks_step B pos rest l
      ∙ ap (λ (b : List ℕ). b ∷ blocks_for B (drop B rest)) (taken ∙ first_others)
      ∙ ap (λ (r : List ℕ). (first ∷ others) ∷ blocks_for B r) dropped

  -- the others are one fewer
  fewer : length others + 1 + length behind ≡ length rest
  fewer = omega (arith, both, length_part block 1 (length block) (omega arith), block_some)

  -- their codes
  codes_next : tail_codes B rest ≡ gap_codes first others ++ tail_codes B behind
  unfolding block_codes flatten
  codes_next = rw blocks_next

  -- their entries, where the first begins at offset a
  entries_next : (a : ℕ) → skip_entries a (blocks_for B rest) ≡ u32_bytes first ++ u32_bytes a ++ skip_entries (a + length (gap_codes first others)) (blocks_for B behind)
  unfolding skip_entries block_codes
  entries_next a = rw blocks_next

  -- how many there are
  count_next : length (blocks_for B rest) ≡ suc (length (blocks_for B behind))
  count_next = rw blocks_next

  module _ (a : Ascends 1048576 0 rest) where
    rises : Ascends 1048576 0 (first ∷ others)
    rises = subst (λ (b : List ℕ). Ascends 1048576 0 b) first_others (rise_front 1048576 0 block behind (rw is at a))

    -- the first slot leaves room for codes behind it
    pub first_small : first ≤ 1048576
    first_small = rises.1

    -- and the others rise above it
    pub others_rise : Ascends 1048576 first others
    others_rise = rises.2

    -- and so do those that are left
    behind_rise : Ascends 1048576 0 behind
    behind_rise = rise_lower 1048576 0 _ behind (omega arith) (rise_back 1048576 0 block behind (rw is at a))

-- no slot is left, and no block
blocks_end : (B : ℕ) → 0 < B → (rest : List ℕ) → length rest ≡ 0 → blocks_for B rest ≡ []
unfolding in_blocks
blocks_end B pos rest l =
    let z : ceil_div 0 B ≡ 0 = rounds_none 0 B (ceil_div 0 B) refl (rounds_ceil 0 B pos) in
    ap (blocks_for B) (nil_from_length rest l) ∙ ap (λ (m : ℕ). in_blocks B m []) z

-- no code either
codes_end : (B : ℕ) → 0 < B → (rest : List ℕ) → length rest ≡ 0 → tail_codes B rest ≡ []
unfolding flatten
codes_end B pos rest l = rw (blocks_end B pos rest l)

-- rising slots are not many
pub few_slots : (xs : List ℕ) → Ascends 1048576 0 xs → length xs ≤ 1048576
few_slots xs a = omega (arith, rise_length 1048576 0 xs (omega arith) a)

-- An entry and those behind it, and codes in two parts: written in turns, or all at once
turned : (room w es own cs : List ℕ) (entry at : ℕ) → length w ≡ 8 → entry + 8 + length es ≤ at
    → sets (sets (sets (sets room entry w) at own) (entry + 8) es) (at + length own) cs ≡ sets (sets room entry (w ++ es)) at (own ++ cs)
turned room w es own cs entry at l h =
    let r = sets room entry w in
    let n : entry + length w ≡ entry + 8 = omega arith in
    let all : sets room entry (w ++ es) ≡ sets r (entry + 8) es = sets_join w es room entry ∙ ap (λ (p : ℕ). sets r p es) n in
    ap (λ (q : List ℕ). sets q (at + length own) cs) (sets_swap es own r (entry + 8) at h)
    ∙ sym (sets_join own cs (sets r (entry + 8) es) at)
    ∙ ap (λ (q : List ℕ). sets q at (own ++ cs)) (sym all)

-- MEASURING: what was measured so far, with the codes that are left, is the size of all
pub record Sized (B : ℕ) (high : List ℕ) (size : ℕ) (rest : List ℕ) : Type 0 where
  pub small : length high ≤ 1048576
  pub rising : Ascends 1048576 0 rest
  pub few : size + 3 * length rest ≤ 3 * length high
  pub same : size + length (tail_codes B rest) ≡ length (tail_codes B high)

-- at first
pub size_begin : (B : ℕ) (high : List ℕ) → Ascends 1048576 0 high → Sized B high 0 high
size_begin B high a = record { small = few_slots high a; rising = a; few = omega arith; same = omega arith }

module _ {B : ℕ} {high : List ℕ} {size : ℕ} {rest : List ℕ} (h : Sized B high size rest) where
  -- no slot is left
  pub size_end : 0 < B → length rest ≡ 0 → size ≡ length (tail_codes B high)
  size_end pos l = let e = rw (codes_end B pos rest l) at h.same in omega arith

  -- and the size is small
  pub size_few : size ≤ 3 * length high
  size_few = omega (arith, h.few)

  module _ (pos : 0 < B) (block behind : List ℕ) (is : rest ≡ block ++ behind) (long : length block ≡ min B (length rest)) (l : 0 < length rest) (more : ℕ)
      (fewM : more ≤ 3 * length (part block 1 (length block))) where
    -- a block more is measured
    pub size_turn : more ≡ length (gap_codes (get_or block 0 0) (part block 1 (length block))) → Sized B high (size + more) behind
    size_turn e =
        let s = rw (codes_next B pos rest block behind is long l, length-append, ← e) at h.same in
        record {
          small = h.small;
          rising = behind_rise B pos rest block behind is long l h.rising;
          few = omega (arith, h.few, fewer B pos rest block behind is long l);
          same = omega arith;
        }

-- WRITING: the room with the entries and codes that are left written to it is the room with all of them. The next entry goes to position
-- `entry`, the next codes to `at`
pub record Filling (B : ℕ) (high room₀ : List ℕ) (from to : ℕ) (room : List ℕ) (entry at : ℕ) (rest : List ℕ) : Type 0 where
  pub long : length room ≡ length room₀
  pub forward : to ≤ at
  pub sized : Sized B high (at - to) rest
  pub entries : entry + 8 * length (blocks_for B rest) ≡ to
  pub same : sets (sets room entry (skip_entries (at - to) (blocks_for B rest))) at (tail_codes B rest)
      ≡ sets (sets room₀ from (skip_entries 0 (blocks_for B high))) to (tail_codes B high)

-- at first
pub fill_begin : (B : ℕ) (high room : List ℕ) (from to : ℕ) → Ascends 1048576 0 high → from + 8 * length (blocks_for B high) ≡ to
    → Filling B high room from to room from to high
fill_begin B high room from to a e =
    let z : to - to ≡ 0 = omega arith in
    record { long = refl; forward = omega arith; sized = rw z (size_begin B high a); entries = e; same = rw z }

module _ {B : ℕ} {high room₀ : List ℕ} {from to : ℕ} {room : List ℕ} {entry at : ℕ} {rest : List ℕ} (h : Filling B high room₀ from to room entry at rest) where
  -- no slot is left
  pub fill_end : 0 < B → length rest ≡ 0 → room ≡ sets (sets room₀ from (skip_entries 0 (blocks_for B high))) to (tail_codes B high)
  unfolding skip_entries
  fill_end pos l = rw (codes_end B pos rest l, blocks_end B pos rest l) at h.same

  module _ (pos : 0 < B) (block behind : List ℕ) (is : rest ≡ block ++ behind) (long : length block ≡ min B (length rest)) (l : 0 < length rest) where
    before : entry + 8 ≤ to
    before = omega (arith, h.entries, count_next B pos rest block behind is long l)

    -- the entry has its room
    pub fill_room : to + length (tail_codes B high) ≤ length room₀ → entry + 8 ≤ length room
    fill_room m = omega (arith, before, h.long)

    abbrev own : List ℕ
    own = gap_codes (get_or block 0 0) (part block 1 (length block))

    here : at + (length own + length (tail_codes B behind)) ≡ to + length (tail_codes B high)
    here = let s = rw (codes_next B pos rest block behind is long l, length-append) at h.sized.same in omega (arith, h.forward)

    -- and so have the codes
    pub fill_codes : to + length (tail_codes B high) ≤ length room₀ → (room₁ : List ℕ) → length room₁ ≡ length room → at + length own ≤ length room₁
    fill_codes m room₁ k = omega (arith, here, h.long)

    abbrev left : List (List ℕ)
    left = blocks_for B behind

    offset : at + length own - to ≡ at - to + length own
    offset = omega (arith, h.forward)

    abbrev entry_bytes : List ℕ
    entry_bytes = u32_bytes (get_or block 0 0) ++ u32_bytes (at - to)

    turn : sets (sets (sets (sets room entry entry_bytes) at own) (entry + 8) (skip_entries (at + length own - to) left)) (at + length own) (tail_codes B behind)
        ≡ sets (sets room entry (skip_entries (at - to) (blocks_for B rest))) at (tail_codes B rest)
    turn =
        let n = entries_length (at - to + length own) left in
        let c = count_next B pos rest block behind is long l in
        let w = length-append (u32_bytes (get_or block 0 0)) (u32_bytes (at - to)) in
        rw (offset, entries_next B pos rest block behind is long l (at - to), codes_next B pos rest block behind is long l)
        (turned room entry_bytes (skip_entries (at - to + length own) left) own (tail_codes B behind) entry at
        (omega (arith, length_word (get_or block 0 0), length_word (at - to))) (omega (arith, h.entries, h.forward)))

    -- a block more is written
    pub fill_turn : (room₁ room₂ : List ℕ) (next : ℕ) → room₁ ≡ sets room entry entry_bytes → next ≡ at + length own → room₂ ≡ sets room₁ at own
        → Filling B high room₀ from to room₂ (entry + 8) next behind
    fill_turn room₁ room₂ next e₁ n e₂ =
        record {
          long = ap length e₂ ∙ length-sets room₁ at own ∙ ap length e₁ ∙ length-sets room entry entry_bytes ∙ h.long;
          forward = omega (arith, h.forward);
          sized = rw (n, offset) (size_turn h.sized pos block behind is long l (length own) (gaps_few (get_or block 0 0) (part block 1 (length block))) refl);
          entries = omega (arith, h.entries, count_next B pos rest block behind is long l);
          same = rw (e₂, e₁, n) (turn ∙ h.same);
        }
