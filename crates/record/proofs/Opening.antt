-- A record's count, and a record opened: what stands at the positions that the code goes by is what the definitions speak of.
use Prim.Native.Nat.{ℕ, ◌+◌, ◌*◌, ◌-◌, ◌≤◌, ◌<◌, min}
use mathlib.Core.Path.{◌≡◌, refl, sym, ap, ◌∙◌}
use mathlib.Core.List.{List, [], ◌∷◌, ◌++◌, flatten}
use native.Mathlib.Numerals.{add-one}
use native.Mathlib.Decide.{ℕ_discrete}
use native.Mathlib.Omega.{arith}
use lib.ListN.{length, get_or, drop, drop_of_length-le}
use lib.Seq.{drop-drop, drop-cons}
use borrow.Author.Tests.{ne_eqb}
use Rattle.paper.specs.Bytes.{u32_at, part, ceil_div}
use Rattle.paper.specs.Block.{read_codes}
use Rattle.paper.specs.Tail.{first_slot, offset_of, end_of}
use Rattle.paper.specs.Record.{cut_of, tail_count, code_length, bits_of, behind_bits, codes_of, slots_to_cut, tail_of, record_fault}
use Rattle.paper.specs.Held.{count_of, listed}
use Rattle.laws.proofs.Parts.{length_part, part_end}
use Rattle.laws.proofs.Rounding.{bytes_hold}
use Rattle.laws.proofs.Records.{bits_part, entries_part, codes_part}
use Rattle.laws.proofs.Words.{word_drop, word_part}
use Rattle.laws.proofs.Entries.{last_end}
use Rattle.meaning.proofs.Blocks.{block_end, codes_read, end_last, end_next}
use Rattle.meaning.proofs.Sound as sound
use Rattle.meaning.proofs.Sound.{blocks_of, skips_of, code_bytes_of}
use Rattle.codes.specs.declared.block.Block.{Block}
use Rattle.record.specs.Opened.{Opened, PartOf, block_slots}
use Rattle.record.specs.declared.Parts.{Parts}

-- the bits, w bytes behind the head
module _ (r : List ℕ) (c w : ℕ) (isC : c ≡ u32_at r 0) (isW : w ≡ ceil_div c 8) where
  bytes_are : w ≡ ceil_div (cut_of r) 8
  bytes_are = isW ∙ ap (λ (k : ℕ). ceil_div k 8) isC

  -- they reach up to the cut
  pub bits_enough : 12 + ceil_div (cut_of r) 8 ≤ length r → c ≤ 8 * length (part r 12 (12 + w))
  bits_enough l =
      let e = bytes_are in
      let h : 12 + w ≤ length r = omega arith in
      let s = length_part r 12 (12 + w) h in
      let b = bytes_hold c in
      rw s (omega arith)

  -- they lie in the record
  pub bits_inside : 12 + ceil_div (cut_of r) 8 ≤ length r → 12 + w ≤ length r
  bits_inside l = let e = bytes_are in omega arith

  -- the set ones among them and the n slots of the tail are the count
  pub counted : (n o : ℕ) → n ≡ u32_at r 4 → o ≡ length (slots_to_cut c (part r 12 (12 + w))) → o + n ≡ count_of r
  unfolding count_of
  counted n o isN isO = rw (isN, isO, bits_part r w 0 bytes_are, isC)

-- a record without a fault
module _ (u B : ℕ) (r : List ℕ) (ok : record_fault u B (length r) r ≡ 0) (pos : 0 < B) where
  -- it has the number c
  pub cut_inside : 4 ≤ length r
  cut_inside = let s = sound.parts_sum u B r pos ok in omega arith

  -- and n
  pub count_inside : 8 ≤ length r
  count_inside = let s = sound.parts_sum u B r pos ok in omega arith

  -- and its bits
  pub bytes_inside : 12 + ceil_div (cut_of r) 8 ≤ length r
  bytes_inside = let s = sound.parts_sum u B r pos ok in omega arith

  -- its slots are not more than the largest u
  pub count_small : u ≤ 1048576 → cut_of r + tail_count r ≤ 1048576
  count_small l = let a = sound.cut_within u B r pos ok in let b = sound.tail_fits u B r pos ok in omega arith

  -- its parts, by the numbers that were read
  pub opened : (c n m w : ℕ) → c ≡ u32_at r 0 → n ≡ u32_at r 4 → m ≡ ceil_div n B → m ≤ n → w ≡ ceil_div c 8 → u ≤ 1048576
      → Opened u B r (record { u = u; block = B; cut = c; n = n; m = m; from = 12 + w; to = 12 + w + 8 * m })
  opened c n m w isC isN isM few isW small =
      let s = sound.parts_sum u B r pos ok in
      let f = sound.cut_within u B r pos ok in
      let g = sound.tail_fits u B r pos ok in
      let a : w ≡ ceil_div (cut_of r) 8 = isW ∙ ap (λ (k : ℕ). ceil_div k 8) isC in
      let b : m ≡ blocks_of B r = isM ∙ ap (λ (k : ℕ). ceil_div k B) isN in
      record {
        some_b = pos;
        small = small;
        sound = ok;
        is = rw (a, b, isC, isN);
        slots = omega arith;
        blocks = few;
        head = omega arith;
        span = refl;
        inside = omega arith;
      }

-- what opening a record needs of it
pub ruleset opens = (cut_inside, count_inside, opened)

-- the slots of the blocks from block b on
abbrev pub slots_from : ℕ → ℕ → List ℕ → ℕ → List ℕ
slots_from u B r b = flatten (drop b (tail_of u B r).blocks)

-- the parts of an opened record, as numbers
module _ (u B : ℕ) (r : List ℕ) (p : Parts) (o : Opened u B r p) where
  -- c
  pub cut_is : p.cut ≡ cut_of r
  cut_is = ap (λ (q : Parts). q.cut) o.is

  -- m
  pub m_is : p.m ≡ blocks_of B r
  m_is = ap (λ (q : Parts). q.m) o.is

  -- n
  pub n_is : p.n ≡ tail_count r
  n_is = ap (λ (q : Parts). q.n) o.is

  -- where the entries begin
  from_is : p.from ≡ 12 + ceil_div (cut_of r) 8
  from_is = ap (λ (q : Parts). q.from) o.is

  to_is : p.to ≡ 12 + ceil_div (cut_of r) 8 + 8 * blocks_of B r
  to_is = ap (λ (q : Parts). q.to) o.is

  -- and then come the L code bytes
  codes_span : p.to + code_length r ≡ length r
  codes_span = let s = sound.parts_sum u B r o.some_b o.sound in let b = to_is in omega arith

  -- the bits, taken out of the record
  pub bits_are : part r 12 p.from ≡ bits_of r
  bits_are = rw from_is (bits_part r (ceil_div (cut_of r) 8) 0 refl)

  -- they reach up to the cut
  pub bits_hold : p.cut ≤ 8 * length (part r 12 p.from)
  bits_hold =
      let i : 12 + ceil_div (cut_of r) 8 ≤ length r = omega (arith, from_is, o.span, o.inside) in
      rw (cut_is, from_is) (bits_enough r (cut_of r) (ceil_div (cut_of r) 8) refl refl i)

  -- the entries
  pub entries_are : part r p.from p.to ≡ skips_of B r
  entries_are = rw (to_is, from_is) (entries_part r (ceil_div (cut_of r) 8) (blocks_of B r) refl)

  -- as the list that is searched has them
  pub entries_listed : part r p.from p.to ≡ (listed u B r).entries
  unfolding listed
  entries_listed = entries_are

  -- one for each block
  pub entries_long : length (part r p.from p.to) ≡ 8 * p.m
  entries_long = let s = o.span in let i = o.inside in length_part r p.from p.to (omega arith) ∙ omega arith

  -- c and m too
  pub cut_listed : p.cut ≡ (listed u B r).cut
  unfolding listed
  cut_listed = cut_is

  pub m_listed : p.m ≡ (listed u B r).m
  unfolding listed
  m_listed = m_is

  -- the codes
  code_bytes_are : drop p.to r ≡ code_bytes_of B r
  code_bytes_are = rw to_is (sym (part_end r _) ∙ codes_part r (ceil_div (cut_of r) 8) (blocks_of B r) refl)

  pub codes_are : part r p.to (length r) ≡ codes_of p.m (behind_bits r)
  codes_are = part_end r p.to ∙ code_bytes_are ∙ sym (ap (λ (m : ℕ). codes_of m (behind_bits r)) m_is)

  pub codes_long : length (part r p.to (length r)) ≡ code_length r
  codes_long = let s = codes_span in let i = o.inside in length_part r p.to (length r) (omega arith) ∙ omega arith

  -- a number among the entries
  entry_word : (i : ℕ) → i + 4 ≤ 8 * p.m → u32_at r (p.from + i) ≡ u32_at (skips_of B r) i
  entry_word i l = sym (word_part r p.from p.to i (let s = o.span in omega arith)) ∙ rw entries_are

  -- there are m blocks
  blocks_number : length (tail_of u B r).blocks ≡ p.m
  blocks_number = sound.blocks_number u B r o.some_b o.sound ∙ sym m_is

  -- and no slot behind the last of them
  pub slots_end : (b : ℕ) → p.m ≤ b → slots_from u B r b ≡ []
  unfolding flatten
  slots_end b l = let i : length (tail_of u B r).blocks ≤ b = omega (arith, blocks_number) in rw (drop_of_length-le (tail_of u B r).blocks i)

  -- those from block b on are those of the block, and then those of the others
  parted : (b : ℕ) → b < p.m → slots_from u B r b ≡ get_or (tail_of u B r).blocks b [] ++ slots_from u B r (b + 1)
  unfolding flatten
  parted b l =
      let i : b < length (tail_of u B r).blocks = omega (arith, blocks_number) in
      rw (drop-cons (tail_of u B r).blocks b [] i, add-one b)

  pub blocks_next : (b : ℕ) → b < p.m → (q : Block) → get_or (tail_of u B r).blocks b [] ≡ block_slots q
      → slots_from u B r b ≡ block_slots q ++ slots_from u B r (b + 1)
  blocks_next b l q is = parted b l ∙ ap (λ (xs : List ℕ). xs ++ slots_from u B r (b + 1)) is

  -- block b
  module _ (b : ℕ) (l : b < p.m) where
    number : b < blocks_of B r
    number = let e = m_is in omega arith

    -- slots are left for it
    pub left_there : b * B < p.n
    left_there = let s = sound.block_some_left u B r o.some_b o.sound b number in let e = n_is in omega arith

    -- it has one or more
    pub some_slots : (size : ℕ) → size ≡ min B (p.n - b * B) → 1 ≤ size
    some_slots size is = let l = left_there in let s = o.some_b in omega arith

    -- the first of its slots is what its entry says
    pub first_next : (xs : List ℕ) × (slots_from u B r b ≡ (u32_at r (p.from + 8 * b) ∷ xs) ++ slots_from u B r (b + 1))
    first_next =
        let ys = (codes_read u B (code_length r) (blocks_of B r) (tail_count r) (skips_of B r) (code_bytes_of B r) b).slots in
        let f : u32_at r (p.from + 8 * b) ≡ first_slot (skips_of B r) b = entry_word (8 * b) (omega arith) in (
          ys,
          parted b l
              ∙ ap (λ (xs : List ℕ). xs ++ slots_from u B r (b + 1)) (sound.block_slots u B r o.some_b o.sound b number ∙ sym (ap (λ (x : ℕ). x ∷ ys) f)),
        )

-- block b of an opened record, read from its entries and its codes
module _ (u B : ℕ) (r : List ℕ) (p : Parts) (o : Opened u B r p) (b : ℕ) (l : b < p.m) (es cs : List ℕ) (isE : es ≡ (listed u B r).entries)
    (isC : cs ≡ codes_of p.m (behind_bits r)) (isL : length cs ≡ code_length r) where
  entries_same : es ≡ skips_of B r
  unfolding listed
  entries_same = isE

  codes_same : cs ≡ code_bytes_of B r
  codes_same = isC ∙ ap (λ (m : ℕ). codes_of m (behind_bits r)) (m_is u B r p o)

  module _ (a e : ℕ) (isA : a ≡ u32_at es (8 * b + 4)) (isEnd : e ≡ end_of (length cs) (drop (8 * b) es) (p.m - b - 1)) where
    ends_at : e ≡ block_end (code_length r) (blocks_of B r) (skips_of B r) b
    ends_at =
        rw (isL, entries_same) at isEnd
        ∙ elim (ℕ_discrete (b + 1) p.m) [
          | yes q ↦
              let f : b + 1 ≡ blocks_of B r = let g = m_is u B r p o in omega arith in
              last_end _ _ _ (omega arith) ∙ sym (end_last _ _ (skips_of B r) b f)
          | no n ↦
              let z : ¬ (p.m - b - 1 ≡ 0) = omega arith in
              let i : 8 * b + 12 ≡ 8 * (b + 1) + 4 = omega arith in
              rw (ne_eqb _ _ z)
              (word_drop (8 * b) (skips_of B r) 12 ∙ ap (u32_at (skips_of B r)) i ∙ sym (end_next _ _ (skips_of B r) b (let g = m_is u B r p o in omega arith)))
        ]

    starts_at : a ≡ offset_of (skips_of B r) b
    starts_at = rw entries_same at isA

    -- its codes lie one behind the other, and within those of the record
    pub codes_forward : a ≤ e
    codes_forward = rw (starts_at, ends_at) (sound.block_forward u B r o.some_b o.sound b (number u B r p o b l))

    pub codes_within : e ≤ length cs
    codes_within = rw (isL, ends_at) (sound.block_within u B r o.some_b o.sound b (number u B r p o b l))

    -- which lie within the record
    pub codes_lie : PartOf (part cs a e) r
    codes_lie =
        let s = codes_span u B r p o in
        let w = codes_within in
        let d : p.to + e - (p.to + a) ≡ e - a = omega arith in
        let c : part r (p.to + a) (p.to + e) ≡ part (code_bytes_of B r) a e = rw (d, ← code_bytes_are u B r p o, ← drop-drop a p.to r) in
        record {
          start = p.to + a;
          end = p.to + e;
          forward = let f = codes_forward in omega arith;
          within = omega (arith, isL);
          are = ap (λ (xs : List ℕ). part xs a e) codes_same ∙ sym c;
        }

    module _ (first size : ℕ) (is_f : first ≡ u32_at es (8 * b)) (isS : size ≡ min B (p.n - b * B)) where
      first_is : first ≡ first_slot (skips_of B r) b
      first_is = rw entries_same at is_f

      size_is : size ≡ min B (tail_count r - b * B)
      size_is = isS ∙ rw (n_is u B r p o)

      -- it is known to be well
      pub block_low : first ≤ u
      block_low = rw first_is (sound.first_within u B r o.some_b o.sound b (number u B r p o b l))

      pub block_well : (read_codes u (size - 1) first (part cs a e)).fault ≡ 0
      block_well = rw (codes_same, size_is, first_is, starts_at, ends_at) (sound.block_sound u B r o.some_b o.sound b (number u B r p o b l))

      -- and it is the one that the definition reads
      pub block_there : get_or (tail_of u B r).blocks b [] ≡ first ∷ (read_codes u (size - 1) first (part cs a e)).slots
      block_there = rw (codes_same, size_is, first_is, starts_at, ends_at) (sound.block_slots u B r o.some_b o.sound b (number u B r p o b l))

-- all of these
pub ruleset blocks_stand = (left_there, some_slots, codes_forward, codes_within, codes_lie, block_low, block_well, block_there)

-- what counting a record needs of it
pub ruleset counts = (bits_enough, bits_inside, counted)
