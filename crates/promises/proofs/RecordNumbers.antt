-- One record, read against what is written: it is refused with a number exactly when that number's row applies, and accepted exactly when it
-- is written from a cut, tidy bits and rising slots.
use Prim.Native.Nat.{ℕ, ◌+◌, ◌-◌, ◌*◌, ◌≤◌}
use mathlib.Core.Path.{◌≡◌, refl, sym, ap, subst, ◌∙◌}
use mathlib.Core.Logic.{◌↔◌, ◌⊎◌}
use mathlib.Core.Logic.◌⊎◌.{inl, inr}
use mathlib.Core.List.{List, ◌++◌, append_assoc, flatten}
use native.Mathlib.Decide.{dec_le, ℕ_discrete}
use native.Mathlib.Omega.{arith}
use lib.ListN.{length, drop, length-append, length-take, length-drop, take-append-drop}
use lib.Seq.{drop-drop, take_at, drop_at}
use Rattle.paper.specs.Bytes.{u32_bytes}
use Rattle.paper.specs.Tail.{Tail, block_count, read_tail}
use Rattle.paper.specs.Record.{cut_of, tail_count, code_length, bit_length, bits_of, behind_bits, entries_of, codes_of, tail_in, tail_of, fault6, fault17, record_fault}
use Rattle.paper.specs.Write.{in_blocks, skip_entries}
use Rattle.laws.proofs.Parts.{AllBytes, all_drop, join_4, all_behind, all_front}
use Rattle.laws.proofs.Words.{word_read, word_is, word_bound, word_drop}
use Rattle.laws.proofs.Rounding.{rounds_ceil, rounds_one, rounds_pos}
use Rattle.laws.proofs.Entries.{entry_is, entry_behind, entry_offset, entries_length}
use Rattle.laws.proofs.Cutting.{blocks_flat, blocks_length}
use Rattle.laws.proofs.Records.{Fits, Unset, fits_6, pass_6, unfit_6, pass_17, set_17, unset_17}
use Rattle.meaning.proofs.Rising.{rise_length}
use Rattle.promises.proofs.RecordRows.{all_codes, Head, HeadRefused, Parts, InParts, Rubbish, Tidy, Stained, RecordRefused, RecordSound}
use Rattle.promises.proofs.RecordRows.HeadRefused.{cut_above, count_above, codes_alone, sum_wrong}
use Rattle.promises.proofs.RecordRows.RecordRefused.{six, seventeen, tail}
use Rattle.promises.proofs.Beyond.{tidy_unset, rubbish_set, unset_tidy, tidy_or}
use Rattle.promises.proofs.WrittenBlocks.{Laid, sound_tail}
use Rattle.promises.proofs.WrittenTails.{cut_length, cut_blocks, blocks_cut, codes_length, Fitted, tail_sound, tail_back, tail_told, tail_refused, tail_span}

-- The head of a record: what its reader says of one that is written
module _ {r : List ℕ} {c n L : ℕ} {rest : List ℕ} (h : Head r c n L rest) where
  head_right : r ≡ u32_bytes c ++ (u32_bytes n ++ (u32_bytes L ++ rest))
  head_right = h.is ∙ join_4 (u32_bytes c) (u32_bytes n) (u32_bytes L) rest

  head_cut : cut_of r ≡ c
  head_cut = rw head_right (word_read c (u32_bytes n ++ (u32_bytes L ++ rest)) h.cut_word)

  head_count : tail_count r ≡ n
  head_count = rw head_right (entry_offset c n (u32_bytes L ++ rest) h.count_word)

  head_codes : code_length r ≡ L
  head_codes =
      let d : drop 8 r ≡ u32_bytes L ++ rest = rw head_right (entry_behind c n (u32_bytes L ++ rest)) in
      sym (word_drop 8 r 0) ∙ rw d (word_read L rest h.code_word)

  head_rest : drop 12 r ≡ rest
  unfolding u32_bytes
  head_rest = rw head_right

  head_length : length r ≡ 12 + length rest
  unfolding u32_bytes
  head_length = ap length head_right ∙ omega arith

-- every record of at least 12 bytes has one
head_of : (r : List ℕ) → AllBytes r → 12 ≤ length r → Head r (cut_of r) (tail_count r) (code_length r) (drop 12 r)
head_of r all h =
    let l : length (drop 8 r) ≡ length r - 8 = length-drop 8 r in
    let w : drop 8 r ≡ u32_bytes (code_length r) ++ drop 12 r = word_is (drop 8 r) (all_drop 8 r all) (omega arith) ∙ rw (word_drop 8 r 0, drop-drop 4 8 r) in
    record {
      is =
          entry_is r all (omega arith) ∙ ap (λ (t : List ℕ). u32_bytes (cut_of r) ++ (u32_bytes (tail_count r) ++ t)) w
          ∙ sym (join_4 (u32_bytes (cut_of r)) (u32_bytes (tail_count r)) (u32_bytes (code_length r)) (drop 12 r));
      cut_word = word_bound r 0 all;
      count_word = word_bound r 4 all;
      code_word = word_bound r 8 all;
    }

-- Row 6 applies, or its reader passes
module _ (u B size c n L : ℕ) (pos : 1 ≤ B) where
  head_or : HeadRefused u B size c n L ⊎ Fits u B size c n L
  head_or = go (dec_le c u) (dec_le n (u - c)) (ℕ_discrete n 0) (ℕ_discrete L 0) (ℕ_discrete (12 + bit_length c + 8 * block_count B n + L) size)
    where
      last : c ≤ u → n ≤ u - c → (n ≡ 0 → L ≡ 0) → Dec (12 + bit_length c + 8 * block_count B n + L ≡ size) → HeadRefused u B size c n L ⊎ Fits u B size c n L
      last l₁ l₂ h (no s) = inl (sum_wrong (bit_length c) (block_count B n) (rounds_ceil c 8 (omega arith)) (rounds_ceil n B pos) s)
      last l₁ l₂ h (yes s) = inr (record { cut = l₁; count = l₂; no_codes = h; sum = s })

      go : Dec (c ≤ u) → Dec (n ≤ u - c) → Dec (n ≡ 0) → Dec (L ≡ 0) → Dec (12 + bit_length c + 8 * block_count B n + L ≡ size)
          → HeadRefused u B size c n L ⊎ Fits u B size c n L
      go (no g) d₂ d₃ d₄ d₅ = inl (cut_above (omega arith))
      go (yes l₁) (no g) d₃ d₄ d₅ = inl (count_above (omega arith))
      go (yes l₁) (yes l₂) (yes z) (no w) d₅ = inl (codes_alone z (omega arith))
      go (yes l₁) (yes l₂) (yes z) (yes w) d₅ = last l₁ l₂ (λ i. w) d₅
      go (yes l₁) (yes l₂) (no z) d₄ d₅ = last l₁ l₂ (λ i. absurd (z i)) d₅

  -- where row 6 applies its reader does not pass
  not_passed : HeadRefused u B size c n L → ¬ (Fits u B size c n L)
  not_passed (cut_above l) p = let h = p.cut in omega arith
  not_passed (count_above l) p = let h = p.cut in let g = p.count in omega arith
  not_passed (codes_alone z l) p = let h = p.no_codes z in omega arith
  not_passed (sum_wrong w m uw um g) p =
      let iw = rounds_one c 8 w (bit_length c) uw (rounds_ceil c 8 (omega arith)) in
      let im = rounds_one n B m (block_count B n) um (rounds_ceil n B pos) in
      g (rw (iw, im) p.sum)

  six_given : HeadRefused u B size c n L → (rest : ℕ) → fault6 u B size c n L rest ≡ 6
  six_given h rest = unfit_6 u B size c n L rest (not_passed h)

-- The parts of a record: what its reader makes of them
module _ {u B : ℕ} {r : List ℕ} {c n L : ℕ} {bits entries codes : List ℕ} (p : Parts u B r c n L bits entries codes) where
  parts_pos : 1 ≤ B
  parts_pos = rounds_pos n B p.m p.blocks

  -- the cut is the first number of the head
  pub parts_cut : cut_of r ≡ c
  parts_cut = head_cut p.head

  parts_count : tail_count r ≡ n
  parts_count = head_count p.head

  parts_codes : code_length r ≡ L
  parts_codes = head_codes p.head

  pub parts_w : length bits ≡ bit_length c
  parts_w = rounds_one c 8 (length bits) (bit_length c) p.bits_long (rounds_ceil c 8 (omega arith))

  parts_m : block_count B n ≡ p.m
  parts_m = rounds_one n B (block_count B n) p.m (rounds_ceil n B parts_pos) p.blocks

  parts_rest : drop 12 r ≡ bits ++ (entries ++ codes)
  parts_rest = head_rest p.head ∙ append_assoc bits entries codes

  -- the bits are those that the parts have
  pub parts_bits : bits_of r ≡ bits
  parts_bits = rw (parts_cut, parts_rest) (take_at bits (entries ++ codes) (bit_length c) parts_w)

  parts_behind : behind_bits r ≡ entries ++ codes
  parts_behind = rw (parts_cut, parts_rest) (drop_at bits (entries ++ codes) (bit_length c) parts_w)

  parts_tail : tail_of u B r ≡ read_tail u B c n L entries codes
  unfolding tail_of tail_in
  parts_tail =
      let l : length entries ≡ 8 * p.m = p.entries_long in
      rw (parts_count, parts_codes, parts_behind, parts_cut, parts_m)
      (rw (take_at entries codes (8 * p.m) l, drop_at entries codes (8 * p.m) l))

  parts_passed : Fits u B (length r) c n L
  parts_passed =
      let f = p.few in
      let l = head_length p.head in
      let l₂ = length-append (bits ++ entries) codes in
      let l₃ = length-append bits entries in
      let le = p.entries_long in
      let lc = p.codes_long in
      let lw = parts_w in
      let lm = parts_m in
      record { cut = omega arith; count = omega arith; no_codes = p.no_codes; sum = rw lm (omega arith) }

  -- behind 6 stands 17, and behind that the tail
  parts_chain : record_fault u B (length r) r ≡ fault17 c bits (read_tail u B c n L entries codes).fault
  unfolding record_fault
  parts_chain =
      rw (parts_tail, parts_bits, parts_cut, parts_count, parts_codes)
      (pass_6 u B (length r) c n L (fault17 c bits (read_tail u B c n L entries codes).fault) parts_passed)

  parts_stained : Rubbish c bits → record_fault u B (length r) r ≡ 17
  parts_stained d = parts_chain ∙ set_17 c bits (read_tail u B c n L entries codes).fault (rubbish_set c bits parts_w d)

  -- as a record that has some parts
  abbrev pub in_parts : InParts u B r
  in_parts = record { c = c; n = n; L = L; bits = bits; entries = entries; codes = codes; parts = p }

  stained_by : Rubbish c bits → Stained u B r
  stained_by d = record { whole = in_parts; rubbish = d }

  parts_fault : Tidy c bits → record_fault u B (length r) r ≡ (read_tail u B c n L entries codes).fault
  parts_fault d = parts_chain ∙ pass_17 c bits (read_tail u B c n L entries codes).fault (tidy_unset c bits parts_w d)

  parts_fitted : Fitted B n L p.m entries codes
  parts_fitted = record { count = p.blocks; long = p.entries_long; size = p.codes_long; no_codes = p.no_codes }

  module _ (all : AllBytes r) where
    all_parts : AllBytes (entries ++ codes)
    all_parts = all_behind bits (entries ++ codes) (rw parts_rest at (all_drop 12 r all))

    all_entries : AllBytes entries
    all_entries = all_front entries codes all_parts

    all_code_bytes : AllBytes codes
    all_code_bytes = all_behind entries codes all_parts

    all_bit_bytes : AllBytes bits
    all_bit_bytes = all_front bits (entries ++ codes) (rw parts_rest at (all_drop 12 r all))

    -- either row 17 applies or it does not
    parts_or : Tidy c bits ⊎ Rubbish c bits
    parts_or = tidy_or c bits parts_w all_bit_bytes

    -- where there is no fault
    module _ (ok : record_fault u B (length r) r ≡ 0) where
      passed_17 : Unset c bits × ((read_tail u B c n L entries codes).fault ≡ 0)
      passed_17 = unset_17 c bits (read_tail u B c n L entries codes).fault (sym parts_chain ∙ ok)

      -- it does not
      parts_tidy : Tidy c bits
      parts_tidy = unset_tidy c bits parts_w all_bit_bytes passed_17.0

      -- and the blocks are laid as they are read
      pub parts_laid : Laid u B n c 0 entries codes (tail_of u B r).blocks
      parts_laid =
          rw parts_tail (tail_sound u B c n L p.m entries codes parts_m parts_fitted all_entries all_code_bytes passed_17.1)

join_6 : (a b c d e f : List ℕ) → a ++ b ++ c ++ d ++ e ++ f ≡ a ++ b ++ c ++ (d ++ e ++ f)
join_6 a b c d e f = simp append_assoc

-- 17 is no other row's number
pub told_stained : (u B : ℕ) (r : List ℕ) (f : ℕ) → f ≡ 17 → RecordRefused u B r f → Stained u B r
told_stained u B r f e (six c n L rest h g) = absurd (omega arith)
told_stained u B r f e (seventeen s) = s
told_stained u B r f e (tail c n L bits es cs p d t) = let m = (tail_span t).1 in absurd (omega arith)

-- a record without fault is written from its parts, and the other way round
module _ (u B : ℕ) (r : List ℕ) where
  laid_sound : (c n L : ℕ) (bits entries codes : List ℕ) (bl : List (List ℕ)) → Parts u B r c n L bits entries codes → Tidy c bits
      → Laid u B n c 0 entries codes bl → RecordSound u B r
  laid_sound c n L bits entries codes bl p d l =
      let few = p.few in
      let size = cut_length B n bl l.cut in
      let m = p.m in
      let bl_is = cut_blocks B m n bl p.blocks l.cut in
      let L-is : L ≡ length (all_codes bl) = sym p.codes_long ∙ ap length l.coded in
      let e = p.head.is ∙ sym (join_6 (u32_bytes c) (u32_bytes n) (u32_bytes L) bits entries codes) in
      record {
        cut = c;
        bits = bits;
        slots = flatten bl;
        m = m;
        cut_within = omega arith;
        bits_long = p.bits_long;
        tidy = d;
        rising = l.rising;
        blocks = rw size p.blocks;
        is = rw (bl_is, size, ← L-is, ← l.entered, ← l.coded) e;
      }

  module _ (s : RecordSound u B r) where
    abbrev blocks_of : List (List ℕ)
    blocks_of = in_blocks B s.m s.slots

    sound_few : s.cut + length s.slots ≤ u
    sound_few = rise_length u s.cut s.slots s.cut_within s.rising

    sound_short : length (all_codes blocks_of) ≤ 3 * length s.slots
    sound_short = rw (blocks_flat B s.m s.slots s.blocks) at (codes_length blocks_of)

    sound_parts : u ≤ 1048576 → Parts u B r s.cut (length s.slots) (length (all_codes blocks_of)) s.bits (skip_entries 0 blocks_of) (all_codes blocks_of)
    sound_parts small =
        let few = sound_few in
        let short = sound_short in
        record {
          head = record {
            is =
                s.is
                ∙ join_6 (u32_bytes s.cut) (u32_bytes (length s.slots)) (u32_bytes (length (all_codes blocks_of))) s.bits (skip_entries 0 blocks_of)
                (all_codes blocks_of);
            cut_word = omega arith;
            count_word = omega arith;
            code_word = omega arith;
          };
          few = few;
          no_codes = λ z. omega arith;
          m = s.m;
          bits_long = s.bits_long;
          blocks = s.blocks;
          entries_long = entries_length 0 blocks_of ∙ ap (λ (k : ℕ). 8 * k) (blocks_length B s.m s.slots);
          codes_long = refl;
        }

    sound_laid : Laid u B (length s.slots) s.cut 0 (skip_entries 0 blocks_of) (all_codes blocks_of) blocks_of
    sound_laid =
        record {
          cut = blocks_cut B s.m s.slots s.blocks;
          rising = rw (blocks_flat B s.m s.slots s.blocks) s.rising;
          entered = refl;
          coded = refl;
        }

-- what is written is accepted, and its blocks are read back
module _ (u B : ℕ) (r : List ℕ) (small : u ≤ 1048576) (s : RecordSound u B r) where
  abbrev bl₁ : List (List ℕ)
  bl₁ = blocks_of u B r s

  abbrev cs₁ : List ℕ
  cs₁ = all_codes bl₁

  abbrev es₁ : List ℕ
  es₁ = skip_entries 0 bl₁

  parts₁ : Parts u B r s.cut (length s.slots) (length cs₁) s.bits es₁ cs₁
  parts₁ = sound_parts u B r s small

  read₁ : read_tail u B s.cut (length s.slots) (length cs₁) es₁ cs₁ ≡ sound_tail bl₁
  read₁ =
      tail_back u B s.cut (length s.slots) (length cs₁) parts₁.m es₁ cs₁ (parts_m parts₁) (parts_fitted parts₁)
      small parts₁.head.code_word bl₁ (sound_laid u B r s)

  -- there is no fault
  pub sound_accepted : record_fault u B (length r) r ≡ 0
  sound_accepted = parts_fault parts₁ s.tidy ∙ ap (λ (t : Tail). t.fault) read₁

  -- the cut is read back
  pub sound_cut : cut_of r ≡ s.cut
  sound_cut = parts_cut parts₁

  -- so are the bits
  pub sound_bits : bits_of r ≡ s.bits
  sound_bits = parts_bits parts₁

  -- and so are the blocks
  pub sound_blocks : (tail_of u B r).blocks ≡ bl₁
  sound_blocks = ap (λ (t : Tail). t.blocks) (parts_tail parts₁ ∙ read₁)

module _ (u B : ℕ) (r : List ℕ) (all : AllBytes r) (pos : 1 ≤ B) (small : u ≤ 1048576) (long : 12 ≤ length r) where
  abbrev c₀ : ℕ
  c₀ = cut_of r

  abbrev n₀ : ℕ
  n₀ = tail_count r

  abbrev L₀ : ℕ
  L₀ = code_length r

  abbrev m₀ : ℕ
  m₀ = block_count B n₀

  abbrev es₀ : List ℕ
  es₀ = entries_of m₀ (behind_bits r)

  abbrev cs₀ : List ℕ
  cs₀ = codes_of m₀ (behind_bits r)

  -- what is tested behind 6
  abbrev behind₀ : ℕ
  behind₀ = fault17 c₀ (bits_of r) (tail_of u B r).fault

  -- where row 6 does not apply the record has its parts
  passed_parts : Fits u B (length r) c₀ n₀ L₀ → Parts u B r c₀ n₀ L₀ (bits_of r) es₀ cs₀
  passed_parts p =
      let h = head_of r all long in
      let l₁ = p.cut in
      let l₂ = p.count in
      let s = p.sum in
      let d : length (drop 12 r) ≡ length r - 12 = length-drop 12 r in
      let t : length (bits_of r) ≡ bit_length c₀ = rw length-take (omega arith) in
      let b : length (behind_bits r) ≡ length r - 12 - bit_length c₀ = rw length-drop (omega arith) in
      let e : drop 12 r ≡ bits_of r ++ es₀ ++ cs₀
      = sym (take-append-drop (bit_length c₀) (drop 12 r)) ∙ ap (λ (t : List ℕ). bits_of r ++ t) (sym (take-append-drop (8 * m₀) (behind_bits r)))
      ∙ sym (append_assoc (bits_of r) es₀ cs₀) in
      record {
        head = rw e at h;
        few = omega arith;
        no_codes = p.no_codes;
        m = m₀;
        bits_long = rw t (rounds_ceil c₀ 8 (omega arith));
        blocks = rounds_ceil n₀ B pos;
        entries_long = rw length-take (omega arith);
        codes_long = rw length-drop (omega arith);
      }

  -- row 6, as the whole reader gives it
  judged_6 : (c n L : ℕ) (rest : List ℕ) → Head r c n L rest → HeadRefused u B (length r) c n L → record_fault u B (length r) r ≡ 6
  unfolding record_fault
  judged_6 c n L rest h g = six_given u B (length r) c₀ n₀ L₀ pos (rw (head_cut h, head_count h, head_codes h) g) behind₀

  -- what a row refuses the reader refuses, with that row's number
  rows_refused : (f : ℕ) → RecordRefused u B r f → (record_fault u B (length r) r ≡ f) × ¬ (f ≡ 0)
  rows_refused f (six c n L rest h g) = (judged_6 c n L rest h g, omega arith)
  rows_refused f (seventeen s) = (parts_stained s.whole.parts s.rubbish, omega arith)
  rows_refused f (tail c n L bits es cs p d t) =
      let fit = parts_fitted p in
      let m_is = parts_m p in
      (parts_fault p d ∙ tail_refused u B c n L p.m es cs m_is fit small p.head.code_word f t, λ z. let s = (tail_span t).0 in omega arith)

  -- what the reader refuses behind 6 a row refuses
  behind_told : Parts u B r c₀ n₀ L₀ (bits_of r) es₀ cs₀ → ¬ (record_fault u B (length r) r ≡ 0) → RecordRefused u B r (record_fault u B (length r) r)
  behind_told p f =
      elim (parts_or p all) [
        | inl d ↦
            let e = parts_fault p d in
            let fit = parts_fitted p in
            let t = tail_told u B c₀ n₀ L₀ p.m es₀ cs₀ (parts_m p) fit (all_entries p all) (all_code_bytes p all) (λ z. f (e ∙ z)) in
            subst (λ (k : ℕ). RecordRefused u B r k) (sym e) (tail c₀ n₀ L₀ (bits_of r) es₀ cs₀ p d t)
        | inr d ↦ subst (λ (k : ℕ). RecordRefused u B r k) (sym (parts_stained p d)) (seventeen (stained_by p d))
      ]

  -- what the reader refuses a row refuses
  rows_told : ¬ (record_fault u B (length r) r ≡ 0) → RecordRefused u B r (record_fault u B (length r) r)
  unfolding record_fault
  rows_told f =
      elim (head_or u B (length r) c₀ n₀ L₀ pos) [
        | inl g ↦ rw (six_given u B (length r) c₀ n₀ L₀ pos g behind₀) (six c₀ n₀ L₀ (drop 12 r) (head_of r all long) g)
        | inr q ↦ behind_told (passed_parts q) f
      ]

  -- A record is refused with the number f exactly when f's row applies to it, first in the order of the rows
  pub record_number : (f : ℕ) → ((record_fault u B (length r) r ≡ f) × ¬ (f ≡ 0)) ↔ RecordRefused u B r f
  record_number f = (λ t. subst (λ (k : ℕ). RecordRefused u B r k) t.0 (rows_told (λ z. t.1 (sym t.0 ∙ z))), rows_refused f)

  -- A record is refused with 17 exactly when row 17 applies to it
  pub record_stained : (record_fault u B (length r) r ≡ 17) ↔ Stained u B r
  record_stained = (λ e. told_stained u B r 17 refl ((record_number 17).0 (e, λ z. omega arith)), λ s. parts_stained s.whole.parts s.rubbish)

  -- An accepted record: its parts, its bits, and its blocks as they are laid
  pub record Accepted : Type 0 where
    pub parts : Parts u B r c₀ n₀ L₀ (bits_of r) es₀ cs₀
    pub tidy : Tidy c₀ (bits_of r)
    pub laid : Laid u B n₀ c₀ 0 es₀ cs₀ (tail_of u B r).blocks

  -- a record without fault has these
  pub accepted_is : record_fault u B (length r) r ≡ 0 → Accepted
  unfolding record_fault
  accepted_is ok =
      let p = passed_parts (fits_6 u B (length r) c₀ n₀ L₀ behind₀ ok).0 in
      record { parts = p; tidy = parts_tidy p all ok; laid = parts_laid p all ok }

  -- A record is accepted exactly when it is written from a cut, bits up to it, and slots that rise above it
  pub record_sound : (record_fault u B (length r) r ≡ 0) ↔ RecordSound u B r
  record_sound = (
    λ ok. let t = accepted_is ok in laid_sound u B r c₀ n₀ L₀ (bits_of r) es₀ cs₀ (tail_of u B r).blocks t.parts t.tidy t.laid,
    sound_accepted u B r small,
  )

  -- It is accepted exactly when no row applies
  pub record_none : (record_fault u B (length r) r ≡ 0) ↔ ((f : ℕ) → ¬ (RecordRefused u B r f))
  record_none = (λ z f t. let s = rows_refused f t in s.1 (sym s.0 ∙ z), λ n. go n (ℕ_discrete (record_fault u B (length r) r) 0))
    where
      go : ((f : ℕ) → ¬ (RecordRefused u B r f)) → Dec (record_fault u B (length r) r ≡ 0) → record_fault u B (length r) r ≡ 0
      go n (yes z) = z
      go n (no g) = absurd (n (record_fault u B (length r) r) (rows_told g))

  -- No two numbers are given to one record
  pub record_one : (f g : ℕ) → RecordRefused u B r f → RecordRefused u B r g → f ≡ g
  record_one f g s t = sym (rows_refused f s).0 ∙ (rows_refused g t).0
