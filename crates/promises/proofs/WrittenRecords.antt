-- A record and what is written from its cut and its slots: an accepted one is that, and what is written is accepted and holds the slots.
use Prim.Native.Nat.{ℕ, ◌≤◌}
use mathlib.Core.Path.{◌≡◌, refl, sym, ap, ◌∙◌}
use mathlib.Core.Logic.{◌↔◌}
use mathlib.Core.List.{List, ◌++◌, flatten}
use native.Mathlib.Omega.{arith}
use lib.ListN.{length, drop, length-append}
use Rattle.paper.specs.Lists.{has}
use Rattle.paper.specs.Bytes.{u32_bytes}
use Rattle.paper.specs.Tail.{block_count}
use Rattle.paper.specs.Record.{cut_of, bit_length, bits_of, slots_to_cut, record_fault}
use Rattle.paper.specs.Held.{contents}
use Rattle.paper.specs.Write.{bit_bytes, in_blocks, skip_entries, encoded, encode}
use Rattle.laws.proofs.Parts.{AllBytes, all_drop, all_take, all_join}
use Rattle.laws.proofs.Words.{all_word}
use Rattle.laws.proofs.Rounding.{rounds_ceil, rounds_one}
use Rattle.laws.proofs.Octets.{all_bits, bits_length}
use Rattle.laws.proofs.Entries.{all_entry_bytes}
use Rattle.laws.proofs.Cutting.{blocks_flat}
use Rattle.meaning.proofs.Rising.{Ascends, has_high}
use Rattle.meaning.proofs.Bits.{bits_rise}
use Rattle.meaning.proofs.Parting.{Clean, up_to, above, unset_clean, bits_clean, bits_read, cut_join, cut_low, cut_high, join_low, join_high}
use Rattle.meaning.proofs.Sound.{contents_rise, none_beyond}
use Rattle.promises.proofs.RecordRows.{all_codes, RecordSound}
use Rattle.promises.proofs.Beyond.{tidy_unset}
use Rattle.promises.proofs.WrittenTails.{all_codes_bytes}
use Rattle.promises.proofs.RecordNumbers.{parts_w, accepted_is, record_sound, sound_accepted, sound_cut, sound_bits, sound_blocks}

three_words : (a b c : ℕ) → length (u32_bytes a ++ u32_bytes b ++ u32_bytes c) ≡ 12
unfolding u32_bytes
three_words a b c = refl

all_words : (a b c : ℕ) → AllBytes (u32_bytes a ++ u32_bytes b ++ u32_bytes c)
all_words a b c = all_join (u32_bytes a ++ u32_bytes b) (u32_bytes c) (all_join (u32_bytes a) (u32_bytes b) (all_word a) (all_word b)) (all_word c)

-- A sound record holds the slots that it is written from
module _ (u B : ℕ) (r : List ℕ) (small : u ≤ 1048576) (s : RecordSound u B r) where
  abbrev low : List ℕ
  low = slots_to_cut s.cut s.bits

  -- its slots are those of its bits up to the cut, then those that it is written from
  sound_contents : contents u B r ≡ slots_to_cut s.cut s.bits ++ s.slots
  unfolding contents
  sound_contents =
      rw (sound_bits u B r small s, sound_cut u B r small s, sound_blocks u B r small s)
      (ap (λ (t : List ℕ). low ++ t) (blocks_flat B s.m s.slots s.blocks))

  -- and is what is written from them
  sound_written : AllBytes r → 1 ≤ B → r ≡ encode B (cut_of r) (contents u B r)
  unfolding encode encoded
  sound_written all pos =
      let c = s.cut in
      let c-is = sound_cut u B r small s in
      let b-is = sound_bits u B r small s in
      let all_bits = rw b-is at (all_take (bit_length (cut_of r)) (drop 12 r) (all_drop 12 r all)) in
      let w-is = rounds_one c 8 (length s.bits) (bit_length c) s.bits_long (rounds_ceil c 8 (omega arith)) in
      let m_is = rounds_one (length s.slots) B s.m (block_count B (length s.slots)) s.blocks (rounds_ceil (length s.slots) B pos) in
      let clean = unset_clean c s.bits w-is (tidy_unset c s.bits w-is s.tidy) in
      let bits_are = bits_clean c s.bits all_bits w-is clean in
      let el = join_low c u 0 low s.slots (bits_rise c s.bits) s.rising in
      let eh = join_high c u 0 low s.slots (bits_rise c s.bits) s.rising in
      rw (c-is, sound_contents, el, eh, ← m_is, ← bits_are) s.is

-- what is written from a cut and rising slots is sound
module _ (u B c : ℕ) (xs : List ℕ) (pos : 1 ≤ B) (within : c ≤ u) (a : Ascends u 0 xs) where
  abbrev high : List ℕ
  high = above c xs

  abbrev bits_for : List ℕ
  bits_for = bit_bytes (λ x. has x (up_to c xs)) 1 (bit_length c)

  -- it has its own cut, bits and slots as a witness
  unfoldable pub written_sound : RecordSound u B (encode B c xs)
  unfolding encode encoded
  written_sound =
      record {
        cut = c;
        bits = bits_for;
        slots = high;
        m = block_count B (length high);
        cut_within = within;
        bits_long = rw (bits_length (λ x. has x (up_to c xs)) (bit_length c) 1) (rounds_ceil c 8 (omega arith));
        tidy = record {
          t = λ x. has x (up_to c xs);
          written = ap (bit_bytes (λ x. has x (up_to c xs)) 1) (sym (bits_length (λ x. has x (up_to c xs)) (bit_length c) 1));
          unset = λ x l. has_high c 0 x (up_to c xs) (cut_low c u 0 xs a) l;
        };
        rising = cut_high c u 0 xs a;
        blocks = rounds_ceil (length high) B pos;
        is = refl;
      }

  module _ (small : u ≤ 1048576) where
    -- so it is accepted
    written_accepted : record_fault u B (length (encode B c xs)) (encode B c xs) ≡ 0
    written_accepted = sound_accepted u B (encode B c xs) small written_sound

    -- with its cut
    written_cut : cut_of (encode B c xs) ≡ c
    unfolding written_sound
    written_cut = sound_cut u B (encode B c xs) small written_sound

    -- with its slots
    written_contents : contents u B (encode B c xs) ≡ xs
    unfolding written_sound
    written_contents =
        sound_contents u B (encode B c xs) small written_sound
        ∙ ap (λ (t : List ℕ). t ++ high) (bits_read c (up_to c xs) (cut_low c u 0 xs a)) ∙ cut_join c u 0 xs a

-- an accepted record is what is written from its cut and its slots
pub contents_written : (u B : ℕ) (r : List ℕ) → AllBytes r → 1 ≤ B → u ≤ 1048576 → 12 ≤ length r → record_fault u B (length r) r ≡ 0
    → r ≡ encode B (cut_of r) (contents u B r)
contents_written u B r all pos small long ok = sound_written u B r small ((record_sound u B r all pos small long).0 ok) all pos

-- no bit beyond its cut is set
pub unused_zero : (u B : ℕ) (r : List ℕ) → AllBytes r → 1 ≤ B → u ≤ 1048576 → 12 ≤ length r → record_fault u B (length r) r ≡ 0 → Clean (cut_of r) (bits_of r)
unused_zero u B r all pos small long ok =
    unset_clean (cut_of r) (bits_of r) (parts_w (accepted_is u B r all pos small long ok).parts) (none_beyond u B r pos ok)

-- what is written from rising slots is accepted, and holds them
pub written_held : (u B c : ℕ) (xs : List ℕ) → 1 ≤ B → u ≤ 1048576 → c ≤ u → Ascends u 0 xs
    → (record_fault u B (length (encode B c xs)) (encode B c xs) ≡ 0) × (contents u B (encode B c xs) ≡ xs)
written_held u B c xs pos small within a = (written_accepted u B c xs pos within a small, written_contents u B c xs pos within a small)

-- it is bytes, and has at least a head
pub written_bytes : (u B c : ℕ) (xs : List ℕ) → 1 ≤ B → u ≤ 1048576 → c ≤ u → Ascends u 0 xs → AllBytes (encode B c xs) × (12 ≤ length (encode B c xs))
unfolding encode encoded
written_bytes u B c xs pos small within a =
    let ys = above c xs in
    let m = block_count B (length ys) in
    let bl = in_blocks B m ys in
    let w = u32_bytes c ++ u32_bytes (length ys) ++ u32_bytes (length (all_codes bl)) in
    let bits = bit_bytes (λ x. has x (up_to c xs)) 1 (bit_length c) in
    let up : Ascends u c (flatten bl) = rw (blocks_flat B m ys (rounds_ceil (length ys) B pos)) (cut_high c u 0 xs a) in
    let l₁ = length-append (w ++ bits ++ skip_entries 0 bl) (all_codes bl) in
    let l₂ = length-append (w ++ bits) (skip_entries 0 bl) in
    let l₃ = length-append w bits in
    let l₄ : length w ≡ 12 = three_words c (length ys) (length (all_codes bl)) in
    let b₁ = all_join w bits (all_words c (length ys) (length (all_codes bl))) (all_bits (λ x. has x (up_to c xs)) (bit_length c) 1) in
    let b₂ = all_join (w ++ bits) (skip_entries 0 bl) b₁ (all_entry_bytes 0 bl) in
    (all_join (w ++ bits ++ skip_entries 0 bl) (all_codes bl) b₂ (all_codes_bytes u small c bl up), omega arith)

-- a record is accepted with the cut c, and holds xs, exactly when it is what is written from these
pub record_exact : (u B : ℕ) (r : List ℕ) → AllBytes r → 1 ≤ B → u ≤ 1048576 → 12 ≤ length r → (c : ℕ) (xs : List ℕ)
    → ((record_fault u B (length r) r ≡ 0) × (cut_of r ≡ c) × (contents u B r ≡ xs))
    ↔ ((c ≤ u) × Ascends u 0 xs × (r ≡ encode B c xs))
record_exact u B r all pos small long c xs = (
  λ t.
      let s = (record_sound u B r all pos small long).0 t.0 in
      let c-is : s.cut ≡ c = sym (sound_cut u B r small s) ∙ t.1 in
      let w = contents_written u B r all pos small long t.0 in
      (rw c-is at s.cut_within, rw t.2 at (contents_rise u B r pos t.0), rw (t.1, t.2) at w),
  λ t.
      rw t.2 (
        written_accepted u B c xs pos t.0 t.1 small,
        written_cut u B c xs pos t.0 t.1 small,
        written_contents u B c xs pos t.0 t.1 small,
      ),
)

-- and no other bytes are
pub exactly_one : (u B c : ℕ) (xs : List ℕ) → 1 ≤ B → u ≤ 1048576 → c ≤ u → Ascends u 0 xs → (r : List ℕ)
    → (AllBytes r × (12 ≤ length r) × (record_fault u B (length r) r ≡ 0) × (cut_of r ≡ c) × (contents u B r ≡ xs)) ↔ (r ≡ encode B c xs)
exactly_one u B c xs pos small within a r = (
  λ t. ((record_exact u B r t.0 pos small t.1 c xs).0 (t.2, t.3, t.4)).2,
  λ e.
      let b = written_bytes u B c xs pos small within a in
      let t = (record_exact u B (encode B c xs) b.0 pos small b.1 c xs).1 (within, a, refl) in
      rw e (b.0, b.1, t.0, t.1, t.2),
)

-- two that hold the same slots with the same cut are the same bytes
pub one_record : (u B : ℕ) (r s : List ℕ) → AllBytes r → AllBytes s → 1 ≤ B → u ≤ 1048576 → 12 ≤ length r → 12 ≤ length s
    → record_fault u B (length r) r ≡ 0 → record_fault u B (length s) s ≡ 0 → cut_of r ≡ cut_of s → contents u B r ≡ contents u B s → r ≡ s
one_record u B r s all-r all-s pos small long-r long-s ok-r ok-s c-is x-is =
    contents_written u B r all-r pos small long-r ok-r ∙ (λ i. encode B (c-is i) (x-is i)) ∙ sym (contents_written u B s all-s pos small long-s ok-s)
