-- The answer of writing and the buffer afterwards: what an accepted writing has put there, how it reads back, and what a refusal leaves.
use Prim.Native.Nat.{ℕ, ◌+◌, ◌*◌, ◌≤◌, ◌<◌}
use mathlib.Core.Path.{◌≡◌, refl, sym, ap, ◌∙◌}
use mathlib.Core.Logic.{◌↔◌}
use mathlib.Core.List.{List, [], ◌++◌, append-nil, flatten}
use native.Mathlib.Nat.{zero-mul}
use native.Mathlib.Omega.{arith}
use lib.ListN.{length, take, drop}
use Rattle.paper.specs.Lists.{on_front}
use Rattle.paper.specs.Record.{cut_of, tail_count, code_length, bits_of, slots_to_cut, tail_of, fault17, record_fault}
use Rattle.paper.specs.Held.{contents}
use Rattle.paper.specs.Write.{encode, write_fault, written_with, write_answer, write_buffer, MeetsWrite}
use Rattle.paper.specs.declared.Verdict.{Verdict}
use Rattle.paper.specs.declared.Written.{Written}
use Rattle.laws.proofs.Lists.{In, has_in, in_has}
use Rattle.laws.proofs.Parts.{AllBytes}
use Rattle.laws.proofs.Rounding.{RoundsUp, rounds_ceil, rounds_one}
use Rattle.laws.proofs.Records.{fits_6}
use Rattle.meaning.proofs.Rising.{Ascends, rise_lower}
use Rattle.meaning.proofs.Bits.{bits_rise}
use Rattle.meaning.proofs.Parting.{Clean, above, cut_high, join_high}
use Rattle.promises.proofs.RecordRows.{Holds}
use Rattle.promises.proofs.IndexRows.{Counts}
use Rattle.promises.proofs.WrittenTails.{cut_length}
use Rattle.promises.proofs.WrittenRecords.{written_bytes, unused_zero, record_exact}
use Rattle.promises.proofs.RecordNumbers.{accepted_is}
use Rattle.promises.proofs.RecordSlots.{record_held}
use Rattle.promises.proofs.LengthAnswers.{ByVerdict, told_number, told_place, none_told, left_alone, length_told, left_made, front_read, behind_stays, size_stays, row_told}
use Rattle.promises.proofs.WriteRows.{RecordFor, Writable, WriteRefused, WriteAccepted}
use Rattle.promises.proofs.WriteBytes.{high_in, as_written_for, for_written}
use Rattle.promises.proofs.WriteNumbers.{write_passes, write_table}

-- What the head of a record without fault says
module _ (u B : ℕ) (r : List ℕ) (all : AllBytes r) (pos : 1 ≤ B) (small : u ≤ 1048576) (long : 12 ≤ length r) (ok : record_fault u B (length r) r ≡ 0) where
  -- how many of its slots are above the cut
  head_count : (xs : List ℕ) → contents u B r ≡ xs → tail_count r ≡ length (above (cut_of r) xs)
  unfolding contents
  head_count xs e =
      let t = accepted_is u B r all pos small long ok in
      let c = cut_of r in
      let bl = (tail_of u B r).blocks in
      let h = join_high c u 0 (slots_to_cut c (bits_of r)) (flatten bl) (bits_rise c (bits_of r)) t.laid.rising in
      sym (cut_length B (tail_count r) bl t.laid.cut) ∙ ap length (sym h ∙ ap (above c) e)

  -- how many bytes are left behind the head, the bits and the entries
  head_codes : (w m : ℕ) → RoundsUp (cut_of r) 8 w → RoundsUp (tail_count r) B m → 12 + w + 8 * m + code_length r ≡ length r
  unfolding record_fault
  head_codes w m uw um =
      let f = (fits_6 u B (length r) (cut_of r) (tail_count r) (code_length r) (fault17 (cut_of r) (bits_of r) (tail_of u B r).fault) ok).0 in
      let iw = rounds_one (cut_of r) 8 w _ uw (rounds_ceil (cut_of r) 8 (omega arith)) in
      let im = rounds_one (tail_count r) B m _ um (rounds_ceil (tail_count r) B pos) in
      rw (iw, im) f.sum

-- How bytes read that are the record of slots with a cut
pub record Reads (u B cut : ℕ) (slots r : List ℕ) : Type 0 where
  -- without fault
  pub accepted : record_fault u B (length r) r ≡ 0
  -- as these slots
  pub contents_are : contents u B r ≡ slots
  -- with this cut, and no bit set beyond it
  pub cut_is : cut_of r ≡ cut
  pub clean : Clean (cut_of r) (bits_of r)
  -- with a tail of so many slots, and so many code bytes
  pub tailed : tail_count r ≡ length (above cut slots)
  pub counted : Counts u (λ x. In x slots × (cut < x)) (tail_count r)
  pub coded : (w m : ℕ) → RoundsUp cut 8 w → RoundsUp (tail_count r) B m → 12 + w + 8 * m + code_length r ≡ length r
  -- none of these without a tail
  pub no_codes : tail_count r ≡ 0 → code_length r ≡ 0
  -- and by its bytes it holds these slots
  pub holds : (x : ℕ) → Holds u B r x ↔ In x slots

-- so reads what is written
made_reads : (u B cut : ℕ) (slots : List ℕ) → Writable u B cut slots → Reads u B cut slots (encode B cut slots)
made_reads u B cut slots w =
    let r = encode B cut slots in
    let pos = w.cuts.ranges.block_within.0 in
    let small = w.cuts.ranges.slots_within.1 in
    let b = written_bytes u B cut slots pos small w.cuts.cut_within w.rising in
    let t = (record_exact u B r b.0 pos small b.1 cut slots).1 (w.cuts.cut_within, w.rising, refl) in
    let tailed = rw t.1 at (head_count u B r b.0 pos small b.1 t.0 slots t.2) in
    record {
      accepted = t.0;
      contents_are = t.2;
      cut_is = t.1;
      clean = unused_zero u B r b.0 pos small b.1 t.0;
      tailed = tailed;
      counted = record {
        slots = above cut slots;
        rising = rise_lower u 0 cut (above cut slots) (omega arith) (cut_high cut u 0 slots w.rising);
        exactly = λ x. high_in cut slots x;
        long = sym tailed;
      };
      coded = rw t.1 at (head_codes u B r b.0 pos small b.1 t.0);
      no_codes = (accepted_is u B r b.0 pos small b.1 t.0).parts.no_codes;
      holds = λ x.
          let h = rw t.2 at (record_held u B r b.0 pos small b.1 t.0 x) in
          (λ k. in_has x slots (h.1 k), λ i. h.0 (has_in x slots i));
    }

-- A record that reads so, of rising slots
module _ {u B cut : ℕ} {slots r : List ℕ} (t : Reads u B cut slots r) (pos : 1 ≤ B) (a : Ascends u 0 slots) where
  -- with the cut u: no tail, and nothing but the head and the bits
  pure_bits : cut ≡ u → (tail_count r ≡ 0) × ((w : ℕ) → RoundsUp u 8 w → 12 + w ≡ length r)
  pure_bits e =
      let high : above u slots ≡ [] = rw append-nil at (join_high u u 0 slots [] a tt) in
      let none : tail_count r ≡ 0 = t.tailed ∙ rw (e, high) in
      let z = zero-mul B in
      let l = t.no_codes none in
      (none, λ w up. let s = t.coded w 0 (rw e up) (omega arith, omega arith) in omega arith)

  -- with the cut 0: all slots in the tail, and no bits
  pure_gaps : cut ≡ 0 → (tail_count r ≡ length slots) × ((m : ℕ) → RoundsUp (length slots) B m → 12 + 8 * m + code_length r ≡ length r)
  pure_gaps e =
      let all : tail_count r ≡ length slots = t.tailed ∙ rw (e, join_high 0 u 0 [] slots tt a) in
      (all, λ m up. let s = t.coded 0 m (rw e (omega arith, omega arith)) (rw all up) in omega arith)

module _ (u B cut : ℕ) (slots before : List ℕ) (answer : Written) (after : List ℕ) (m : MeetsWrite u B cut slots before answer after) where
  -- both go by the first fault
  judged : ByVerdict (write_fault u B cut slots (length before)) (length (encode B cut slots)) (on_front (encode B cut slots) before) before answer after
  unfolding write_answer write_buffer
  judged = record { tells = m.answers; leaves = m.leaves }

  -- Refused: the length is 0
  pub refused_length : ¬ (answer.number ≡ 0) → answer.length ≡ 0
  refused_length n = none_told judged n

  -- and the buffer as it was
  pub refused_buffer : ¬ (answer.number ≡ 0) → after ≡ before
  refused_buffer n = left_alone judged n

  -- and a row that refuses tells all of the answer
  pub refused_tells : (r p : ℕ) → WriteRefused u B cut slots (length before) r p
      → (answer.number ≡ r) × (answer.place ≡ p) × (answer.length ≡ 0) × (after ≡ before)
  unfolding write_answer written_with
  refused_tells = row_told judged (write_table u B cut slots (length before))

  -- Accepted
  module _ (ok : answer.number ≡ 0) where
    -- the record as it is written
    abbrev made : List ℕ
    made = encode B cut slots

    -- no row refuses
    pub passed : WriteAccepted u B cut slots (length before)
    passed = (write_table u B cut slots (length before)).accepts.0 (sym (ap (λ (w : Written). w.number) m.answers) ∙ ok)

    -- the length of the record is told
    pub length_is : answer.length ≡ length (encode B cut slots)
    length_is = length_told judged ok

    -- it has room
    pub room_is : answer.length ≤ length before
    room_is =
        let a = passed in
        let e = for_written a.is a.writable.rising in
        rw (length_is, ← e) a.fits

    -- it stands at the front, and what stood behind it stays
    pub after_is : after ≡ encode B cut slots ++ drop (length (encode B cut slots)) before
    after_is = left_made judged ok

    -- every byte behind it does
    pub behind_is : drop answer.length after ≡ drop answer.length before
    behind_is = behind_stays judged ok made refl refl

    -- and the buffer is as long as it was
    pub after_length : length after ≡ length before
    after_length = size_stays judged ok made refl refl room_is

    front_is : take answer.length after ≡ encode B cut slots
    front_is = front_read judged ok made refl refl

    -- the front is the record of the slots
    pub front_for : RecordFor u B cut slots (take answer.length after)
    front_for =
        let w = passed.writable in
        rw front_is (as_written_for u B cut slots w.cuts.ranges.block_within.0 w.cuts.cut_within w.rising)

    -- and reads as they
    pub front_reads : Reads u B cut slots (take answer.length after)
    front_reads = rw front_is (made_reads u B cut slots passed.writable)

    -- with the cut u it has no tail
    pub front_bits : cut ≡ u
        → (tail_count (take answer.length after) ≡ 0) × ((w : ℕ) → RoundsUp u 8 w → 12 + w ≡ length (take answer.length after))
    front_bits = let w = passed.writable in pure_bits front_reads w.cuts.ranges.block_within.0 w.rising

    -- with the cut 0 no bits
    pub front_gaps : cut ≡ 0
        → (tail_count (take answer.length after) ≡ length slots)
        × ((m : ℕ) → RoundsUp (length slots) B m → 12 + 8 * m + code_length (take answer.length after) ≡ length (take answer.length after))
    front_gaps = let w = passed.writable in pure_gaps front_reads w.cuts.ranges.block_within.0 w.rising

  -- What no row refuses is accepted
  module _ (a : WriteAccepted u B cut slots (length before)) where
    pub tells_number : answer.number ≡ 0
    tells_number = told_number judged ∙ ap (λ (v : Verdict). v.number) (write_passes u B cut slots (length before) a)

    -- with the place 0
    pub tells_place : answer.place ≡ 0
    tells_place = told_place judged ∙ ap (λ (v : Verdict). v.place) (write_passes u B cut slots (length before) a)

    -- and any bytes that are the record of the slots are what is written
    bytes_are : a.bytes ≡ encode B cut slots
    bytes_are = for_written a.is a.writable.rising

    -- so long
    pub tells_length : answer.length ≡ length a.bytes
    tells_length = rw bytes_are (length_is tells_number)

    -- at the front of the buffer
    pub tells_buffer : after ≡ a.bytes ++ drop (length a.bytes) before
    tells_buffer = rw bytes_are (after_is tells_number)
