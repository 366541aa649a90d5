-- [Order 6] Telling how large a record can be: a number is given exactly when the rows say so, the number of bytes is the bound, and every record that is written keeps it.
use Prim.Native.Nat.{ℕ, ◌+◌, ◌-◌, ◌/◌, ◌≤◌, ◌<◌}
use mathlib.Core.Path.{◌≡◌, refl, sym, ap, ◌∙◌}
use mathlib.Core.Logic.{◌↔◌}
use mathlib.Core.List.{List}
use native.Mathlib.Decide.{dec_le}
use native.Mathlib.Omega.{arith}
use lib.ListN.{length}
use borrow.Author.Tests.{eq-eqb, ne_eqb}
use Rattle.paper.specs.Bytes.{ceil_div}
use Rattle.paper.specs.Refusal.{verdict, accepted, fault13n, fault15}
use Rattle.paper.specs.Write.{encode, write_answer, MeetsWrite}
use Rattle.paper.specs.Reserve.{most_bytes, bound_fault, bound_answer, MeetsBound}
use Rattle.paper.specs.declared.Verdict.{Verdict}
use Rattle.paper.specs.declared.Written.{Written}
use Rattle.paper.specs.declared.Bound.{Bound}
use Rattle.laws.proofs.Lists.{In}
use Rattle.laws.proofs.Rounding.{rounds_ceil, rounds_one, ceil_few}
use Rattle.laws.proofs.Links.{fifteen_above, fifteen, thirteen_many, thirteen_few}
use Rattle.meaning.proofs.Rising.{rise_lower, rise_length}
use Rattle.meaning.proofs.Parting.{above, cut_high}
use Rattle.promises.proofs.IndexRows.{ByTheTable, Counts}
use Rattle.promises.proofs.IndexFrame.{four_u, four_b, four_passes}
use Rattle.promises.proofs.IndexNumbers.{by_the_table, Either}
use Rattle.promises.proofs.IndexNumbers.Either.{one_refuses, all_accept}
use Rattle.promises.proofs.QuestionNumbers.{counts_one}
use Rattle.promises.proofs.WriteRows.{Ranges, Cuts, Writable, WriteAccepted}
use Rattle.promises.proofs.WriteBytes.{high_in, as_written_for}
use Rattle.promises.proofs.WriteNumbers.{sizes_or, write_table, twelve_short}
use Rattle.promises.proofs.ReserveRows.{GoesInto, BoundFor, BoundRefused, BoundAccepted}
use Rattle.promises.proofs.ReserveRows.BoundRefused.{u_range, b_range, cut_above, too_many}
use Rattle.promises.proofs.ReserveSpans.{encode_within}

-- THE TABLE
module _ (u B cut n : ℕ) where
  -- the tests from row 13 on, and from row 15 on
  abbrev from13 : Verdict
  from13 = fault13n (u - cut) n accepted

  abbrev from15 : Verdict
  from15 = fault15 u cut from13

  -- what the rows let pass is passed
  to_cut : Ranges u B → bound_fault u B cut n ≡ from15
  unfolding bound_fault
  to_cut r = four_passes u B from15 r.slots_within r.block_within

  to_count : Cuts u B cut → bound_fault u B cut n ≡ from13
  to_count c = to_cut c.ranges ∙ sym (fifteen from13 u cut c.cut_within from13 refl)

  -- the number and the place of a row that applies are given
  bound_gives : (r p : ℕ) → BoundRefused u B cut n r p → bound_fault u B cut n ≡ verdict r p
  unfolding bound_fault
  bound_gives r p (u_range o) = four_u u B from15 o
  bound_gives r p (b_range o) = four_b u B from15 o
  bound_gives r p (cut_above g l) = to_cut g ∙ sym (fifteen_above from13 u cut l)
  bound_gives r p (too_many c l) = to_count c ∙ sym (thirteen_many accepted (u - cut) n (let w = c.cut_within in omega arith))

  -- it is not 0
  bound_nonzero : (r p : ℕ) → BoundRefused u B cut n r p → ¬ (r ≡ 0)
  bound_nonzero r p (u_range o) = λ z. omega arith
  bound_nonzero r p (b_range o) = λ z. omega arith
  bound_nonzero r p (cut_above g l) = λ z. omega arith
  bound_nonzero r p (too_many c l) = λ z. omega arith

  -- where none applies, it is accepted
  bound_passes : BoundAccepted u B cut n → bound_fault u B cut n ≡ accepted
  bound_passes a = to_count a.cuts ∙ sym (thirteen_few accepted (u - cut) n (let e = a.enough in omega arith) accepted refl)

  abbrev Judged : Type 0
  Judged = Either (BoundRefused u B cut n) (BoundAccepted u B cut n)

  by_count : Cuts u B cut → Judged
  by_count c =
      elim (dec_le (cut + n) u) [
        | yes l ↦ all_accept (record { cuts = c; enough = l })
        | no g ↦ one_refuses 13 0 (too_many c (omega arith))
      ]

  bound_either : Judged
  bound_either = sizes_or u B cut u_range b_range cut_above by_count

  -- SO IT GOES by the table
  pub bound_table : ByTheTable (bound_answer u B cut n).number (bound_answer u B cut n).place (BoundRefused u B cut n) (BoundAccepted u B cut n)
  unfolding bound_answer
  bound_table = by_the_table (bound_fault u B cut n) (BoundRefused u B cut n) (BoundAccepted u B cut n) bound_gives bound_nonzero bound_passes bound_either

-- THE NUMBER OF BYTES
-- how often a number goes into another is one number
goes_129 : (U p : ℕ) → GoesInto 129 U p → p ≡ U / 129
goes_129 U p g = omega arith

goes_16385 : (U q : ℕ) → GoesInto 16385 U q → q ≡ U / 16385
goes_16385 U q g = omega arith

module _ (u B cut n : ℕ) (a : BoundAccepted u B cut n) where
  pos : 1 ≤ B
  pos = a.cuts.ranges.block_within.0

  -- what is told is the bound
  told_for : BoundFor u B cut n (most_bytes u B cut n)
  unfolding most_bytes
  told_for =
      let few = ceil_few B pos n in
      let e = a.enough in
      let w = a.cuts.cut_within in
      record {
        w = ceil_div cut 8;
        bits = rounds_ceil cut 8 (omega arith);
        m = ceil_div n B;
        blocks = rounds_ceil n B pos;
        c = n - ceil_div n B;
        others = omega arith;
        U = u - cut;
        above = omega arith;
        p = (u - cut) / 129;
        twos = (omega arith, omega arith);
        q = (u - cut) / 16385;
        threes = (omega arith, omega arith);
        sum = refl;
      }

  -- and nothing else is
  for_told : (b : ℕ) → BoundFor u B cut n b → b ≡ most_bytes u B cut n
  unfolding most_bytes
  for_told b f =
      let w = rounds_one cut 8 _ _ f.bits (rounds_ceil cut 8 (omega arith)) in
      let m = rounds_one n B _ _ f.blocks (rounds_ceil n B pos) in
      let U : f.U ≡ u - cut = omega (arith, f.above) in
      let p = rw U at (goes_129 f.U f.p f.twos) in
      let q = rw U at (goes_16385 f.U f.q f.threes) in
      omega (arith, f.sum, f.others)

  pub bytes_for : (b : ℕ) → BoundFor u B cut n b ↔ (b ≡ most_bytes u B cut n)
  bytes_for b = (for_told b, λ e. rw e told_for)

-- THE ANSWER
module _ (u B cut n : ℕ) (most : Bound) (m : MeetsBound u B cut n most) where
  number_is : most.number ≡ (bound_fault u B cut n).number
  unfolding bound_answer
  number_is = ap (λ (t : Bound). t.number) m

  place_is : most.place ≡ (bound_fault u B cut n).place
  unfolding bound_answer
  place_is = ap (λ (t : Bound). t.place) m

  -- refused, it tells no byte
  pub none_told : ¬ (most.number ≡ 0) → most.bytes ≡ 0
  unfolding bound_answer
  none_told k = ap (λ (t : Bound). t.bytes) m ∙ rw (ne_eqb _ 0 (λ z. k (number_is ∙ z)))

  -- accepted, it tells the bound
  bytes_told : (bound_fault u B cut n).number ≡ 0 → most.bytes ≡ most_bytes u B cut n
  unfolding bound_answer
  bytes_told z = ap (λ (t : Bound). t.bytes) m ∙ rw (eq-eqb _ 0 z)

  -- a row that refuses tells all of it
  pub row_told : (r p : ℕ) → BoundRefused u B cut n r p → (most.number ≡ r) × (most.place ≡ p) × (most.bytes ≡ 0)
  row_told r p row =
      let e = bound_gives u B cut n r p row in
      let f = number_is ∙ ap (λ (v : Verdict). v.number) e in
      (f, place_is ∙ ap (λ (v : Verdict). v.place) e, none_told (λ z. bound_nonzero u B cut n r p row (sym f ∙ z)))

  module _ (a : BoundAccepted u B cut n) where
    passes : bound_fault u B cut n ≡ accepted
    passes = bound_passes u B cut n a

    -- and so does no row
    pub told_number : most.number ≡ 0
    told_number = number_is ∙ ap (λ (v : Verdict). v.number) passes

    pub told_place : most.place ≡ 0
    told_place = place_is ∙ ap (λ (v : Verdict). v.place) passes

    pub told_bytes : (b : ℕ) → BoundFor u B cut n b ↔ (b ≡ most.bytes)
    told_bytes =
        let e = bytes_told (ap (λ (v : Verdict). v.number) passes) in
        λ b. let f = bytes_for u B cut n a b in (λ t. f.0 t ∙ sym e, λ t. f.1 (t ∙ e))

-- SLOTS TO BE WRITTEN: so many lie above the cut
module _ (u B cut : ℕ) (slots : List ℕ) (w : Writable u B cut slots) where
  pub counts_above : Counts u (λ x. In x slots × (cut < x)) (length (above cut slots))
  counts_above =
      record {
        slots = above cut slots;
        rising = rise_lower u 0 cut (above cut slots) (omega arith) (cut_high cut u 0 slots w.rising);
        exactly = λ x. high_in cut slots x;
        long = refl;
      }

-- and where these are n
module _ (u B cut n : ℕ) (slots : List ℕ) (w : Writable u B cut slots) (c : Counts u (λ x. In x slots × (cut < x)) n) where
  within : cut ≤ u
  within = w.cuts.cut_within

  counted : n ≡ length (above cut slots)
  counted = counts_one c (counts_above u B cut slots w)

  -- there are at least n slots above it
  accepts : BoundAccepted u B cut n
  accepts = record { cuts = w.cuts; enough = rw counted (rise_length u cut (above cut slots) within (cut_high cut u 0 slots w.rising)) }

  -- the record has at most the bytes of the sum
  most_within : length (encode B cut slots) ≤ most_bytes u B cut n
  most_within = rw counted (encode_within u B cut slots w.cuts.ranges.block_within.0 within w.rising)

  pub sum_within : (b : ℕ) → BoundFor u B cut n b → length (encode B cut slots) ≤ b
  sum_within b f = rw ((bytes_for u B cut n accepts b).0 f) most_within

-- and so at most those that are told
module _ (u B cut n : ℕ) (most : Bound) (m : MeetsBound u B cut n most) (slots : List ℕ) (w : Writable u B cut slots)
    (c : Counts u (λ x. In x slots × (cut < x)) n) where
  pub bound_accepts : BoundAccepted u B cut n
  bound_accepts = accepts u B cut n slots w c

  pub record_within : length (encode B cut slots) ≤ most.bytes
  record_within = rw (bytes_told u B cut n most m (ap (λ (v : Verdict). v.number) (bound_passes u B cut n bound_accepts))) (most_within u B cut n slots w c)

  -- a buffer of so many bytes has room for it
  pub room_enough : (before : List ℕ) → most.bytes ≤ length before → WriteAccepted u B cut slots (length before)
  room_enough before l =
      let k = record_within in
      record {
        writable = w;
        bytes = encode B cut slots;
        is = as_written_for u B cut slots w.cuts.ranges.block_within.0 w.cuts.cut_within w.rising;
        fits = omega arith;
      }

-- and no writing is refused with 12 where the buffer has as many bytes as are told
pub never_twelve : (u B cut : ℕ) (slots before : List ℕ) (answer : Written) (after : List ℕ) → MeetsWrite u B cut slots before answer after
    → (n : ℕ) → (Writable u B cut slots → Counts u (λ x. In x slots × (cut < x)) n) → (most : Bound) → MeetsBound u B cut n most
    → most.bytes ≤ length before → ¬ (answer.number ≡ 12)
never_twelve u B cut slots before answer after m n c most b l z =
    let e = sym (ap (λ (w : Written). w.number) m.answers) ∙ z in
    let t = ((write_table u B cut slots (length before)).refuses 12 (write_answer u B cut slots (length before)).place).0 (e, refl, λ k. omega arith) in
    let s = twelve_short u B cut slots (length before) 12 _ t refl in
    let k = record_within u B cut n most b slots s.writable (c s.writable) in
    let h = s.shorter in
    absurd (omega arith)
