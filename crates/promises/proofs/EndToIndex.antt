-- Closing behind the lists that were written: it is accepted, and makes an index in which each list holds the slots that it was written from.
use Prim.Native.Nat.{ℕ, zero, suc, ◌+◌, ◌*◌, ◌<◌}
use mathlib.Core.Path.{◌≡◌, refl, sym, ap, ◌∙◌}
use mathlib.Core.List.{List, [], ◌∷◌, ◌++◌, map, flatten}
use native.Mathlib.Omega.{arith}
use lib.ListN.{length, get_or, take, drop, length-append, length-drop, length-map}
use lib.Seq.{take_at, drop-append-add, drop-drop}
use Rattle.paper.specs.Lists.{total}
use Rattle.paper.specs.Refusal.{accepted}
use Rattle.paper.specs.Held.{contents}
use Rattle.paper.specs.Index.{u_of, block_length, k_of, record_of, held}
use Rattle.paper.specs.Look.{look}
use Rattle.paper.specs.Close.{frame_bytes, MeetsClose}
use Rattle.paper.specs.declared.Verdict.{Verdict}
use Rattle.paper.specs.declared.Written.{Written}
use Rattle.laws.proofs.Lists.{Each}
use Rattle.laws.proofs.Parts.{AllBytes, all_none, all_join}
use Rattle.meaning.proofs.Rising.{Ascends}
use Rattle.promises.proofs.RecordRows.{RecordSound}
use Rattle.promises.proofs.IndexRows.{Word, starts_from, WellFormed}
use Rattle.promises.proofs.WrittenRecords.{written_held, written_bytes}
use Rattle.promises.proofs.IndexReads.{well_u, well_b, well_k}
use Rattle.promises.proofs.IndexDirectory.{starts_count}
use Rattle.promises.proofs.IndexLists.{each_by}
use Rattle.promises.proofs.IndexLooks.{well_accepted}
use Rattle.promises.proofs.IndexRecords.{record_is}
use Rattle.promises.proofs.WriteBytes.{as_written_for}
use Rattle.promises.proofs.CloseRows.{Roomy, CloseAccepted}
use Rattle.promises.proofs.CloseMade.{made, all_made}
use Rattle.promises.proofs.CloseNumbers.{made_well}
use Rattle.promises.proofs.CloseAnswers.{looked_number, looked_place, accepted_length, accepted_front, accepted_index}
use Rattle.promises.proofs.EndToRuns.{Plan, record_for, size_for, slots_of, Wrote, starts_by, total_by, Packable}
use Rattle.promises.proofs.EndToWrites.{Good, Ran, ran}

-- what comes of each of a list, by what each is
each_map : {A C : Type 0} (P : A → Type 0) (Q : C → Type 0) (f : A → C) → ((x : A) → P x → Q (f x)) → (xs : List A) → Each P xs → Each Q (map f xs)
each_map P Q f h [] e = tt
each_map P Q f h (x ∷ xs) e = (h x e.0, each_map P Q f h xs e.1)

-- lists joined are as long as all of them together
flat_length : {A : Type 0} (f : A → List ℕ) (xs : List A) → length (flatten (map f xs)) ≡ total (map (λ (x : A). length (f x)) xs)
unfolding flatten total
flat_length f [] = refl
flat_length f (x ∷ xs) = length-append (f x) (flatten (map f xs)) ∙ rw (flat_length f xs)

-- and where each is bytes, so is the whole
flat_bytes : (rs : List (List ℕ)) → Each AllBytes rs → AllBytes (flatten rs)
unfolding flatten
flat_bytes [] e = all_none
flat_bytes (r ∷ rs) e = all_join r (flatten rs) e.0 (flat_bytes rs e.1)

-- where records start that end below some number, each start is below it
starts_below : (top : ℕ) (rs : List (List ℕ)) (a : ℕ) → a + length (flatten rs) < top → Each (λ (s : ℕ). s < top) (starts_from a rs)
unfolding flatten
starts_below top [] a l = tt
starts_below top (r ∷ rs) a l =
    let n = length-append r (flatten rs) in
    (omega arith, starts_below top rs (a + length r) (omega arith))

-- WHAT IS KNOWN OF THE INDEX of some lists
pub record Holding (u B : ℕ) (plans : List Plan) (bs : List ℕ) : Type 0 where
  pub bytes : AllBytes bs
  pub well : WellFormed bs
  pub looked : look bs ≡ accepted
  pub u_is : u_of bs ≡ u
  pub b_is : block_length bs ≡ B
  pub k_is : k_of bs ≡ length plans
  -- each record is the one that was written, and holds its slots
  pub record_planned : (j : ℕ) → j < length plans → record_of bs j ≡ get_or (map (record_for B) plans) j []
  pub held_is : (j : ℕ) → j < length plans → held bs j ≡ slots_of plans j
  pub rising : Each (λ (p : Plan). Ascends u 0 p.slots) plans

module _ (u B : ℕ) (plans : List Plan) (before : List ℕ) (c : Packable u B plans (length before)) (answers : List Written) (written : List ℕ)
    (wrote : Wrote u B 0 plans before answers written) where
  abbrev records : List (List ℕ)
  records = map (record_for B) plans

  -- each list is good
  good : Each (Good u) plans
  good = each_by _ _ (Good u) (λ p a b. (a, b)) plans c.cuts c.rising

  -- so the run is as it should be
  pub all_ran : Ran u B c.u_inside c.b_inside 0 plans [] before answers written
  all_ran = let f = c.fits in ran u B c.u_inside c.b_inside plans 0 before [] before answers written refl refl good (omega arith) wrote

  -- the buffer stays as long as it is
  pub written_length : length written ≡ length before
  written_length =
      let f = c.fits in
      let n = flat_length (record_for B) plans in
      let d = length-drop (size_for B plans) before in
      ap length all_ran.bytes ∙ length-append (flatten records) (drop (size_for B plans) before) ∙ omega arith

  abbrev D : ℕ
  D = total_by answers

  abbrev starts : List ℕ
  starts = starts_by 0 answers

  records_long : length (flatten records) ≡ D
  records_long = flat_length (record_for B) plans ∙ sym all_ran.size

  records_front : take D written ≡ flatten records
  records_front = ap (take D) all_ran.bytes ∙ take_at (flatten records) _ D records_long

  starts_many : length starts ≡ length plans
  starts_many = ap length all_ran.starts ∙ starts_count 0 records ∙ length-map plans (record_for B)

  -- Closing passes rows 4, 1 and 12
  pub roomy : Roomy written u B D starts
  roomy =
      let n = starts_many in
      let l = written_length in
      let t = all_ran.size in
      let s = c.small in
      let f = c.fits in
      record {
        bounded = record { u_inside = c.u_inside; b_inside = c.b_inside; k_inside = rw n c.k_inside };
        small = omega arith;
        fits = omega arith;
      }

  -- all starts are below 2 to the power of 32
  starts_small : Each Word starts
  starts_small =
      let s = c.small in
      let n = flat_length (record_for B) plans in
      rw all_ran.starts (starts_below 4294967296 records 0 (omega arith))

  -- and no row refuses it
  closable : CloseAccepted written u B D starts
  closable =
      let pos = c.b_inside.0 in
      let most = c.u_inside.1 in
      record {
        records = records;
        laid =
            record {
              roomy = roomy;
              rest = drop (size_for B plans) before;
              is = all_ran.bytes;
              total = records_long;
              from = all_ran.starts;
              long = each_map (Good u) _ (record_for B) (λ p g. (written_bytes u B p.cut p.slots pos most g.0 g.1).1) plans good;
            };
        sound = each_map (Good u) (RecordSound u B) (record_for B) (λ p g. (as_written_for u B p.cut p.slots pos g.0 g.1).sound) plans good;
      }

  -- The bytes that it makes
  abbrev m : List ℕ
  m = made written u B D starts

  m_bytes : AllBytes m
  m_bytes =
      let pos = c.b_inside.0 in
      let most = c.u_inside.1 in
      let each = each_map (Good u) AllBytes (record_for B) (λ p g. (written_bytes u B p.cut p.slots pos most g.0 g.1).0) plans good in
      all_made written u B D starts (rw records_front (flat_bytes records each))

  m_well : WellFormed m
  m_well = made_well written u B D starts starts_small closable

  m_looked : look m ≡ accepted
  m_looked = well_accepted m m_bytes m_well

  -- its record j is the one that was written
  m_record : (j : ℕ) → j < length plans → record_of m j ≡ get_or records j []
  unfolding closable m_well made_well
  m_record j l = record_is m m_well j (rw starts_many l)

  m_u : u_of m ≡ u
  unfolding m_well made_well
  m_u = well_u m m_well

  m_b : block_length m ≡ B
  unfolding m_well made_well
  m_b = well_b m m_well

  m_k : k_of m ≡ length plans
  unfolding m_well made_well
  m_k = well_k m m_well ∙ starts_many

  -- a record holds the slots that it was written from
  written_slots : (ps : List Plan) → Each (Good u) ps → (j : ℕ) → j < length ps → contents u B (get_or (map (record_for B) ps) j []) ≡ slots_of ps j
  written_slots [] g j l = absurd (omega arith)
  written_slots (p ∷ ps) g zero l = (written_held u B p.cut p.slots c.b_inside.0 c.u_inside.1 g.0.0 g.0.1).1
  written_slots (p ∷ ps) g (suc j) l = written_slots ps g.1 j (omega arith)

  m_held : (j : ℕ) → j < length plans → held m j ≡ slots_of plans j
  unfolding held
  m_held j l = rw (m_u, m_b, m_record j l) (written_slots plans good j l)

  m_holding : Holding u B plans m
  m_holding =
      record {
        bytes = m_bytes;
        well = m_well;
        looked = m_looked;
        u_is = m_u;
        b_is = m_b;
        k_is = m_k;
        record_planned = m_record;
        held_is = m_held;
        rising = c.rising;
      }

  -- CLOSING, with whatever answer and buffer keep its promise
  module _ (answer : Written) (after : List ℕ) (keeps : MeetsClose written u B D starts answer after) where
    -- it accepts
    pub close_number : answer.number ≡ 0
    close_number = looked_number written u B D starts answer after keeps roomy starts_small ∙ ap (λ (v : Verdict). v.number) m_looked

    -- with the place 0
    pub close_place : answer.place ≡ 0
    close_place = looked_place written u B D starts answer after keeps roomy starts_small ∙ ap (λ (v : Verdict). v.place) m_looked

    -- and answers the length of the index
    pub close_length : answer.length ≡ size_for B plans + 4 * length plans + 24
    close_length = accepted_length written u B D starts answer after keeps roomy starts_small close_number ∙ rw (starts_many, all_ran.size)

    -- behind which stands what stood there before
    pub close_behind : after ≡ take answer.length after ++ drop answer.length before
    close_behind =
        let l = close_length in
        let n = flat_length (record_for B) plans in
        let s = size_for B plans in
        let e : answer.length ≡ length (flatten records) + (4 * length plans + 24) = omega arith in
        let f : s + (4 * length plans + 24) ≡ answer.length = omega arith in
        let behind : drop answer.length written ≡ drop answer.length before
        = ap (drop answer.length) all_ran.bytes
        ∙ ap (λ (n : ℕ). drop n (flatten records ++ drop s before)) e
        ∙ drop-append-add (flatten records) (drop s before) (4 * length plans + 24)
        ∙ drop-drop (4 * length plans + 24) s before
        ∙ ap (λ (n : ℕ). drop n before) f in
        accepted_front written u B D starts answer after keeps roomy starts_small close_number
        ∙ rw (accepted_index written u B D starts answer after keeps roomy starts_small close_number, behind)

    -- the index is the records, and then the directory of their starts and the trailer
    pub index_is : take answer.length after ≡ flatten records ++ frame_bytes u B (length (flatten records)) (starts_from 0 records)
    index_is =
        accepted_index written u B D starts answer after keeps roomy starts_small close_number
        ∙ rw (records_front, all_ran.starts, records_long)

    -- and all is known of it that the lists say
    pub index_holding : Holding u B plans (take answer.length after)
    index_holding = rw (accepted_index written u B D starts answer after keeps roomy starts_small close_number) m_holding
