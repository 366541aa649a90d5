-- What is answered: an accepted question has exactly the slots that every list named holds, in rising order, at the front of the slice, and 0
-- behind them; a refused one leaves everything as it was.
use Prim.Native.Nat.{ℕ, ◌+◌, ◌-◌, ◌≤◌, ◌<◌}
use mathlib.Core.Path.{◌≡◌, refl, sym, ap, ◌∙◌}
use mathlib.Core.Bool.{true, and-eq-true_iff}
use mathlib.Core.Logic.{◌↔◌}
use mathlib.Core.List.{List, [], ◌∷◌, ◌++◌, map}
use native.Mathlib.Omega.{arith}
use lib.ListN.{length, get_or, replicate, take, drop, length-append, length-map, length-replicate, get_or-replicate, get_or-append}
use lib.Seq.{get_or-append-add, take-append_seam}
use borrow.Author.Tests.{eq-eqb, ne_eqb}
use Rattle.paper.specs.Lists.{has, total, up_from}
use Rattle.paper.specs.Held.{contents}
use Rattle.paper.specs.Index.{u_of, block_length, held}
use Rattle.paper.specs.Question.{in_all, common_slots, in_order, charged_at, places}
use Rattle.paper.specs.Ask.{named, room_needed, ask_fault, answer_slots, ask_answer, ask_slice, MeetsAsk}
use Rattle.paper.specs.declared.Verdict.{Verdict}
use Rattle.paper.specs.declared.Answer.{Answer}
use Rattle.laws.proofs.Lists.{In, has_in, in_has, each_in, keep_length}
use Rattle.laws.proofs.Lists.In.{here, there}
use Rattle.laws.proofs.Parts.{AllBytes}
use Rattle.laws.proofs.Frames.{looked}
use Rattle.meaning.proofs.Rising.{Ascends}
use Rattle.meaning.proofs.Walking.{passed_all, named_sound}
use Rattle.meaning.proofs.Common.{common_has, slots_rise, from_the_smallest, smallest_count}
use Rattle.promises.proofs.IndexRows.{WellFormed}
use Rattle.promises.proofs.IndexReads.{well_u}
use Rattle.promises.proofs.AcceptedLists.{well_holds}
use Rattle.promises.proofs.AskRows.{Stands, AskAccepted}
use Rattle.promises.proofs.QuestionNumbers.{Passed, passed, ask_passes}

-- x stands in the lists of all these names
module _ (bs : List ℕ) (x : ℕ) where
  abbrev lists : List ℕ → List (List ℕ)
  lists names = map (contents (u_of bs) (block_length bs)) (named bs names)

  all_in : (names : List ℕ) → in_all (lists names) x ≡ true → (n : ℕ) → In n names → In x (held bs n)
  unfolding in_all held
  all_in [] h n x3 = elim x3 [ ]
  all_in (m ∷ names) h n (here e) = in_has x (held bs n) (rw e ((and-eq-true_iff (has x (held bs m)) (in_all (lists names) x)).0 h).0)
  all_in (m ∷ names) h n (there i) = all_in names ((and-eq-true_iff (has x (held bs m)) (in_all (lists names) x)).0 h).1 n i

  in_each_list : (names : List ℕ) → ((n : ℕ) → In n names → In x (held bs n)) → in_all (lists names) x ≡ true
  unfolding in_all held
  in_each_list [] h = refl
  in_each_list (m ∷ names) h = (and-eq-true_iff (has x (held bs m)) (in_all (lists names) x)).1 (has_in x (held bs m) (h m (here refl)), in_each_list names λ n i. h n (there i))

  -- which are exactly those of the answer, where there is a name
  common_exactly : (names : List ℕ) → 1 ≤ length names → In x (answer_slots bs names) ↔ ((n : ℕ) → In n names → In x (held bs n))
  unfolding answer_slots common_slots
  common_exactly [] l = absurd (omega arith)
  common_exactly (m ∷ names) l = (
    λ i. all_in (m ∷ names) (sym (common_has _ (lists names) x) ∙ has_in x _ i),
    λ h. in_has x _ (common_has _ (lists names) x ∙ in_each_list (m ∷ names) h),
  )

module _ (bs : List ℕ) (way : ℕ) (names before : List ℕ) where
  -- ACCEPTED
  module _ (ok : (ask_answer bs way names (length before)).number ≡ 0) where
    all_passed : Passed bs way names (length before)
    unfolding ask_answer
    all_passed = passed bs way names (length before) ok

    -- the answer has exactly the slots that each list named holds
    pub ask_exactly : (x : ℕ) → In x (answer_slots bs names) ↔ ((n : ℕ) → In n names → In x (held bs n))
    ask_exactly x = common_exactly bs x names all_passed.good.some

    -- they rise in 1..u
    pub ask_rise : Ascends (u_of bs) 0 (answer_slots bs names)
    unfolding answer_slots
    ask_rise =
        let p = all_passed in
        slots_rise (u_of bs) (block_length bs) (looked bs p.looked).frame.some_b (named bs names) (named_sound bs names (looked bs p.looked) p.good.below)

    -- there is room for them
    ask_room : length (answer_slots bs names) ≤ length before
    unfolding answer_slots room_needed
    ask_room =
        let p = all_passed in
        let pos = (looked bs p.looked).frame.some_b in
        let sound = named_sound bs names (looked bs p.looked) p.good.below in
        let some : 0 < length (named bs names) = rw length-map p.good.some in
        let c = smallest_count (u_of bs) (block_length bs) pos (named bs names) sound some in
        let ls = map (contents (u_of bs) (block_length bs)) (drop 1 (in_order (named bs names))) in
        let k = keep_length (in_all ls) (contents (u_of bs) (block_length bs) (get_or (in_order (named bs names)) 0 [])) in
        let e = sym (passed_all ls _) ∙ from_the_smallest (u_of bs) (block_length bs) pos (named bs names) sound some in
        let h = p.fits in
        let l = rw (e, ← c) at k in
        omega arith

    -- and the count says how many
    pub ask_count : (ask_answer bs way names (length before)).count ≡ length (answer_slots bs names)
    unfolding ask_answer
    ask_count = rw (eq-eqb (ask_fault bs way names (length before)).number 0 ok)

    -- The slice afterwards: the slots, and 0 at every place behind
    pub slice_is : ask_slice bs way names before ≡ answer_slots bs names ++ replicate (length before - length (answer_slots bs names)) 0
    unfolding ask_slice ask_answer
    slice_is = rw (eq-eqb (ask_fault bs way names (length before)).number 0 ok)

    -- as long as it was
    pub slice_length : length (ask_slice bs way names before) ≡ length before
    slice_length = let r = ask_room in rw (slice_is, length-append, length-replicate) (omega arith)

    -- the slots at the front
    pub slice_front : (i : ℕ) → i < (ask_answer bs way names (length before)).count → get_or (ask_slice bs way names before) i 0 ≡ get_or (answer_slots bs names) i 0
    slice_front i l = rw slice_is (get_or-append (answer_slots bs names) _ 0 i (rw ask_count at l))

    -- and 0 behind
    pub slice_behind : (i : ℕ) → (ask_answer bs way names (length before)).count ≤ i → i < length before → get_or (ask_slice bs way names before) i 0 ≡ 0
    slice_behind i l h =
        let n = length (answer_slots bs names) in
        let c : n ≤ i = rw ask_count at l in
        let e : n + (i - n) ≡ i = omega arith in
        let z = get_or-append-add (answer_slots bs names) (replicate (length before - n) 0) (i - n) 0 in
        rw slice_is (rw e at z ∙ get_or-replicate (length before - n) (i - n) 0 0 (omega arith))

    -- so the slots of the answer are what stands at the front
    slice_take : take (ask_answer bs way names (length before)).count (ask_slice bs way names before) ≡ answer_slots bs names
    slice_take = rw (ask_count, slice_is) (take-append_seam (answer_slots bs names) _)

  -- BY ANY ANSWER and slice that keep the promise of an accepted question
  module _ (answer : Answer) (after : List ℕ) (m : MeetsAsk bs way names before answer after) (ok : (ask_answer bs way names (length before)).number ≡ 0) where
    -- the slots of the answer stand at the front, as many as the count says
    pub tells_slots : take answer.count after ≡ answer_slots bs names
    tells_slots = rw (m.answers, m.leaves) (slice_take ok)

    -- at most as many as there is room for
    pub tells_room : answer.count ≤ length after
    tells_room = rw (m.answers, m.leaves, ask_count ok, slice_length ok) (ask_room ok)

    -- with 0 behind them
    pub tells_behind : (i : ℕ) → answer.count ≤ i → i < length before → get_or after i 0 ≡ 0
    tells_behind i l h = rw m.leaves (slice_behind ok i (rw m.answers at l) h)

    -- in a slice as long as it was
    pub tells_length : length after ≡ length before
    tells_length = rw m.leaves (slice_length ok)

  -- and BY WHAT IS WRITTEN in the index, where no row refuses it
  module _ (all : AllBytes bs) (a : AskAccepted bs way names (length before)) where
    abbrev w : WellFormed bs
    w = a.named.askable.well

    -- it is accepted
    pub accepted_number : (ask_answer bs way names (length before)).number ≡ 0
    unfolding ask_answer
    accepted_number = ap (λ (v : Verdict). v.number) (ask_passes bs all way names (length before) a)

    name_below : (n : ℕ) → In n names → n < w.trailer.k
    name_below n i = each_in (λ n. n < w.trailer.k) names a.named.below n i

    module _ (answer : Answer) (after : List ℕ) (m : MeetsAsk bs way names before answer after) where
      -- the slots at the front are exactly those that the bytes of each record named hold
      pub tells_exactly : (x : ℕ) → In x (take answer.count after) ↔ ((n : ℕ) → In n names → Stands w n x)
      tells_exactly x =
          let e = common_exactly bs x names a.named.askable.number.0 in
          rw (tells_slots answer after m accepted_number) (
            λ i n j. (well_holds bs all w n (name_below n j) x).0 (e.0 i n j),
            λ h. e.1 (λ n j. (well_holds bs all w n (name_below n j) x).1 (h n j)),
          )

      -- they rise in 1..u
      pub tells_rise : Ascends w.trailer.u 0 (take answer.count after)
      tells_rise = rw (tells_slots answer after m accepted_number, ← well_u bs w) (ask_rise accepted_number)

  -- REFUSED: no counts, and the slice as it was
  abbrev Nothing : Type 0
  Nothing =
      ((ask_answer bs way names (length before)).count ≡ 0) × ((ask_answer bs way names (length before)).looks ≡ 0)
      × ((ask_answer bs way names (length before)).codes ≡ 0) × ((ask_answer bs way names (length before)).looks16 ≡ replicate 16 0)
      × ((ask_answer bs way names (length before)).codes16 ≡ replicate 16 0) × (ask_slice bs way names before ≡ before)

  -- nothing is answered and nothing is written
  pub ask_refusal : ¬ ((ask_answer bs way names (length before)).number ≡ 0) → Nothing
  unfolding ask_answer ask_slice total places charged_at up_from
  ask_refusal n = rw (ne_eqb (ask_fault bs way names (length before)).number 0 n) (refl, refl, refl, refl, refl, refl)
