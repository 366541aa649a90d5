-- What is answered from the index of some lists, by their slots: questions, tests, next slots, counts and lent records; and that two indexes of the
-- same slots answer alike.
use Prim.Native.Nat.{ℕ, zero, suc, ◌≤◌, ◌<◌}
use mathlib.Core.Path.{◌≡◌, refl, sym, ap, subst, ◌∙◌}
use mathlib.Core.Bool.{true, true≢false}
use mathlib.Core.Logic.{◌↔◌}
use mathlib.Core.List.{List, [], ◌∷◌, map}
use native.Mathlib.Decide.{dec_lt, ℕ_discrete}
use native.Mathlib.Omega.{arith}
use lib.ListN.{length, get_or, take, length-map, get_or-eq_default}
use Rattle.paper.specs.Refusal.{accepted, fault12}
use Rattle.paper.specs.Held.{count_of}
use Rattle.paper.specs.Index.{k_of, record_of, held}
use Rattle.paper.specs.Look.{look}
use Rattle.paper.specs.Question.{smallest}
use Rattle.paper.specs.Ask.{named, room_needed, ask_fault, ask_answer, MeetsAsk}
use Rattle.paper.specs.OneList.{test_answer, next_answer, count_answer, lent}
use Rattle.paper.specs.declared.Verdict.{Verdict}
use Rattle.paper.specs.declared.Answer.{Answer}
use Rattle.laws.proofs.Lists.{In, has_in, in_at, Each, each_at, each_in, has_place}
use Rattle.laws.proofs.Links.{twelve}
use Rattle.laws.proofs.Questions.{Good, good_on}
use Rattle.meaning.proofs.Rising.{Ascends, in_rising}
use Rattle.promises.proofs.IndexRows.{Inside, NameAccepted}
use Rattle.promises.proofs.IndexReads.{well_u, well_k}
use Rattle.promises.proofs.AcceptedLists.{list_count}
use Rattle.promises.proofs.NextSlots.{NextOf}
use Rattle.promises.proofs.OperationNumbers.{name_table, test_table}
use Rattle.promises.proofs.OperationAnswers.{test_says, test_refusal, next_says, count_says, count_refusal, lent_record, lend_refusal}
use Rattle.promises.proofs.QuestionNumbers.{passed, fault_is, smallest_name, smallest_place, need_is, need_least}
use Rattle.promises.proofs.QuestionSlots.{ask_exactly, ask_rise, tells_slots}
use Rattle.promises.proofs.EndToRuns.{Plan, record_for, all_slots, slots_of, Allowed}
use Rattle.promises.proofs.EndToIndex.{Holding}

-- what is so at every place is so of each
each_of : (P : ℕ → Type 0) (xs : List ℕ) → ((i : ℕ) → i < length xs → P (get_or xs i 0)) → Each P xs
each_of P [] h = tt
each_of P (x ∷ xs) h = (h 0 (omega arith), each_of P xs (λ i l. h (suc i) (omega arith)))

-- past the last list there are no slots
slots_past : (plans : List Plan) (j : ℕ) → length plans ≤ j → slots_of plans j ≡ []
slots_past plans j l = get_or-eq_default (all_slots plans) [] {n = j} (rw length-map l)

-- the slots of each list rise
slots_rise : (u : ℕ) (plans : List Plan) → Each (λ (p : Plan). Ascends u 0 p.slots) plans → (j : ℕ) → Ascends u 0 (slots_of plans j)
slots_rise u [] e j = tt
slots_rise u (p ∷ plans) e zero = e.0
slots_rise u (p ∷ plans) e (suc j) = slots_rise u plans e.1 j

module _ {u B : ℕ} {plans : List Plan} {bs : List ℕ} (h : Holding u B plans bs) where
  -- looking accepts it
  pub looked_number : (look bs).number ≡ 0
  looked_number = ap (λ (v : Verdict). v.number) h.looked

  -- a list counts as many slots as it was written from
  pub counted : (n : ℕ) → n < length plans → count_of (record_of bs n) ≡ length (slots_of plans n)
  counted n l = sym (list_count bs looked_number n (rw h.k_is l)) ∙ ap length (h.held_is n l)

  -- QUESTIONS
  module _ (way : ℕ) (names : List ℕ) (room : ℕ) where
    -- an accepted question is allowed
    pub ask_allowed : (ask_answer bs way names room).number ≡ 0 → Allowed plans way names room
    unfolding ask_answer room_needed
    ask_allowed z =
        let p = passed bs way names room z in
        let g = p.good in
        let some = g.some in
        let below : Each (λ (n : ℕ). n < length plans) names = each_of _ names (rw h.k_is at g.below) in
        let at : (i : ℕ) → i < length names → count_of (record_of bs (get_or names i 0)) ≡ length (slots_of plans (get_or names i 0))
        = λ i l. counted _ (each_at (λ n. n < length plans) names below i l) in
        let need = need_is bs names some ∙ at _ (smallest_place bs names some) in
        record {
          known = g.known;
          number = (some, g.few);
          below = below;
          smallest = smallest_name bs names some;
          named = in_at names _ (smallest_place bs names some);
          least = λ n i. let q = has_place n names (has_in n names i) in rw (← need, ← q.2, ← at q.0 q.1) (need_least bs names some q.0 q.1);
          fits = rw (← need) p.fits;
        }

    -- and an allowed one is accepted
    ask_accepts : Allowed plans way names room → ask_fault bs way names room ≡ accepted
    unfolding room_needed
    ask_accepts a =
        let g : Good (k_of bs) way names
        = record { known = a.known; some = a.number.0; few = a.number.1; below = rw h.k_is (each_at (λ n. n < length plans) names a.below) } in
        let q = has_place a.smallest names (has_in a.smallest names a.named) in
        let l : smallest (named bs names) ≤ count_of (record_of bs a.smallest) = rw q.2 at (need_least bs names a.number.0 q.0 q.1) in
        let c = counted a.smallest (each_in (λ n. n < length plans) names a.below a.smallest a.named) in
        let f = a.fits in
        fault_is bs way names room looked_number
        ∙ good_on (k_of bs) way names (fault12 room (room_needed bs way names) accepted) g
        ∙ sym (twelve accepted room _ (omega arith) accepted refl)

  module _ (way : ℕ) (names before : List ℕ) (answer : Answer) (after : List ℕ) (m : MeetsAsk bs way names before answer after) where
    -- so it is of whatever answer keeps the promise
    pub asked_exactly_when : (answer.number ≡ 0) ↔ Allowed plans way names (length before)
    unfolding ask_answer
    asked_exactly_when = (
      λ z. ask_allowed way names (length before) (sym (ap (λ (a : Answer). a.number) m.answers) ∙ z),
      λ a. ap (λ (a : Answer). a.number) m.answers ∙ ap (λ (v : Verdict). v.number) (ask_accepts way names (length before) a),
    )

    module _ (ok : answer.number ≡ 0) where
      -- the question is accepted by the definition too
      pub asked_number : (ask_answer bs way names (length before)).number ≡ 0
      asked_number = sym (ap (λ (a : Answer). a.number) m.answers) ∙ ok

      held_named : (n : ℕ) → In n names → held bs n ≡ slots_of plans n
      held_named n i = h.held_is n (each_in (λ n. n < length plans) names (ask_allowed way names (length before) asked_number).below n i)

      -- the slots at the front are exactly those of every list named
      pub asked_exactly : (x : ℕ) → In x (take answer.count after) ↔ ((n : ℕ) → In n names → In x (slots_of plans n))
      asked_exactly x =
          let e = ask_exactly bs way names before asked_number x in
          rw (tells_slots bs way names before answer after m asked_number) (
            λ i n j. rw (held_named n j) at (e.0 i n j),
            λ f. e.1 (λ n j. rw (held_named n j) (f n j)),
          )

      -- and rise in 1..u
      pub asked_rise : Ascends u 0 (take answer.count after)
      asked_rise = rw (tells_slots bs way names before answer after m asked_number, ← h.u_is) (ask_rise bs way names before asked_number)

  -- TESTS, NEXT SLOTS, COUNTS AND LENT RECORDS
  module _ (name : ℕ) where
    name_accepted : name < length plans → NameAccepted bs name
    name_accepted l = record { well = h.well; below = rw (← well_k bs h.well, h.k_is) l }

    accepted_name : NameAccepted bs name → name < length plans
    accepted_name a = rw (← h.k_is, well_k bs a.well) a.below

    -- a count is accepted for each list that there is
    pub count_number : ((count_answer bs name).number ≡ 0) ↔ (name < length plans)
    unfolding count_answer
    count_number =
        let t = (name_table bs h.bytes name).accepts in
        (λ z. accepted_name (t.0 z), λ l. t.1 (name_accepted l))

    past : ¬ ((count_answer bs name).number ≡ 0) → length plans ≤ name
    past n =
        elim (dec_lt name (length plans)) [
          | yes l ↦ absurd (n (count_number.1 l))
          | no g ↦ omega arith
        ]

    -- and says how many slots it was written from; none of a list that there is not
    pub count_is : (count_answer bs name).count ≡ length (slots_of plans name)
    count_is =
        elim (ℕ_discrete (count_answer bs name).number 0) [
          | yes z ↦ count_says bs name z ∙ ap length (h.held_is name (count_number.0 z))
          | no n ↦ count_refusal bs name n ∙ ap length (sym (slots_past plans name (past n)))
        ]

    -- the bytes lent are those that were written; none of a list that there is not
    pub lent_is : lent bs name ≡ get_or (map (record_for B) plans) name []
    unfolding count_answer
    lent_is =
        elim (ℕ_discrete (count_answer bs name).number 0) [
          | yes z ↦ lent_record bs name z ∙ h.record_planned name (count_number.0 z)
          | no n ↦ lend_refusal bs name n ∙ sym (get_or-eq_default (map (record_for B) plans) [] {n = name} (rw length-map (past n)))
        ]

    module _ (slot : ℕ) where
      -- a test is accepted for each list that there is and each slot in 1..u
      pub test_number : ((test_answer bs name slot).number ≡ 0) ↔ ((name < length plans) × Inside 1 u slot)
      unfolding test_answer
      test_number =
          let t = (test_table bs h.bytes name slot).accepts in (
            λ z. let a = t.0 z in (accepted_name a.named, rw (← h.u_is, well_u bs a.named.well) a.inside),
            λ l. let a = name_accepted l.0 in t.1 (record { named = a; inside = rw (← well_u bs a.well, h.u_is) l.1 }),
          )

      -- and says yes exactly of the slots that the list was written from
      pub test_is : ((test_answer bs name slot).yes ≡ true) ↔ In slot (slots_of plans name)
      test_is = (forth (ℕ_discrete (test_answer bs name slot).number 0), back)
        where
          forth : Dec ((test_answer bs name slot).number ≡ 0) → (test_answer bs name slot).yes ≡ true → In slot (slots_of plans name)
          forth (yes z) y = rw (h.held_is name (test_number.0 z).0) at ((test_says bs name slot z).0 y)
          forth (no n) y = absurd (true≢false (sym y ∙ test_refusal bs name slot n))

          back : In slot (slots_of plans name) → (test_answer bs name slot).yes ≡ true
          back i =
              elim (dec_lt name (length plans)) [
                | no g ↦ elim (rw (slots_past plans name (omega arith)) at i) [ ]
                | yes l ↦
                    let z = test_number.1 (l, in_rising u 0 slot (slots_of plans name) (slots_rise u plans h.rising name) i) in
                    (test_says bs name slot z).1 (rw (h.held_is name l) i)
              ]

      -- [Order 8] telling the next slot is accepted for the same
      pub next_number : ((next_answer bs name slot).number ≡ 0) ↔ ((name < length plans) × Inside 1 u slot)
      unfolding next_answer test_answer
      next_number = test_number

      -- and tells the next one that the list was written from
      pub next_is : (next_answer bs name slot).number ≡ 0 → NextOf (λ z. In z (slots_of plans name)) slot (next_answer bs name slot).slot
      unfolding next_answer test_answer
      next_is z =
          subst (λ (xs : List ℕ). NextOf (λ z. In z xs) slot (next_answer bs name slot).slot) (h.held_is name (test_number.0 z).0) (next_says bs name slot z)
