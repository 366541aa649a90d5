-- The answers of the operations on one list: what an accepted test, next slot, count and lent record say, and what a refusing answer holds.
use Prim.Native.Nat.{ℕ, ◌+◌, ◌≤◌}
use mathlib.Core.Path.{◌≡◌, refl, sym, ap, ◌∙◌}
use mathlib.Core.Bool.{true, false}
use mathlib.Core.Logic.{◌↔◌}
use mathlib.Core.List.{List, [], flatten}
use native.Mathlib.Decide.{ℕ_discrete}
use native.Mathlib.Omega.{arith}
use lib.ListN.{length, get_or, take, drop}
use borrow.Author.Tests.{eq-eqb, ne_eqb}
use Rattle.paper.specs.Index.{u_of, start_of, record_of, held}
use Rattle.paper.specs.OneList.{name_fault, test_fault, test_answer, next_answer, count_answer, lent, part_answer}
use Rattle.paper.specs.declared.Verdict.{Verdict}
use Rattle.laws.proofs.Lists.{In, has_exactly}
use Rattle.laws.proofs.Parts.{AllBytes, length_part}
use Rattle.laws.proofs.Frames.{start_apart, start_within}
use Rattle.laws.proofs.Names.{named, placed}
use Rattle.promises.proofs.RecordRows.{Holds}
use Rattle.promises.proofs.IndexRows.{NameAccepted, TestAccepted, Counts}
use Rattle.promises.proofs.IndexRecords.{record_is, start_is}
use Rattle.promises.proofs.AcceptedLists.{list_rise, list_count, well_holds, well_counts}
use Rattle.promises.proofs.NextSlots.{NextOf, next_same, first_next}
use Rattle.promises.proofs.OperationNumbers.{name_passes, test_passes}

module _ (bs : List ℕ) (name : ℕ) where
  -- Testing: accepted, it says whether the slot is held
  pub test_says : (slot : ℕ) → (test_answer bs name slot).number ≡ 0 → ((test_answer bs name slot).yes ≡ true) ↔ In slot (held bs name)
  unfolding test_answer
  test_says slot ok = rw (eq-eqb (test_fault bs name slot).number 0 ok) (has_exactly slot (held bs name))

  test_number : (slot : ℕ) → (test_answer bs name slot).number ≡ (test_fault bs name slot).number
  unfolding test_answer
  test_number slot = refl

  -- and so, whether the record that was written there holds it
  pub test_tells : AllBytes bs → (slot : ℕ) (a : TestAccepted bs name slot)
      → ((test_answer bs name slot).yes ≡ true) ↔ Holds a.named.well.trailer.u a.named.well.trailer.B (get_or a.named.well.records name []) slot
  test_tells all slot a =
      let s = test_says slot (test_number slot ∙ ap (λ (v : Verdict). v.number) (test_passes bs all name slot a)) in
      let h = well_holds bs all a.named.well name a.named.below slot in
      (λ y. h.0 (s.0 y), λ y. s.1 (h.1 y))

  -- refused, it says no
  pub test_refusal : (slot : ℕ) → ¬ ((test_answer bs name slot).number ≡ 0) → (test_answer bs name slot).yes ≡ false
  unfolding test_answer
  test_refusal slot n = rw (ne_eqb (test_fault bs name slot).number 0 n)

  -- [Order 8] Telling the next slot: accepted, it is the next one held
  pub next_says : (slot : ℕ) → (test_fault bs name slot).number ≡ 0 → NextOf (λ z. In z (held bs name)) slot (next_answer bs name slot).slot
  unfolding next_answer
  next_says slot ok =
      let w = placed bs name slot ok in
      rw (eq-eqb (test_fault bs name slot).number 0 ok)
      (first_next (u_of bs) 0 slot (held bs name) w.low (list_rise bs w.name_is.looked name w.name_is.below))

  -- and so, the next one that the record that was written there holds
  pub next_tells : AllBytes bs → (slot : ℕ) (a : TestAccepted bs name slot)
      → NextOf (Holds a.named.well.trailer.u a.named.well.trailer.B (get_or a.named.well.records name [])) slot (next_answer bs name slot).slot
  next_tells all slot a =
      next_same _ _ (well_holds bs all a.named.well name a.named.below) slot _
      (next_says slot (ap (λ (v : Verdict). v.number) (test_passes bs all name slot a)))

  -- refused, it is 0
  pub next_refusal : (slot : ℕ) → ¬ ((test_fault bs name slot).number ≡ 0) → (next_answer bs name slot).slot ≡ 0
  unfolding next_answer
  next_refusal slot n = rw (ne_eqb (test_fault bs name slot).number 0 n)

  -- Counting: accepted, it says how many slots are held
  pub count_says : (count_answer bs name).number ≡ 0 → (count_answer bs name).count ≡ length (held bs name)
  unfolding count_answer
  count_says ok = let w = named bs name ok in rw (eq-eqb (name_fault bs name).number 0 ok) (sym (list_count bs w.looked name w.below))

  -- and so, how many the record that was written there holds
  pub count_tells : AllBytes bs → (a : NameAccepted bs name)
      → Counts a.well.trailer.u (Holds a.well.trailer.u a.well.trailer.B (get_or a.well.records name [])) (count_answer bs name).count
  unfolding count_answer
  count_tells all a =
      let ok = ap (λ (v : Verdict). v.number) (name_passes bs all name a) in
      rw (eq-eqb (name_fault bs name).number 0 ok) (well_counts bs all a.well name a.below)

  -- refused, it says none
  pub count_refusal : ¬ ((count_answer bs name).number ≡ 0) → (count_answer bs name).count ≡ 0
  unfolding count_answer
  count_refusal n = rw (ne_eqb (name_fault bs name).number 0 n)

  -- Lending: accepted, the record is lent
  pub lent_record : (name_fault bs name).number ≡ 0 → lent bs name ≡ record_of bs name
  unfolding lent
  lent_record ok = rw (eq-eqb (name_fault bs name).number 0 ok)

  -- as it was written
  pub lend_says : AllBytes bs → (a : NameAccepted bs name) → lent bs name ≡ get_or a.well.records name []
  lend_says all a = lent_record (ap (λ (v : Verdict). v.number) (name_passes bs all name a)) ∙ record_is bs a.well name a.below

  -- refused, nothing is lent
  pub lend_refusal : ¬ ((name_fault bs name).number ≡ 0) → lent bs name ≡ []
  unfolding lent
  lend_refusal n = rw (ne_eqb (name_fault bs name).number 0 n)

  -- and only then: a record has 12 bytes at least
  pub lend_some : (name_fault bs name).number ≡ 0 → ¬ (lent bs name ≡ [])
  lend_some ok e =
      let w = named bs name ok in
      let b = w.below in
      let long = start_apart bs w.index.frame name b in
      let size = length_part bs (start_of bs name) (start_of bs (name + 1)) (start_within bs w.index.frame (name + 1) (omega arith)) in
      let z : length (record_of bs name) ≡ 0 = ap length (sym (lent_record ok) ∙ e) in
      omega arith

  -- Telling where the lent record lies: accepted or refused, what is lent lies there
  pub part_says : lent bs name ≡ take (part_answer bs name).length (drop (part_answer bs name).start bs)
  unfolding lent part_answer
  part_says = go (ℕ_discrete (name_fault bs name).number 0)
    where
      go : Dec ((name_fault bs name).number ≡ 0) → lent bs name ≡ take (part_answer bs name).length (drop (part_answer bs name).start bs)
      go (yes e) = rw (eq-eqb (name_fault bs name).number 0 e)
      go (no n) = rw (ne_eqb (name_fault bs name).number 0 n)

  -- within the index, and is as long as it says
  abbrev Fits : Type 0
  Fits = ((part_answer bs name).start + (part_answer bs name).length ≤ length bs) × (length (lent bs name) ≡ (part_answer bs name).length)

  -- always
  pub part_fits : Fits
  unfolding lent part_answer
  part_fits = go (ℕ_discrete (name_fault bs name).number 0)
    where
      go : Dec ((name_fault bs name).number ≡ 0) → Fits
      go (no n) = rw (ne_eqb (name_fault bs name).number 0 n) (omega arith, refl)
      go (yes e) =
          let w = named bs name e in
          let b = w.below in
          let long = start_apart bs w.index.frame name b in
          let inside = start_within bs w.index.frame (name + 1) (omega arith) in
          rw (eq-eqb (name_fault bs name).number 0 e) (omega arith, length_part bs (start_of bs name) (start_of bs (name + 1)) inside)

  -- refused, its start and length are 0
  pub part_refusal : ¬ ((part_answer bs name).number ≡ 0) → ((part_answer bs name).start ≡ 0) × ((part_answer bs name).length ≡ 0)
  unfolding part_answer
  part_refusal n = rw (ne_eqb (name_fault bs name).number 0 n) (refl, refl)

  part_start : (name_fault bs name).number ≡ 0 → (part_answer bs name).start ≡ start_of bs name
  unfolding part_answer
  part_start ok = rw (eq-eqb (name_fault bs name).number 0 ok)

  -- accepted, it lies behind the records before it, and is as long as the record that was written
  pub part_is : AllBytes bs → (a : NameAccepted bs name)
      → ((part_answer bs name).start ≡ length (flatten (take name a.well.records))) × ((part_answer bs name).length ≡ length (get_or a.well.records name []))
  part_is all a =
      let ok = ap (λ (v : Verdict). v.number) (name_passes bs all name a) in
      (part_start ok ∙ start_is bs a.well name a.below, sym part_fits.1 ∙ ap length (lend_says all a))

  -- the same number and place as counting
  pub part_number : ((part_answer bs name).number ≡ (count_answer bs name).number) × ((part_answer bs name).place ≡ (count_answer bs name).place)
  unfolding part_answer count_answer
  part_number = (refl, refl)
