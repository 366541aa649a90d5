-- [Order 8] Answers that keep the promise of telling the next slot: what they say, that they go with testing, and those of the tables.
use Prim.Native.Nat.{ℕ}
use mathlib.Core.Path.{◌≡◌, refl, sym, ap, ◌∙◌}
use mathlib.Core.Bool.{true}
use mathlib.Core.Logic.{◌↔◌}
use mathlib.Core.List.{List, [], ◌∷◌}
use native.Mathlib.Omega.{arith}
use lib.ListN.{get_or}
use borrow.Author.Tests.{eq-eqb}
use Rattle.paper.specs.Held.{listed}
use Rattle.paper.specs.Index.{u_of, block_length, record_of, held}
use Rattle.paper.specs.Walk.{tried}
use Rattle.paper.specs.OneList.{test_fault, test_answer, next_answer, MeetsTest, MeetsNext}
use Rattle.paper.specs.declared.Tested.{Tested}
use Rattle.paper.specs.declared.Next.{Next}
use Rattle.paper.proofs.Hex.{index}
use Rattle.paper.proofs.Open.{opened}
use Rattle.paper.proofs.Rows.{Row, holds}
use Rattle.paper.proofs.Rows.Row.{following}
use Rattle.paper.proofs.Readings.{readings}
use Rattle.laws.proofs.Lists.{In}
use Rattle.laws.proofs.Parts.{AllBytes}
use Rattle.laws.proofs.Equals.{same_true}
use Rattle.laws.proofs.Names.{placed}
use Rattle.meaning.proofs.Trying.{next_is}
use Rattle.promises.proofs.RecordRows.{Holds}
use Rattle.promises.proofs.IndexRows.{TestAccepted}
use Rattle.promises.proofs.NextSlots.{NextOf, next_itself}
use Rattle.promises.proofs.OperationAnswers.{test_says, next_says, next_tells, next_refusal}
use Rattle.promises.proofs.ExampleRows as rows
use Rattle.promises.proofs.ExampleRows.{EachRow}

module _ (bs : List ℕ) (name slot : ℕ) (told : Next) (m : MeetsNext bs name slot told) where
  number_is : told.number ≡ (test_fault bs name slot).number
  unfolding next_answer
  number_is = ap (λ (t : Next). t.number) m

  place_is : told.place ≡ (test_fault bs name slot).place
  unfolding next_answer
  place_is = ap (λ (t : Next). t.place) m

  slot_is : told.slot ≡ (next_answer bs name slot).slot
  slot_is = ap (λ (t : Next). t.slot) m

  -- accepted, the next slot held
  pub says : told.number ≡ 0 → NextOf (λ z. In z (held bs name)) slot told.slot
  says z = rw slot_is (next_says bs name slot (sym number_is ∙ z))

  -- by what is written
  pub tells : AllBytes bs → (a : TestAccepted bs name slot)
      → NextOf (Holds a.named.well.trailer.u a.named.well.trailer.B (get_or a.named.well.records name [])) slot told.slot
  tells all a = rw slot_is (next_tells bs name all slot a)

  -- and what the search answers
  pub by_search : told.number ≡ 0 → told.slot ≡ (tried (listed (u_of bs) (block_length bs) (record_of bs name)) 0 slot).slot
  unfolding next_answer held
  by_search z =
      let ok : (test_fault bs name slot).number ≡ 0 = sym number_is ∙ z in
      let w = placed bs name slot ok in
      let a = w.name_is.index in
      slot_is
      ∙ rw (eq-eqb (test_fault bs name slot).number 0 ok)
      (sym (next_is (u_of bs) (block_length bs) (record_of bs name) a.frame.some_b (a.lists name w.name_is.below) slot w.low))

  -- refused, none
  pub refusal : ¬ (told.number ≡ 0) → told.slot ≡ 0
  refusal n = slot_is ∙ next_refusal bs name slot (λ z. n (number_is ∙ z))

  -- beside a test of the same slot
  module _ (tested : Tested) (t : MeetsTest bs name slot tested) where
    test_number : tested.number ≡ (test_fault bs name slot).number
    unfolding test_answer
    test_number = ap (λ (t : Tested). t.number) t

    test_place : tested.place ≡ (test_fault bs name slot).place
    unfolding test_answer
    test_place = ap (λ (t : Tested). t.place) t

    yes_is : tested.number ≡ 0 → (tested.yes ≡ true) ↔ In slot (held bs name)
    yes_is z = rw t (test_says bs name slot (rw t at z))

    pub as_test : (told.number ≡ tested.number) × (told.place ≡ tested.place) × (told.number ≡ 0 → (told.slot ≡ slot) ↔ (tested.yes ≡ true))
    as_test = (
      number_is ∙ sym test_number,
      place_is ∙ sym test_place,
      λ z.
          let i = next_itself (λ z. In z (held bs name)) slot told.slot (placed bs name slot (sym number_is ∙ z)).low (says z) in
          let y = yes_is (test_number ∙ sym number_is ∙ z) in
          (λ e. y.1 (i.0 e), λ e. i.1 (y.0 e)),
    )

-- the three numbers of an answer, in the order in which the tables print them
abbrev numbers_of : Next → List ℕ
numbers_of t = t.number ∷ t.place ∷ t.slot ∷ []

-- what a row of the tables says here
abbrev pub Shown : Row → Type 0
Shown row =
    (bs : List ℕ) (name slot : ℕ) (numbers : List ℕ) → row ≡ following bs name slot numbers → (told : Next) → MeetsNext bs name slot told
    → numbers_of told ≡ numbers

following_shown : (bs : List ℕ) (name slot : ℕ) (numbers : List ℕ) → holds (following bs name slot numbers) ≡ true
    → (told : Next) → MeetsNext bs name slot told → numbers_of told ≡ numbers
unfolding holds
following_shown bs name slot numbers h told m = ap numbers_of m ∙ same_true _ numbers h

row_shown : (row : Row) → holds row ≡ true → Shown row
row_shown row h bs name slot numbers e = following_shown bs name slot numbers (rw e at h)

-- all of them
pub readings_shown : EachRow Shown readings
readings_shown = rows.all_readings Shown row_shown

-- what the definitions give for slots 9 and 5 of list 0
given : ((next_answer index 0 9).slot ≡ 12) × ((next_answer index 0 5).slot ≡ 5)
unfolding opened
given = (refl, refl)

-- so they differ
pub differs : ¬ ((next_answer index 0 9).slot ≡ (next_answer index 0 5).slot)
differs e = let z : ◌≡◌ {A = ℕ} 12 5 = sym given.0 ∙ e ∙ given.1 in omega arith

-- and the first is neither 9 nor 10
pub not_beside : (told : Next) → MeetsNext index 0 9 told → (¬ (told.slot ≡ 9)) × (¬ (told.slot ≡ 10))
not_beside told m =
    let e = ap (λ (t : Next). t.slot) m ∙ given.0 in
    (λ i. let z : ◌≡◌ {A = ℕ} 12 9 = sym e ∙ i in omega arith, λ i. let z : ◌≡◌ {A = ℕ} 12 10 = sym e ∙ i in omega arith)
