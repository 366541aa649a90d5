-- [Order 8] WHAT IS PROMISED of telling the next slot of a list. Every statement has a name and its meaning in plain words; the line behind it is its
-- proof, which cites other files. The rows that refuse are those of testing a slot, in IndexRows; what the next one of some slots is says NextSlots
-- (NextOf). Beside these files a reader needs, of crate paper, what a list holds, what is answered, and the search (Held, Index, OneList, Walk). How the
-- search comes to the next slot, and that looks and codes are those of the paper, is in Searching.
use Prim.Native.Nat.{ℕ}
use mathlib.Core.Path.{◌≡◌, refl, sym, ◌∙◌}
use mathlib.Core.Bool.{true}
use mathlib.Core.Logic.{◌↔◌}
use mathlib.Core.List.{List, []}
use lib.ListN.{get_or}
use Rattle.paper.specs.Held.{listed}
use Rattle.paper.specs.Index.{u_of, block_length, record_of, held}
use Rattle.paper.specs.Walk.{tried}
use Rattle.paper.specs.OneList.{next_answer, MeetsTest, MeetsNext}
use Rattle.paper.specs.declared.Tested.{Tested}
use Rattle.paper.specs.declared.Next.{Next}
use Rattle.paper.proofs.Hex.{index}
use Rattle.paper.proofs.Open.{opened}
use Rattle.paper.proofs.Readings.{readings}
use Rattle.laws.proofs.Lists.{In}
use Rattle.laws.proofs.Parts.{AllBytes}
use Rattle.promises.proofs.RecordRows.{Holds}
use Rattle.promises.proofs.IndexRows.{TestRefused, TestAccepted, ByTheTable}
use Rattle.promises.proofs.NextSlots.{NextOf, next_one}
use Rattle.promises.proofs.OperationNumbers as operations
use Rattle.promises.proofs.NextAnswers as answers
use Rattle.promises.proofs.NextAnswers.{Shown}
use Rattle.promises.proofs.ExampleRows.{EachRow}
use Rattle.promises.proofs.UselessPrograms.{refusing_fails, same_fails}

-- of every answer that keeps the promise, to any bytes, name and slot
abbrev pub OfNexts : (List ℕ → ℕ → ℕ → Next → Type 0) → Type 0
OfNexts P = (bs : List ℕ) (name slot : ℕ) (told : Next) → MeetsNext bs name slot told → P bs name slot told

-- THE TABLE READ AS CONDITIONS

-- It has the number and the place of the row that refuses the index, the name or the slot, and accepts exactly where none does.
abbrev pub NextByTheTable : Type 0
NextByTheTable =
    OfNexts λ bs name slot told. AllBytes bs → ByTheTable told.number told.place (TestRefused bs name slot) (TestAccepted bs name slot)

pub next_by_the_table : NextByTheTable
unfolding next_answer
next_by_the_table bs name slot told m all = rw m (operations.test_table bs all name slot)

-- WHAT IS TOLD

-- Accepted, it is the least slot that the list holds and that is not below the one asked from; and 0 exactly where the list holds none from there on.
abbrev pub NextSays : Type 0
NextSays = OfNexts λ bs name slot told. told.number ≡ 0 → NextOf (λ z. In z (held bs name)) slot told.slot

pub next_says : NextSays
next_says = answers.says

-- That is: the least slot that the bytes of the record that was written there hold.
abbrev pub NextTells : Type 0
NextTells =
    OfNexts λ bs name slot told.
    AllBytes bs → (a : TestAccepted bs name slot)
    → NextOf (Holds a.named.well.trailer.u a.named.well.trailer.B (get_or a.named.well.records name [])) slot told.slot

pub next_tells : NextTells
next_tells = answers.tells

-- It is what the one search of the questions answers, from finger 0.
abbrev pub NextSearched : Type 0
NextSearched =
    OfNexts λ bs name slot told.
    told.number ≡ 0 → told.slot ≡ (tried (listed (u_of bs) (block_length bs) (record_of bs name)) 0 slot).slot

pub next_searched : NextSearched
next_searched = answers.by_search

-- One slot is the next one, whatever is said of slots: no two are.
abbrev pub NextOnly : Type 1
NextOnly = (P : ℕ → Type 0) (x y z : ℕ) → NextOf P x y → NextOf P x z → y ≡ z

pub next_only : NextOnly
next_only = next_one

-- Testing the same slot has the same number and place, and where they accept it says yes exactly when the slot asked from is told: x itself counts.
abbrev pub NextAndTest : Type 0
NextAndTest =
    OfNexts λ bs name slot told.
    (tested : Tested) → MeetsTest bs name slot tested
    → (told.number ≡ tested.number) × (told.place ≡ tested.place) × (told.number ≡ 0 → (told.slot ≡ slot) ↔ (tested.yes ≡ true))

pub next_and_test : NextAndTest
next_and_test = answers.as_test

-- REFUSAL

-- Refused, it tells slot 0.
abbrev pub NextRefusal : Type 0
NextRefusal = OfNexts λ bs name slot told. ¬ (told.number ≡ 0) → told.slot ≡ 0

pub next_refusal : NextRefusal
next_refusal = answers.refusal

-- All of it by the rows alone: what a row refuses has the number and the place of that row, and slot 0.
abbrev pub NextRefuses : Type 0
NextRefuses =
    OfNexts λ bs name slot told.
    AllBytes bs → (r p : ℕ) → TestRefused bs name slot r p → (told.number ≡ r) × (told.place ≡ p) × (told.slot ≡ 0)

pub next_refuses : NextRefuses
next_refuses bs name slot told m all r p t =
    let g = ((next_by_the_table bs name slot told m all).refuses r p).1 t in
    (g.0, g.1, next_refusal bs name slot told m (λ z. g.2 (sym g.0 ∙ z)))

-- ONE ANSWER

-- Any two answers that keep the promise are the same.
abbrev pub NextOne : Type 0
NextOne = (bs : List ℕ) (name slot : ℕ) (s t : Next) → MeetsNext bs name slot s → MeetsNext bs name slot t → s ≡ t

pub next_answer_one : NextOne
next_answer_one bs name slot s t a b = a ∙ sym b

-- EXAMPLES

-- Whatever keeps the promise has the numbers that are printed in the table of the further examples.
abbrev pub TableNexts : Type 0
TableNexts = EachRow Shown readings

pub table_nexts : TableNexts
table_nexts = answers.readings_shown

-- NO USELESS PROGRAM

-- One that refuses everything breaks the promise at the paper's list 0 and slot 9.
abbrev pub NextNotRefusing : Type 0
NextNotRefusing = (told : Next) → ¬ (told.number ≡ 0) → ¬ (MeetsNext index 0 9 told)

pub next_not_refusing : NextNotRefusing
unfolding opened
next_not_refusing = refusing_fails (λ (t : Next). t.number) (next_answer index 0 9) refl

-- One that always tells the same, none for instance, breaks it there, where 12 is told, or at slot 5, where 5 is.
abbrev pub NextNotOneAnswer : Type 0
NextNotOneAnswer = (told : Next) → ¬ (MeetsNext index 0 9 told × MeetsNext index 0 5 told)

pub next_not_one_answer : NextNotOneAnswer
next_not_one_answer = same_fails (λ (t : Next). t.slot) _ _ answers.differs

-- And so does one that tells the slot that it is asked from, or the one behind it.
abbrev pub NextNotBeside : Type 0
NextNotBeside = (told : Next) → MeetsNext index 0 9 told → (¬ (told.slot ≡ 9)) × (¬ (told.slot ≡ 10))

pub next_not_beside : NextNotBeside
next_not_beside = answers.not_beside
