-- WHAT IS PROMISED FROM END TO END: lists that are written one after the other and then closed make an index, and what is asked of it is answered by
-- the slots that were given. Every statement has a name and its meaning in plain words; the line behind it is its proof, which cites other files. What
-- a list to be packed is (`Plan`), the calls that write them (`Wrote`, `starts_by`, `total_by`), and the conditions (`Packable`, `Allowed`) are in EndToRuns;
-- `slots_of plans j` there are the slots of list j. Beside these a reader needs, of crate paper, the promises of the calls: MeetsWrite, MeetsClose, MeetsAsk,
-- MeetsTest, MeetsNext, MeetsCount and MeetsLend. `NextOf`, the next one of some slots, is in NextSlots. Of an answer nothing is known but that it keeps its promise: so what is said here holds of every program that keeps
-- them. `Each P xs`: P holds of each of xs. `In x xs`: x is one of the list xs. `Ascends u p xs`: xs rises strictly, above p and up to u. `starts_from a rs`:
-- where the records rs start that lie one behind the other from position a on.
use Prim.Native.Nat.{ℕ, ◌+◌, ◌*◌, ◌≤◌, ◌<◌}
use mathlib.Core.Path.{◌≡◌, ◌∙◌}
use mathlib.Core.Bool.{true}
use mathlib.Core.Logic.{◌↔◌}
use mathlib.Core.List.{List, [], ◌++◌, map, flatten}
use lib.ListN.{length, get_or, take, drop}
use Rattle.paper.specs.Refusal.{verdict}
use Rattle.paper.specs.Index.{u_of, block_length, k_of, held}
use Rattle.paper.specs.Look.{look}
use Rattle.paper.specs.Ask.{MeetsAsk}
use Rattle.paper.specs.OneList.{MeetsTest, MeetsNext, MeetsCount, MeetsLend}
use Rattle.paper.specs.Close.{MeetsClose}
use Rattle.paper.specs.declared.Written.{Written}
use Rattle.paper.specs.declared.Answer.{Answer}
use Rattle.paper.specs.declared.Tested.{Tested}
use Rattle.paper.specs.declared.Next.{Next}
use Rattle.paper.specs.declared.Counted.{Counted}
use Rattle.paper.proofs.Hex.{index}
use Rattle.laws.proofs.Lists.{In, Each}
use Rattle.meaning.proofs.Rising.{Ascends}
use Rattle.promises.proofs.IndexRows.{Inside, starts_from}
use Rattle.promises.proofs.Questions.{index_of}
use Rattle.promises.proofs.QuestionSlots.{tells_room, tells_behind, tells_length}
use Rattle.promises.proofs.NextSlots.{NextOf}
use Rattle.promises.proofs.EndToRuns.{Plan, record_for, size_for, all_slots, slots_of, Wrote, starts_by, total_by, Packable, Allowed}
use Rattle.promises.proofs.EndToWrites as writes
use Rattle.promises.proofs.EndToIndex as indexes
use Rattle.promises.proofs.EndToAnswers as answers
use Rattle.promises.proofs.EndToPackings as packings
use Rattle.promises.proofs.EndToExamples as examples
use Rattle.promises.proofs.EndToExamples.{paper_plans}

-- of whatever calls write some lists that fit the conditions, one after the other from the start of a buffer
abbrev pub OfRuns : (ℕ → ℕ → List Plan → List ℕ → List Written → List ℕ → Type 0) → Type 0
OfRuns P =
    (u B : ℕ) (plans : List Plan) (before : List ℕ) → Packable u B plans (length before) → (told : List Written) (written : List ℕ)
    → Wrote u B 0 plans before told written → P u B plans before told written

-- and of whatever call closes them then, with the total and the starts that the answers told
abbrev pub OfClosed : (ℕ → ℕ → List Plan → List ℕ → Written → List ℕ → Type 0) → Type 0
OfClosed P =
    OfRuns λ u B plans before told written.
    (closed : Written) (after : List ℕ) → MeetsClose written u B (total_by told) (starts_by 0 told) closed after → P u B plans before closed after

-- and of the index that is so made: as many bytes from the start of the buffer as closing says
abbrev pub OfIndexes : (ℕ → ℕ → List Plan → List ℕ → Type 0) → Type 0
OfIndexes P = OfClosed λ u B plans before closed after. P u B plans (take closed.length after)

-- WRITING

-- Every call accepts, with the place 0. The lengths that are told sum up to the length of all records, and the starts that come of them are where these
-- start; so each length is that of its own record. The records lie one behind the other at the front, then comes what stood there before, and the buffer
-- is as long as it was.
abbrev pub WritesAccepted : Type 0
WritesAccepted =
    OfRuns λ u B plans before told written.
    Each (λ (w : Written). (w.number ≡ 0) × (w.place ≡ 0)) told
    × (total_by told ≡ size_for B plans)
    × (starts_by 0 told ≡ starts_from 0 (map (record_for B) plans))
    × (written ≡ flatten (map (record_for B) plans) ++ drop (size_for B plans) before)
    × (length written ≡ length before)

pub writes_accepted : WritesAccepted
writes_accepted u B plans before c told written w =
    let r = indexes.all_ran u B plans before c told written w in
    (r.accepted, r.size, r.starts, r.bytes, indexes.written_length u B plans before c told written w)

-- The other way round: a caller who has 1 to 4,096 lists, sees that every call accepted, and sees that the lengths told, four bytes for each list and 24 are
-- together neither too long for an index nor for the buffer, has the conditions.
abbrev pub ConditionsSeen : Type 0
ConditionsSeen =
    (u B : ℕ) (plans : List Plan) (before : List ℕ) (told : List Written) (written : List ℕ) → Wrote u B 0 plans before told written
    → Each (λ (w : Written). w.number ≡ 0) told → Inside 1 4096 (length plans) → total_by told + 4 * length plans + 24 ≤ 16777216
    → total_by told + 4 * length plans + 24 ≤ length before → Packable u B plans (length before)

pub conditions_seen : ConditionsSeen
conditions_seen = writes.seen_packable

-- Whatever the lists and the buffer, there are answers and a buffer of such calls, and no others.
abbrev pub OneRun : Type 0
OneRun =
    (u B : ℕ) (plans : List Plan) (before : List ℕ)
    → ((told : List Written) × (written : List ℕ) × Wrote u B 0 plans before told written)
    × ((some others : List Written) (xs ys : List ℕ) → Wrote u B 0 plans before some xs → Wrote u B 0 plans before others ys → (some ≡ others) × (xs ≡ ys))

pub one_run : OneRun
one_run u B plans before = (writes.some_run u B plans 0 before, writes.one_run u B plans 0 before)

-- CLOSING

-- It accepts, with the place 0, and answers the length of the records, four bytes for each list, and 24. Behind the index stands what stood there before.
abbrev pub ClosingAccepted : Type 0
ClosingAccepted =
    OfClosed λ u B plans before closed after.
    (closed.number ≡ 0)
    × (closed.place ≡ 0)
    × (closed.length ≡ size_for B plans + 4 * length plans + 24)
    × (after ≡ take closed.length after ++ drop closed.length before)

pub closing_accepted : ClosingAccepted
closing_accepted u B plans before c told written w closed after m = (
  indexes.close_number u B plans before c told written w closed after m,
  indexes.close_place u B plans before c told written w closed after m,
  indexes.close_length u B plans before c told written w closed after m,
  indexes.close_behind u B plans before c told written w closed after m,
)

-- The index is the records one behind the other, and then the directory of their starts and the trailer.
abbrev pub IndexIs : Type 0
IndexIs = OfIndexes λ u B plans bs. bs ≡ index_of u B (map (record_for B) plans)

pub index_is : IndexIs
index_is = indexes.index_is

-- Looking accepts it. It has u and B as they were given and as many lists as were written, and each of them holds exactly its slots.
abbrev pub IndexHolds : Type 0
IndexHolds =
    OfIndexes λ u B plans bs.
    (look bs ≡ verdict 0 0)
    × (u_of bs ≡ u)
    × (block_length bs ≡ B)
    × (k_of bs ≡ length plans)
    × ((j : ℕ) → j < length plans → held bs j ≡ slots_of plans j)

pub index_holds : IndexHolds
index_holds u B plans before c told written w closed after m =
    let h = indexes.index_holding u B plans before c told written w closed after m in
    (h.looked, h.u_is, h.b_is, h.k_is, h.held_is)

-- ASKING

-- what an accepted question is to leave in a slice of this much room: the slots at the front, as many as the count says, are exactly those that stand in
-- every list named; they rise strictly in 1..u; 0 is at every place behind them; and the slice is as long as it was
abbrev pub Exact : ℕ → List Plan → List ℕ → ℕ → Answer → List ℕ → Type 0
Exact u plans names room answer left =
    ((x : ℕ) → In x (take answer.count left) ↔ ((n : ℕ) → In n names → In x (slots_of plans n)))
    × Ascends u 0 (take answer.count left)
    × (answer.count ≤ length left)
    × ((i : ℕ) → answer.count ≤ i → i < room → get_or left i 0 ≡ 0)
    × (length left ≡ room)

-- of whatever answer and slice keep the promise of a question of such an index
abbrev pub OfAsked : (ℕ → List Plan → ℕ → List ℕ → ℕ → Answer → List ℕ → Type 0) → Type 0
OfAsked P =
    OfIndexes λ u B plans bs.
    (way : ℕ) (names slice : List ℕ) (answer : Answer) (left : List ℕ) → MeetsAsk bs way names slice answer left
    → P u plans way names (length slice) answer left

-- A question is accepted exactly when the way is 0 or 1, there are 1 to 16 names, each of them is below the number of lists, and the slice has room for as
-- many slots as the smallest list named has. So none is refused wrongly.
abbrev pub QuestionsAccepted : Type 0
QuestionsAccepted = OfAsked λ u plans way names room answer left. (answer.number ≡ 0) ↔ Allowed plans way names room

pub questions_accepted : QuestionsAccepted
questions_accepted u B plans before c told written w closed after m way names slice answer left n =
    answers.asked_exactly_when (indexes.index_holding u B plans before c told written w closed after m) way names slice answer left n

-- An accepted one answers exactly the common slots.
abbrev pub QuestionsExact : Type 0
QuestionsExact = OfAsked λ u plans way names room answer left. answer.number ≡ 0 → Exact u plans names room answer left

pub questions_exact : QuestionsExact
questions_exact u B plans before c told written w closed after m way names slice answer left n ok =
    let h = indexes.index_holding u B plans before c told written w closed after m in
    let z = answers.asked_number h way names slice answer left n ok in (
      answers.asked_exactly h way names slice answer left n ok,
      answers.asked_rise h way names slice answer left n ok,
      tells_room _ way names slice answer left n z,
      tells_behind _ way names slice answer left n z,
      tells_length _ way names slice answer left n z,
    )

-- ONE LIST

-- A test is accepted exactly for a list that there is and a slot in 1..u. It says yes exactly when the slot stands in the list.
abbrev pub TestsTell : Type 0
TestsTell =
    OfIndexes λ u B plans bs.
    (name slot : ℕ) (answer : Tested) → MeetsTest bs name slot answer
    → ((answer.number ≡ 0) ↔ ((name < length plans) × Inside 1 u slot)) × ((answer.yes ≡ true) ↔ In slot (slots_of plans name))

pub tests_tell : TestsTell
tests_tell u B plans before c told written w closed after m name slot answer n =
    let h = indexes.index_holding u B plans before c told written w closed after m in
    rw n (answers.test_number h name slot, answers.test_is h name slot)

-- [Order 8] Telling the next slot is accepted as a test is. What is told is the next slot of the list, from the one asked from on.
abbrev pub NextsTell : Type 0
NextsTell =
    OfIndexes λ u B plans bs.
    (name slot : ℕ) (answer : Next) → MeetsNext bs name slot answer
    → ((answer.number ≡ 0) ↔ ((name < length plans) × Inside 1 u slot)) × (answer.number ≡ 0 → NextOf (λ z. In z (slots_of plans name)) slot answer.slot)

pub nexts_tell : NextsTell
nexts_tell u B plans before c told written w closed after m name slot answer n =
    let h = indexes.index_holding u B plans before c told written w closed after m in
    rw n (answers.next_number h name slot, answers.next_is h name slot)

-- A count is accepted exactly for a list that there is. It is how many slots the list has.
abbrev pub CountsTell : Type 0
CountsTell =
    OfIndexes λ u B plans bs.
    (name : ℕ) (answer : Counted) → MeetsCount bs name answer
    → ((answer.number ≡ 0) ↔ (name < length plans)) × (answer.count ≡ length (slots_of plans name))

pub counts_tell : CountsTell
counts_tell u B plans before c told written w closed after m name answer n =
    let h = indexes.index_holding u B plans before c told written w closed after m in
    rw n (answers.count_number h name, answers.count_is h name)

-- The bytes lent are the record of the list, and none where there is no such list.
abbrev pub LendsTell : Type 0
LendsTell = OfIndexes λ u B plans bs. (name : ℕ) (bytes : List ℕ) → MeetsLend bs name bytes → bytes ≡ get_or (map (record_for B) plans) name []

pub lends_tell : LendsTell
lends_tell u B plans before c told written w closed after m name bytes n =
    n ∙ answers.lent_is (indexes.index_holding u B plans before c told written w closed after m) name

-- WHATEVER THE PACKING

-- Two indexes that are so made from the same slots, with whatever cuts, u and B, give every question the same number, place and count, and leave the same
-- slice. (So looks and codes are all that the packing may change. That other ways and orders of the names leave the same slots is SameNames of
-- Questions.)
abbrev pub SamePacking : Type 0
SamePacking =
    OfIndexes λ u B plans bs.
    OfIndexes λ v C others cs.
    all_slots plans ≡ all_slots others → (way : ℕ) (names slice : List ℕ) (a b : Answer) (s t : List ℕ) → MeetsAsk bs way names slice a s
    → MeetsAsk cs way names slice b t → (a.number ≡ b.number) × (a.place ≡ b.place) × (a.count ≡ b.count) × (s ≡ t)

pub same_packing : SamePacking
same_packing u B plans before c told written w closed after m v C others before' c' told' written' w' closed' after' m' e way names slice a b s t n n' =
    packings.packed_alike (indexes.index_holding u B plans before c told written w closed after m)
    (indexes.index_holding v C others before' c' told' written' w' closed' after' m') e way names slice a s n b t n'

-- ALL OF IT

-- Where the conditions hold of the lists, and then of the question, every call accepts, from the first that is written to the question, and the slots of the
-- answer are exactly those that stand in every list named.
abbrev pub EndToEnd : Type 0
EndToEnd =
    (u B : ℕ) (plans : List Plan) (before : List ℕ) → Packable u B plans (length before)
    → (told : List Written) (written : List ℕ) → Wrote u B 0 plans before told written
    → (closed : Written) (after : List ℕ) → MeetsClose written u B (total_by told) (starts_by 0 told) closed after
    → (way : ℕ) (names slice : List ℕ) → Allowed plans way names (length slice)
    → (answer : Answer) (left : List ℕ) → MeetsAsk (take closed.length after) way names slice answer left
    → Each (λ (w : Written). (w.number ≡ 0) × (w.place ≡ 0)) told
    × (closed.number ≡ 0)
    × (answer.number ≡ 0)
    × Exact u plans names (length slice) answer left

pub end_to_end : EndToEnd
end_to_end u B plans before c told written w closed after m way names slice a answer left n =
    let ok = (questions_accepted u B plans before c told written w closed after m way names slice answer left n).1 a in (
      (writes_accepted u B plans before c told written w).0,
      (closing_accepted u B plans before c told written w closed after m).0,
      ok,
      questions_exact u B plans before c told written w closed after m way names slice answer left n ok,
    )

-- THE PAPER'S INDEX. `paper_plans`: its two lists, the first all in gaps, the second with cut 16

-- They fit the conditions in a buffer of 111 bytes, and not in one of 110.
abbrev pub PaperPackable : Type 0
PaperPackable = Packable 32 4 paper_plans 111 × ¬ (Packable 32 4 paper_plans 110)

pub paper_packable : PaperPackable
paper_packable = (examples.paper_fits, examples.paper_tight)

-- Written so and closed, they make the paper's index.
abbrev pub PaperMade : Type 0
PaperMade =
    (before : List ℕ) → Packable 32 4 paper_plans (length before) → (told : List Written) (written : List ℕ) → Wrote 32 4 0 paper_plans before told written
    → (closed : Written) (after : List ℕ) → MeetsClose written 32 4 (total_by told) (starts_by 0 told) closed after → take closed.length after ≡ index

pub paper_made : PaperMade
paper_made before c told written w closed after m = index_is 32 4 paper_plans before c told written w closed after m ∙ examples.paper_index
