-- WHAT IS PROMISED of a question: its refusals, its slots, the slice, what does not matter to it, and what it answers in the paper's examples. Every
-- statement has a name and its meaning in plain words; the line behind it is its proof, which cites other files. The rows of the table that
-- they speak of are in AskRows. A few words are said where the proofs are: `Covers`, `written_for` and `InOrder` in QuestionAlike, `Gives` and
-- `Printed` in QuestionExamples. Beside these a reader needs, of crate paper, what is answered (Ask) and what a list holds (Index). What a
-- question by skips costs is promised in Searching. (`Before`, of two positions in the order of the lists, is said in Orders of crate meaning.)
-- `AllBytes bs`: every number of bs is below 256. `In x xs`: x is one of the list xs. `Each P xs`: P holds of each of xs. `Ascends u p xs`: xs rises
-- strictly, above p and up to u. `EachRow P rows`: P holds of each row of a table.
use Prim.Native.Nat.{ℕ, ◌≤◌, ◌<◌}
use mathlib.Core.Path.{◌≡◌, refl, sym, ap, ◌∙◌}
use mathlib.Core.Logic.{◌↔◌}
use mathlib.Core.Option.{some}
use mathlib.Core.List.{List, [], ◌∷◌, ◌++◌, map, flatten}
use native.Mathlib.Omega.{arith}
use lib.ListN.{length, get_or, take, replicate}
use Rattle.paper.specs.Lists.{has, up_from}
use Rattle.paper.specs.Index.{u_of, block_length, k_of, record_of, held}
use Rattle.paper.specs.Look.{look}
use Rattle.paper.specs.Question.{order}
use Rattle.paper.specs.Ask.{answer_slots, ask_answer, ask_slice, MeetsAsk}
use Rattle.paper.specs.Write.{encode}
use Rattle.paper.specs.Close.{frame_bytes}
use Rattle.paper.specs.Program.{program}
use Rattle.paper.specs.declared.Answer.{Answer}
use Rattle.paper.proofs.Hex.{hex, index, slots1}
use Rattle.paper.proofs.Rows.{room}
use Rattle.paper.proofs.Table.{table}
use Rattle.paper.proofs.Readings.{readings, all_rows}
use Rattle.laws.proofs.Lists.{In, Each}
use Rattle.laws.proofs.Lists.In.{here}
use Rattle.laws.proofs.Parts.{AllBytes}
use Rattle.meaning.proofs.Rising.{Ascends}
use Rattle.promises.proofs.IndexRows.{WellFormed, starts_from, ByTheTable}
use Rattle.promises.proofs.UselessAnswers as useless
use Rattle.promises.proofs.ExampleRows.{EachRow, labelled}
use Rattle.promises.proofs.AskRows.{Stands, AskRefused, AskAccepted}
use Rattle.promises.proofs.QuestionNumbers as numbers
use Rattle.promises.proofs.QuestionSlots as slots
use Rattle.promises.proofs.QuestionAlike as alike
use Rattle.promises.proofs.QuestionAlike.{Covers, written_for, InOrder, names_cover, pairs_cover}
use Rattle.promises.proofs.QuestionExamples as examples
use Rattle.promises.proofs.QuestionExamples.{Gives, Printed}

-- of every question: the bytes of an index, the way, the names, and the slice as it is lent
abbrev pub OfQuestions : (List ℕ → ℕ → List ℕ → List ℕ → Type 0) → Type 0
OfQuestions P = (bs : List ℕ) (way : ℕ) (names before : List ℕ) → P bs way names before

-- its answer: number, place, count, looks and codes
abbrev pub answer_to : List ℕ → ℕ → List ℕ → List ℕ → Answer
answer_to bs way names before = ask_answer bs way names (length before)

-- of every question that is accepted
abbrev pub OfAccepted : (List ℕ → ℕ → List ℕ → List ℕ → Type 0) → Type 0
OfAccepted P = OfQuestions λ bs way names before. (answer_to bs way names before).number ≡ 0 → P bs way names before

-- THE TABLE READ AS CONDITIONS

-- Asking gives the number and the place of the row that refuses the index, the way, the names or the room, and accepts exactly where none does.
abbrev pub AskByTheTable : Type 0
AskByTheTable =
    (bs : List ℕ) → AllBytes bs → (way : ℕ) (names : List ℕ) (room : ℕ)
    → ByTheTable (ask_answer bs way names room).number (ask_answer bs way names room).place (AskRefused bs way names room) (AskAccepted bs way names room)

pub ask_by_the_table : AskByTheTable
ask_by_the_table = numbers.ask_table

-- EXACTLY THE COMMON SLOTS

-- A slot is in the answer exactly when every list named holds it.
abbrev pub AskExact : Type 0
AskExact = OfAccepted λ bs way names before. (x : ℕ) → In x (answer_slots bs names) ↔ ((n : ℕ) → In n names → In x (held bs n))

pub ask_exact : AskExact
ask_exact = slots.ask_exactly

-- The slots of the answer rise strictly and lie in 1..u.
abbrev pub AskRises : Type 0
AskRises = OfAccepted λ bs way names before. Ascends (u_of bs) 0 (answer_slots bs names)

pub ask_rises : AskRises
ask_rises = slots.ask_rise

-- The count says how many there are.
abbrev pub AskCounts : Type 0
AskCounts = OfAccepted λ bs way names before. (answer_to bs way names before).count ≡ length (answer_slots bs names)

pub ask_counts : AskCounts
ask_counts = slots.ask_count

-- The slice is as long as it was. It has the slots of the answer at its front, in their order, and 0 at every place behind them.
abbrev pub AskFills : Type 0
AskFills =
    OfAccepted λ bs way names before.
    (length (ask_slice bs way names before) ≡ length before)
    × ((i : ℕ) → i < (answer_to bs way names before).count → get_or (ask_slice bs way names before) i 0 ≡ get_or (answer_slots bs names) i 0)
    × ((i : ℕ) → (answer_to bs way names before).count ≤ i → i < length before → get_or (ask_slice bs way names before) i 0 ≡ 0)

pub ask_fills : AskFills
ask_fills bs way names before ok = (
  slots.slice_length bs way names before ok,
  slots.slice_front bs way names before ok,
  slots.slice_behind bs way names before ok,
)

-- All of it by what is written in the index, of any answer and slice that keep the promise of a question that no row refuses. The slots at the
-- front of the slice, as many as the count says, are exactly those that the bytes of each record named hold; they rise strictly in 1..u; behind
-- them is 0; and the slice is as long as it was.
abbrev pub AskTells : Type 0
AskTells =
    OfQuestions λ bs way names before.
    AllBytes bs → (a : AskAccepted bs way names (length before)) (answer : Answer) (after : List ℕ) → MeetsAsk bs way names before answer after
    → ((x : ℕ) → In x (take answer.count after) ↔ ((n : ℕ) → In n names → Stands a.named.askable.well n x))
    × Ascends a.named.askable.well.trailer.u 0 (take answer.count after)
    × (answer.count ≤ length after)
    × ((i : ℕ) → answer.count ≤ i → i < length before → get_or after i 0 ≡ 0)
    × (length after ≡ length before)

pub ask_tells : AskTells
ask_tells bs way names before all a answer after m =
    let ok = slots.accepted_number bs way names before all a in (
      slots.tells_exactly bs way names before all a answer after m,
      slots.tells_rise bs way names before all a answer after m,
      slots.tells_room bs way names before answer after m ok,
      slots.tells_behind bs way names before answer after m ok,
      slots.tells_length bs way names before answer after m ok,
    )

-- WHATEVER THE WAY, THE NAMES' ORDER AND REPEATS, AND THE PACKING

-- two accepted questions have the same slots, the same count, and the same slice where both are as long
abbrev pub SameSlots : List ℕ → ℕ → List ℕ → List ℕ → List ℕ → ℕ → List ℕ → List ℕ → Type 0
SameSlots bs way names before cs other others slice =
    (answer_to bs way names before).number ≡ 0 → (answer_to cs other others slice).number ≡ 0
    → (answer_slots bs names ≡ answer_slots cs others)
    × ((answer_to bs way names before).count ≡ (answer_to cs other others slice).count)
    × (length before ≡ length slice → ask_slice bs way names before ≡ ask_slice cs other others slice)

-- of every two questions
abbrev pub OfTwo : (List ℕ → ℕ → List ℕ → List ℕ → List ℕ → ℕ → List ℕ → List ℕ → Type 0) → Type 0
OfTwo P = OfQuestions λ bs way names before. OfQuestions λ cs other others slice. P bs way names before cs other others slice

-- So it is of two questions on one index that name the same lists, in whatever order, however often, and by whatever ways.
abbrev pub SameNames : Type 0
SameNames =
    (bs : List ℕ) (way : ℕ) (names before : List ℕ) (other : ℕ) (others slice : List ℕ)
    → ((n : ℕ) → In n names ↔ In n others) → SameSlots bs way names before bs other others slice

pub same_names : SameNames
same_names bs way names before other others slice h ok fine =
    alike.contents_same bs way names before bs other others slice ok fine (names_cover bs names others λ n. (h n).0) (names_cover bs others names λ n. (h n).1)

-- So it is of two questions on two indexes whose lists hold the same, name by name, however they are packed.
abbrev pub SameLists : Type 0
SameLists =
    OfTwo λ bs way names before cs other others slice.
    map (held bs) names ≡ map (held cs) others → SameSlots bs way names before cs other others slice

pub same_lists : SameLists
same_lists bs way names before cs other others slice e ok fine =
    alike.contents_same bs way names before cs other others slice ok fine (pairs_cover bs names cs others e) (pairs_cover cs others bs names (sym e))

-- So it is where each list named in the one holds the same as some list named in the other.
abbrev pub SameContents : Type 0
SameContents =
    OfTwo λ bs way names before cs other others slice.
    Covers bs names cs others → Covers cs others bs names → SameSlots bs way names before cs other others slice

pub same_contents : SameContents
same_contents bs way names before cs other others slice forth back ok fine =
    alike.contents_same bs way names before cs other others slice ok fine forth back

-- WHAT A QUESTION DEPENDS ON

-- the whole answer and the whole slice are the same
abbrev pub SameAnswer : List ℕ → List ℕ → List ℕ → List ℕ → Type 0
SameAnswer bs names cs others =
    (way : ℕ) (before : List ℕ)
    → (answer_to bs way names before ≡ answer_to cs way others before) × (ask_slice bs way names before ≡ ask_slice cs way others before)

-- Where every name is below k, two indexes that looking accepts and that agree on u, B and the records named, in the order named, give the same.
abbrev pub AskDepends : Type 0
AskDepends =
    (bs names cs others : List ℕ) → (look bs).number ≡ 0 → (look cs).number ≡ 0 → Each (λ (n : ℕ). n < k_of bs) names → Each (λ (n : ℕ). n < k_of cs) others
    → u_of bs ≡ u_of cs → block_length bs ≡ block_length cs → map (record_of bs) names ≡ map (record_of cs) others → SameAnswer bs names cs others

pub ask_depends : AskDepends
ask_depends bs names cs others y z b c u B r way before = (
  alike.answer_same bs cs names others y z b c u B r way (length before),
  alike.slice_same bs cs names others y z b c u B r way before,
)

-- The same of well-formed indexes, by what is written there.
abbrev pub AskDependsWritten : Type 0
AskDependsWritten =
    (bs names cs others : List ℕ) → AllBytes bs → AllBytes cs → (w : WellFormed bs) (v : WellFormed cs) → Each (λ (n : ℕ). n < w.trailer.k) names
    → Each (λ (n : ℕ). n < v.trailer.k) others → w.trailer.u ≡ v.trailer.u → w.trailer.B ≡ v.trailer.B
    → written_for w names ≡ written_for v others → SameAnswer bs names cs others

pub ask_depends_written : AskDependsWritten
ask_depends_written bs names cs others all-b all-c w v b c u B r way before = alike.written_same bs cs all-b all-c w v names others b c u B r way before

-- Of the slice only its length matters: slices of one length get the same answer, and hold the same afterwards where it accepts.
abbrev pub AskDependsLength : Type 0
AskDependsLength =
    OfQuestions λ bs way names before.
    (slice : List ℕ) → length before ≡ length slice
    → (answer_to bs way names before ≡ answer_to bs way names slice)
    × ((answer_to bs way names before).number ≡ 0 → ask_slice bs way names before ≡ ask_slice bs way names slice)

pub ask_depends_length : AskDependsLength
ask_depends_length bs way names before slice e =
    let a : answer_to bs way names before ≡ answer_to bs way names slice = ap (ask_answer bs way names) e in
    (a, λ ok. (same_names bs way names before way names slice (λ n. (λ i. i, λ i. i)) ok (rw a at ok)).2 e)

-- REFUSAL

-- A refused question has no slots, no looks and no codes, in sum and in each of the sixteen places, and leaves the slice as it was.
abbrev pub AskRefusal : Type 0
AskRefusal =
    OfQuestions λ bs way names before.
    ¬ ((answer_to bs way names before).number ≡ 0)
    → ((answer_to bs way names before).count ≡ 0) × ((answer_to bs way names before).looks ≡ 0) × ((answer_to bs way names before).codes ≡ 0)
    × ((answer_to bs way names before).looks16 ≡ replicate 16 0) × ((answer_to bs way names before).codes16 ≡ replicate 16 0)
    × (ask_slice bs way names before ≡ before)

pub ask_refusal : AskRefusal
ask_refusal = slots.ask_refusal

-- ONE ANSWER

-- Any two answers with their slices that keep the promise of a question are the same.
abbrev pub AskOne : Type 0
AskOne =
    OfQuestions λ bs way names before.
    (a b : Answer) (s t : List ℕ) → MeetsAsk bs way names before a s → MeetsAsk bs way names before b t → (a ≡ b) × (s ≡ t)

pub ask_one : AskOne
ask_one bs way names before a b s t m n = (m.answers ∙ sym n.answers, m.leaves ∙ sym n.leaves)

-- THE ORDER OF THE LISTS

-- The order by counts has each position of the question once, by rising count, and of equal counts the one named first. (That the lists are gone
-- through in this order is ChargedInOrder of Searching.)
abbrev pub OrderRises : Type 0
OrderRises = (counts : List ℕ) → InOrder counts (order counts)

pub order_rises : OrderRises
order_rises = alike.order_is

-- There is no other such order.
abbrev pub OneOrder : Type 0
OneOrder = (counts xs : List ℕ) → InOrder counts xs → xs ≡ order counts

pub one_order : OneOrder
one_order = alike.order_one

-- EXAMPLES OF THE ANSWER. `Gives bs way names before numbers after`: whatever keeps the promise of this question has these five numbers (number,
-- place, count, looks, codes) and leaves this slice. `room n`: a slice of n places that hold rubbish.

-- On the paper's index: T1, by skips lists 0 and 1; T2, the same plainly; T4, room 6 and room 7; T5, list 1 alone; T6, list 1 named twice; T10, no
-- names; and lists 1, 0 and 0 again, where the finger starts anew.
abbrev pub PaperAnswers : Type 0
PaperAnswers =
    Gives index 1 (0 ∷ 1 ∷ []) (room 8) (0 ∷ 0 ∷ 5 ∷ 9 ∷ 14 ∷ []) (5 ∷ 12 ∷ 16 ∷ 26 ∷ 30 ∷ 0 ∷ 0 ∷ 0 ∷ [])
    × Gives index 0 (0 ∷ 1 ∷ []) (room 8) (0 ∷ 0 ∷ 5 ∷ 0 ∷ 0 ∷ []) (5 ∷ 12 ∷ 16 ∷ 26 ∷ 30 ∷ 0 ∷ 0 ∷ 0 ∷ [])
    × Gives index 1 (0 ∷ 1 ∷ []) (room 6) (12 ∷ 7 ∷ 0 ∷ 0 ∷ 0 ∷ []) (room 6)
    × Gives index 1 (0 ∷ 1 ∷ []) (room 7) (0 ∷ 0 ∷ 5 ∷ 9 ∷ 14 ∷ []) (5 ∷ 12 ∷ 16 ∷ 26 ∷ 30 ∷ 0 ∷ 0 ∷ [])
    × Gives index 1 (1 ∷ []) (room 7) (0 ∷ 0 ∷ 7 ∷ 0 ∷ 0 ∷ []) (3 ∷ 5 ∷ 12 ∷ 16 ∷ 26 ∷ 30 ∷ 31 ∷ [])
    × Gives index 1 (1 ∷ 1 ∷ []) (room 7) (0 ∷ 0 ∷ 7 ∷ 1 ∷ 3 ∷ []) (3 ∷ 5 ∷ 12 ∷ 16 ∷ 26 ∷ 30 ∷ 31 ∷ [])
    × Gives index 1 [] (room 8) (10 ∷ 0 ∷ 0 ∷ 0 ∷ 0 ∷ []) (room 8)
    × Gives index 1 (1 ∷ 0 ∷ 0 ∷ []) (room 7) (0 ∷ 0 ∷ 5 ∷ 17 ∷ 25 ∷ []) (5 ∷ 12 ∷ 16 ∷ 26 ∷ 30 ∷ 0 ∷ 0 ∷ [])

-- (rows of the table by their places, counted from 0; rows of the readings by their labels)
pub paper_answers : PaperAnswers
unfolding slots1 table all_rows labelled
paper_answers = (
  ((examples.in_table 0).asked _ _ _ _ _ _ _ _ refl).0,
  ((examples.in_table 2).asked _ _ _ _ _ _ _ _ refl).0,
  ((examples.in_table 4).asked _ _ _ _ _ _ _ _ refl).0,
  ((examples.in_table 5).asked _ _ _ _ _ _ _ _ refl).0,
  ((examples.in_table 6).asked _ _ _ _ _ _ _ _ refl).0,
  ((examples.in_table 7).asked _ _ _ _ _ _ _ _ refl).0,
  ((examples.in_table 15).asked _ _ _ _ _ _ _ _ refl).0,
  ((examples.in_readings 306).asked _ _ _ _ _ _ _ _ refl).0,
)

-- an index of these records
abbrev pub index_of : ℕ → ℕ → List (List ℕ) → List ℕ
index_of u B records = flatten records ++ frame_bytes u B (length (flatten records)) (starts_from 0 records)

-- lists 7 8 9 10 and 1 2 3 4, a block for each slot
abbrev pub ties : List ℕ
ties = index_of 32 1 (encode 1 0 (7 ∷ 8 ∷ 9 ∷ 10 ∷ []) ∷ encode 1 0 (1 ∷ 2 ∷ 3 ∷ 4 ∷ []) ∷ [])

-- lists 4 9 16 25, 1 to 26, and the even slots 2 to 24
abbrev pub three : List ℕ
three =
    index_of 32 2
    (encode 2 0 (4 ∷ 9 ∷ 16 ∷ 25 ∷ []) ∷ encode 2 0 (up_from 1 26) ∷ encode 2 0 (2 ∷ 4 ∷ 6 ∷ 8 ∷ 10 ∷ 12 ∷ 14 ∷ 16 ∷ 18 ∷ 20 ∷ 22 ∷ 24 ∷ []) ∷ [])

-- lists 3 11 12 13 22, and 2 3 11 13 14 20 22 31 with a cut of 11, which ends inside a byte
abbrev pub inside : List ℕ
inside = index_of 32 2 (encode 2 0 (3 ∷ 11 ∷ 12 ∷ 13 ∷ 22 ∷ []) ∷ encode 2 11 (2 ∷ 3 ∷ 11 ∷ 13 ∷ 14 ∷ 20 ∷ 22 ∷ 31 ∷ []) ∷ [])

-- On these: two lists of one count, in either order; three lists that are gone through by rising count; and a cut inside a byte.
abbrev pub OtherAnswers : Type 0
OtherAnswers =
    Gives ties 1 (0 ∷ 1 ∷ []) (room 4) (0 ∷ 0 ∷ 0 ∷ 3 ∷ 0 ∷ []) (0 ∷ 0 ∷ 0 ∷ 0 ∷ [])
    × Gives ties 1 (1 ∷ 0 ∷ []) (room 4) (0 ∷ 0 ∷ 0 ∷ 4 ∷ 0 ∷ []) (0 ∷ 0 ∷ 0 ∷ 0 ∷ [])
    × Gives three 1 (0 ∷ 1 ∷ 2 ∷ []) (room 4) (0 ∷ 0 ∷ 2 ∷ 20 ∷ 6 ∷ []) (4 ∷ 16 ∷ 0 ∷ 0 ∷ [])
    × Gives inside 1 (0 ∷ 1 ∷ []) (room 5) (0 ∷ 0 ∷ 4 ∷ 5 ∷ 1 ∷ []) (3 ∷ 11 ∷ 13 ∷ 22 ∷ 0 ∷ [])

pub other_answers : OtherAnswers
unfolding all_rows labelled
other_answers = (
  ((examples.in_readings 308).asked _ _ _ _ _ _ _ _ refl).0,
  ((examples.in_readings 309).asked _ _ _ _ _ _ _ _ refl).0,
  ((examples.in_readings 311).asked _ _ _ _ _ _ _ _ refl).0,
  ((examples.in_readings 312).asked _ _ _ _ _ _ _ _ refl).0,
)

-- Given `1 0 1` and the paper's index, the program prints `0 0 9 14` and then the five slots, a line each.
abbrev pub ProgramPrints : Type 0
ProgramPrints =
    program (some index) (hex 5 0x31_20_30_20_31) ≡ hex 22 0x30_20_30_20_39_20_31_34_0A_35_0A_31_32_0A_31_36_0A_32_36_0A_33_30 ++ hex 1 0x0A

pub program_prints : ProgramPrints
unfolding all_rows labelled
program_prints = (examples.in_readings 107).run _ _ _ refl

-- So it is of every question, and of every text for the program, in the table of the paper's examples and in that of the further ones.
abbrev pub TableAnswers : Type 0
TableAnswers = EachRow Printed table × EachRow Printed readings

pub table_answers : TableAnswers
table_answers = examples.tables_printed

-- NO USELESS PROGRAM

-- One that refuses everything breaks the promise at T1.
abbrev pub AskNotRefusing : Type 0
AskNotRefusing = (answer : Answer) (left : List ℕ) → ¬ (answer.number ≡ 0) → ¬ (MeetsAsk index 1 (0 ∷ 1 ∷ []) (room 8) answer left)

pub ask_not_refusing : AskNotRefusing
ask_not_refusing = useless.refusing_fails paper_answers.0 refl

-- One that always leaves the same slots breaks it at lists 0 and 1 or at list 1 alone, both with seven places.
abbrev pub AskNotTheSame : Type 0
AskNotTheSame = (a b : Answer) (left : List ℕ) → ¬ (MeetsAsk index 1 (0 ∷ 1 ∷ []) (room 7) a left × MeetsAsk index 1 (1 ∷ []) (room 7) b left)

pub ask_not_the_same : AskNotTheSame
ask_not_the_same = useless.same_leaving_fails paper_answers.3 paper_answers.4 0 λ e. let z : ◌≡◌ {A = ℕ} 5 3 = e in omega arith

-- One that writes nothing breaks it at T1.
abbrev pub AskNotIdle : Type 0
AskNotIdle = (answer : Answer) → ¬ (MeetsAsk index 1 (0 ∷ 1 ∷ []) (room 8) answer (room 8))

pub ask_not_idle : AskNotIdle
ask_not_idle = useless.leaving_fails paper_answers.0 0 (room 8) λ e. let z : ◌≡◌ {A = ℕ} 9 5 = e in omega arith

-- One that goes by one of the lists alone breaks it: at T1 if slot 3 is left, which list 1 holds and list 0 lacks, or slot 1, which list 0 holds and
-- list 1 lacks; and at lists 1, 0 and 0 if all seven slots of list 1 are left.
abbrev pub AskNotByOneList : Type 0
AskNotByOneList =
    (answer : Answer)
    → ((left : List ℕ) → In 3 left → ¬ (MeetsAsk index 1 (0 ∷ 1 ∷ []) (room 8) answer left))
    × ((left : List ℕ) → In 1 left → ¬ (MeetsAsk index 1 (0 ∷ 1 ∷ []) (room 8) answer left))
    × ¬ (MeetsAsk index 1 (1 ∷ 0 ∷ 0 ∷ []) (room 7) answer (3 ∷ 5 ∷ 12 ∷ 16 ∷ 26 ∷ 30 ∷ 31 ∷ []))

pub ask_not_by_one_list : AskNotByOneList
unfolding has
ask_not_by_one_list answer = (
  useless.keeping_fails paper_answers.0 3 refl answer,
  useless.keeping_fails paper_answers.0 1 refl answer,
  useless.keeping_fails paper_answers.7 3 refl answer _ (here refl),
)

-- One that reports looks of its own breaks it at T1, where they are 9. (The bound alone would let any number up to 15 pass there: 7 searches, and
-- twice 4 blocks.)
abbrev pub AskNotOtherLooks : Type 0
AskNotOtherLooks = (answer : Answer) (left : List ℕ) → ¬ (answer.looks ≡ 9) → ¬ (MeetsAsk index 1 (0 ∷ 1 ∷ []) (room 8) answer left)

pub ask_not_other_looks : AskNotOtherLooks
ask_not_other_looks = useless.number_fails paper_answers.0 3

-- One that reports codes of its own breaks it at T1, where they are 14.
abbrev pub AskNotOtherCodes : Type 0
AskNotOtherCodes = (answer : Answer) (left : List ℕ) → ¬ (answer.codes ≡ 14) → ¬ (MeetsAsk index 1 (0 ∷ 1 ∷ []) (room 8) answer left)

pub ask_not_other_codes : AskNotOtherCodes
ask_not_other_codes = useless.number_fails paper_answers.0 4
