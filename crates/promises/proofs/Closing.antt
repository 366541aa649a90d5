-- WHAT IS PROMISED of closing an index: its refusals, the index that it makes, what it leaves alone, and what it answers in the examples. Every
-- statement has a name and its meaning in plain words; the line behind it is its proof, which cites other files. The rows of the table that the
-- statements speak of are in CloseRows. `ClosesTo` and `RowCloses` are said in CloseExamples. Beside these a reader needs, of crate paper, the
-- promise itself (Close), what looking says (Look) and how an index is read (Index).
-- A closing is given a buffer, u, B, the total length D of the records that lie at the buffer's front, and their starts. `AllBytes bs`: every number
-- of bs is below 256. `Each Word starts`: every start is below 2 to the power of 32. So it is in every call. `words xs`: the numbers xs, in four bytes each.
-- `EachRow P rows`: P holds of each row of a table.
use Prim.Native.Nat.{ℕ, ◌+◌, ◌*◌, ◌≤◌, ◌<◌}
use mathlib.Core.Path.{◌≡◌, refl, sym, ◌∙◌}
use mathlib.Core.List.{List, [], ◌∷◌, ◌++◌}
use native.Mathlib.Omega.{arith}
use lib.ListN.{length, get_or, take, drop, set}
use Rattle.paper.specs.Bytes.{part}
use Rattle.paper.specs.Refusal.{verdict}
use Rattle.paper.specs.Held.{contents}
use Rattle.paper.specs.Index.{u_of, block_length, k_of, d_of, record_of, held}
use Rattle.paper.specs.Look.{look}
use Rattle.paper.specs.Write.{encode}
use Rattle.paper.specs.Close.{frame_bytes, close_answer, MeetsClose}
use Rattle.paper.specs.declared.Written.{Written}
use Rattle.paper.proofs.Hex.{hex, list0, list1, index}
use Rattle.paper.proofs.Open.{opened}
use Rattle.paper.proofs.Rows.{room}
use Rattle.paper.proofs.Readings.{readings, all_rows}
use Rattle.laws.proofs.Lists.{Each}
use Rattle.laws.proofs.Parts.{AllBytes}
use Rattle.promises.proofs.IndexRows.{Word, words, WellFormed, ByTheTable}
use Rattle.promises.proofs.UselessAnswers as useless
use Rattle.promises.proofs.ExampleRows.{EachRow, labelled}
use Rattle.promises.proofs.CloseRows.{Roomy, CloseRefused, CloseAccepted}
use Rattle.promises.proofs.CloseNumbers as numbers
use Rattle.promises.proofs.CloseAnswers as answers
use Rattle.promises.proofs.CloseExamples as examples
use Rattle.promises.proofs.CloseExamples.{ClosesTo, RowCloses}

-- of every closing: the buffer as it is lent, u, B, D and the starts
abbrev pub OfClosings : (List ℕ → ℕ → ℕ → ℕ → List ℕ → Type 0) → Type 0
OfClosings P = (before : List ℕ) (u B D : ℕ) (starts : List ℕ) → P before u B D starts

-- of whatever answer and buffer keep the promise of a closing
abbrev pub OfAnswers : (List ℕ → ℕ → ℕ → ℕ → List ℕ → Written → List ℕ → Type 0) → Type 0
OfAnswers P =
    OfClosings λ before u B D starts.
    (answer : Written) (after : List ℕ) → MeetsClose before u B D starts answer after → P before u B D starts answer after

-- of those that accept
abbrev pub OfAccepted : (List ℕ → ℕ → ℕ → ℕ → List ℕ → Written → List ℕ → Type 0) → Type 0
OfAccepted P =
    OfAnswers λ before u B D starts answer after.
    AllBytes before → Each Word starts → answer.number ≡ 0 → P before u B D starts answer after

-- THE TABLE READ AS CONDITIONS

-- Closing gives the number and the place of the row that refuses the numbers, the room, the starts or a record, and accepts exactly where none does.
abbrev pub CloseByTheTable : Type 0
CloseByTheTable =
    OfClosings λ before u B D starts.
    AllBytes before → Each Word starts
    → ByTheTable (close_answer before u B D starts).number (close_answer before u B D starts).place (CloseRefused before u B D starts)
    (CloseAccepted before u B D starts)

pub close_by_the_table : CloseByTheTable
close_by_the_table before u B D starts all small = numbers.close_table before u B D starts small all

-- CLOSING IS LOOKING

-- Where rows 4, 1 and 12 are passed, number and place are what looking says of the index that would be made. So 5 to 9 and 17 are given, or none of
-- them, as in looking.
abbrev pub CloseLooks : Type 0
CloseLooks =
    OfAnswers λ before u B D starts answer after.
    Roomy before u B D starts → Each Word starts
    → (answer.number ≡ (look (take D before ++ frame_bytes u B D starts)).number) × (answer.place ≡ (look (take D before ++ frame_bytes u B D starts)).place)

pub close_looks : CloseLooks
close_looks before u B D starts answer after m r small = (
  answers.looked_number before u B D starts answer after m r small,
  answers.looked_place before u B D starts answer after m r small,
)

-- WHAT IS MADE

-- An accepted closing answers the finished length: the records, four bytes for each start, and 24. It leaves the records as they lay, then the starts,
-- then edition 1, u, B, k and D and the tag, then what stood behind; nothing else is written, and the buffer is as long as it was.
abbrev pub CloseWrites : Type 0
CloseWrites =
    OfAccepted λ before u B D starts answer after.
    (answer.length ≡ D + 4 * length starts + 24) × (answer.length ≤ length before)
    × (after ≡ take D before ++ (words starts ++ (words (1 ∷ u ∷ B ∷ length starts ∷ D ∷ []) ++ 0x53 ∷ 0x4c ∷ 0x4f ∷ 0x54 ∷ [])) ++ drop answer.length before)
    × (length after ≡ length before)

pub close_writes : CloseWrites
close_writes before u B D starts answer after m all small ok =
    let r = answers.accepted_roomy before u B D starts answer after m all small ok in (
      answers.accepted_length before u B D starts answer after m r small ok,
      answers.accepted_fits before u B D starts answer after m r small ok,
      answers.accepted_leaves before u B D starts answer after m r small ok,
      answers.accepted_size before u B D starts answer after m r small ok,
    )

-- The first bytes, as many as the finished length says, are an index that looking accepts. It has u, B, k and D as they were given, and record i is the
-- part of the buffer from its start to the next one, or to D.
abbrev pub CloseMakes : Type 0
CloseMakes =
    OfAccepted λ before u B D starts answer after.
    (look (take answer.length after) ≡ verdict 0 0)
    × (u_of (take answer.length after) ≡ u)
    × (block_length (take answer.length after) ≡ B)
    × (k_of (take answer.length after) ≡ length starts)
    × (d_of (take answer.length after) ≡ D)
    × ((i : ℕ) → i < length starts → record_of (take answer.length after) i ≡ part before (get_or starts i D) (get_or starts (i + 1) D))

pub close_makes : CloseMakes
close_makes before u B D starts answer after m all small ok =
    let n = answers.index_numbers before u B D starts answer after m all small ok in (
      answers.index_looked before u B D starts answer after m all small ok,
      n.0,
      n.1,
      n.2,
      n.3,
      answers.index_record before u B D starts answer after m all small ok,
    )

-- So list i holds what that part holds.
abbrev pub CloseHolds : Type 0
CloseHolds =
    OfAccepted λ before u B D starts answer after.
    (i : ℕ) → i < length starts → held (take answer.length after) i ≡ contents u B (part before (get_or starts i D) (get_or starts (i + 1) D))

pub close_holds : CloseHolds
close_holds = answers.index_held

-- The same by the rows: it is a well-formed index with these numbers, and its records are those that the rows found in the buffer.
abbrev pub CloseTells : Type 0
CloseTells =
    OfAccepted λ before u B D starts answer after.
    (a : CloseAccepted before u B D starts)
    → (w : WellFormed (take answer.length after))
    × (w.trailer.u ≡ u)
    × (w.trailer.B ≡ B)
    × (w.trailer.k ≡ length starts)
    × (w.trailer.D ≡ D)
    × (w.records ≡ a.records)

pub close_tells : CloseTells
close_tells = answers.index_well

-- REFUSAL

-- A refused closing answers the length 0, and leaves the buffer as it was.
abbrev pub CloseRefusal : Type 0
CloseRefusal = OfAnswers λ before u B D starts answer after. ¬ (answer.number ≡ 0) → (answer.length ≡ 0) × (after ≡ before)

pub close_refusal : CloseRefusal
close_refusal before u B D starts answer after m n = (
  answers.refused_length before u B D starts answer after m n,
  answers.refused_leaves before u B D starts answer after m n,
)

-- All of it by the rows alone: what a row refuses has the number and the place of that row and the length 0, and the buffer is as it was.
abbrev pub CloseRefusalTells : Type 0
CloseRefusalTells =
    OfAnswers λ before u B D starts answer after.
    AllBytes before → Each Word starts → (r p : ℕ) → CloseRefused before u B D starts r p
    → (answer.number ≡ r) × (answer.place ≡ p) × (answer.length ≡ 0) × (after ≡ before)

pub close_refusal_tells : CloseRefusalTells
close_refusal_tells = answers.refused_tells

-- ONE ANSWER

-- Any two answers with their buffers that keep the promise of a closing are the same.
abbrev pub CloseOne : Type 0
CloseOne =
    OfClosings λ before u B D starts.
    (a b : Written) (s t : List ℕ) → MeetsClose before u B D starts a s → MeetsClose before u B D starts b t → (a ≡ b) × (s ≡ t)

pub close_one : CloseOne
close_one before u B D starts a b s t m n = (m.answers ∙ sym n.answers, m.leaves ∙ sym n.leaves)

-- EXAMPLES. `ClosesTo before u B D starts numbers after`: whatever keeps the promise of this closing has these three numbers (number, place, length)
-- and leaves this buffer. `room n`: n bytes that are all 9.

-- The paper's two records make its index, in any buffer that has room for it; what stood behind stays.
abbrev pub PaperCloses : Type 0
PaperCloses =
    (rest : List ℕ) → 32 ≤ length rest
    → ClosesTo (list0 ++ list1 ++ rest) 32 4 0x4F (0x00 ∷ 0x37 ∷ []) (0 ∷ 0 ∷ 111 ∷ []) (index ++ drop 32 rest)

pub paper_closes : PaperCloses
paper_closes = examples.paper_closes

-- The first of them alone makes an index of one list, of 83 bytes.
abbrev pub FirstCloses : Type 0
FirstCloses =
    ClosesTo (list0 ++ list1 ++ room 32) 32 4 0x37 (0x00 ∷ []) (0 ∷ 0 ∷ 83 ∷ [])
    (list0 ++ hex 28 0x00000000_01000000_20000000_04000000_01000000_37000000_534C4F54 ++ room 28)

pub first_closes : FirstCloses
first_closes = examples.first_closes

-- two records with B 2, of which the second has all bits beyond its cut of 11 set
abbrev pub stained_records : List ℕ
stained_records = encode 2 0 (3 ∷ 11 ∷ 12 ∷ 13 ∷ 22 ∷ []) ++ set (encode 2 11 (2 ∷ 3 ∷ 11 ∷ 13 ∷ 14 ∷ 20 ∷ 22 ∷ 31 ∷ [])) 13 0x3F

-- Refusals: no starts; u of 0, before anything else; no starts and a finished length beyond 32 bits, which gives 4 and not 1; a finished length of
-- 16,777,217, and one beyond 32 bits; one of 16,777,216 in a buffer of 9 bytes; the paper's records with a byte less of room than their index needs, and
-- then also with a first start of 1; a second start that leaves the last record 11 bytes; a code of list 1 that leads to slot 33; and a list 1 whose
-- bits beyond the cut are set.
abbrev pub CloseRefuses : Type 0
CloseRefuses =
    ClosesTo (room 200) 32 4 0 [] (4 ∷ 0 ∷ 0 ∷ []) (room 200)
    × ClosesTo (room 9) 0 4 4294967295 (7 ∷ []) (4 ∷ 0 ∷ 0 ∷ []) (room 9)
    × ClosesTo (room 9) 32 4 4294967295 [] (4 ∷ 0 ∷ 0 ∷ []) (room 9)
    × ClosesTo (room 9) 32 4 16777189 (0 ∷ []) (1 ∷ 0 ∷ 0 ∷ []) (room 9)
    × ClosesTo (room 9) 32 4 4294967295 (7 ∷ []) (1 ∷ 0 ∷ 0 ∷ []) (room 9)
    × ClosesTo (room 9) 32 4 16777188 (0 ∷ []) (12 ∷ 16777216 ∷ 0 ∷ []) (room 9)
    × ClosesTo (list0 ++ list1 ++ room 31) 32 4 79 (0 ∷ 55 ∷ []) (12 ∷ 111 ∷ 0 ∷ []) (list0 ++ list1 ++ room 31)
    × ClosesTo (list0 ++ list1 ++ room 31) 32 4 79 (1 ∷ 55 ∷ []) (12 ∷ 111 ∷ 0 ∷ []) (list0 ++ list1 ++ room 31)
    × ClosesTo (list0 ++ list1 ++ room 32) 32 4 79 (0 ∷ 68 ∷ []) (5 ∷ 0 ∷ 0 ∷ []) (list0 ++ list1 ++ room 32)
    × ClosesTo (list0 ++ set list1 22 6 ++ room 32) 32 4 79 (0 ∷ 55 ∷ []) (9 ∷ 1 ∷ 0 ∷ []) (list0 ++ set list1 22 6 ++ room 32)
    × ClosesTo (stained_records ++ room 32) 32 2 78 (0 ∷ 38 ∷ []) (17 ∷ 1 ∷ 0 ∷ []) (stained_records ++ room 32)

-- (rows of the readings by their labels)
pub close_refuses : CloseRefuses
unfolding all_rows labelled
close_refuses = (
  examples.in_readings 441 _ _ _ _ _ _ _ refl,
  examples.in_readings 450 _ _ _ _ _ _ _ refl,
  examples.in_readings 451 _ _ _ _ _ _ _ refl,
  examples.in_readings 445 _ _ _ _ _ _ _ refl,
  examples.in_readings 446 _ _ _ _ _ _ _ refl,
  examples.in_readings 444 _ _ _ _ _ _ _ refl,
  examples.in_readings 442 _ _ _ _ _ _ _ refl,
  examples.in_readings 448 _ _ _ _ _ _ _ refl,
  examples.in_readings 447 _ _ _ _ _ _ _ refl,
  examples.in_readings 449 _ _ _ _ _ _ _ refl,
  examples.in_readings 639 _ _ _ _ _ _ _ refl,
)

-- So it is of every closing in the table of the further examples, which has them all.
abbrev pub TableCloses : Type 0
TableCloses = EachRow RowCloses readings

pub table_closes : TableCloses
table_closes = examples.readings_close

-- NO USELESS PROGRAM

-- the paper's two records in a buffer of 111 bytes
abbrev pub two_records : List ℕ
two_records = list0 ++ list1 ++ room 32

two_close : ClosesTo two_records 32 4 79 (0 ∷ 55 ∷ []) (0 ∷ 0 ∷ 111 ∷ []) index
unfolding all_rows labelled
two_close = examples.in_readings 106 _ _ _ _ _ _ _ refl

-- One that refuses everything breaks the promise at these.
abbrev pub CloseNotRefusing : Type 0
CloseNotRefusing = (answer : Written) (left : List ℕ) → ¬ (answer.number ≡ 0) → ¬ (MeetsClose two_records 32 4 79 (0 ∷ 55 ∷ []) answer left)

pub close_not_refusing : CloseNotRefusing
close_not_refusing = useless.refusing_fails two_close refl

-- One that writes nothing breaks it there too.
abbrev pub CloseNotIdle : Type 0
CloseNotIdle = (answer : Written) → ¬ (MeetsClose two_records 32 4 79 (0 ∷ 55 ∷ []) answer two_records)

pub close_not_idle : CloseNotIdle
unfolding opened
close_not_idle = useless.leaving_fails two_close 79 two_records λ e. let z : ◌≡◌ {A = ℕ} 9 0 = e in omega arith

-- One that always leaves the same bytes, or always gives the same answer, breaks it there or at the first record alone: the byte behind that record is to be
-- 16 or 0, and the length 111 or 83.
abbrev pub CloseNotTheSame : Type 0
CloseNotTheSame =
    ((a b : Written) (left : List ℕ) → ¬ (MeetsClose two_records 32 4 79 (0 ∷ 55 ∷ []) a left × MeetsClose two_records 32 4 55 (0 ∷ []) b left))
    × ((answer : Written) (s t : List ℕ) → ¬ (MeetsClose two_records 32 4 79 (0 ∷ 55 ∷ []) answer s × MeetsClose two_records 32 4 55 (0 ∷ []) answer t))

pub close_not_the_same : CloseNotTheSame
unfolding opened
close_not_the_same = (
  useless.same_leaving_fails two_close first_closes 55 λ e. let z : ◌≡◌ {A = ℕ} 16 0 = e in omega arith,
  useless.same_answer_fails two_close first_closes 2 λ e. let z : ◌≡◌ {A = ℕ} 111 83 = e in omega arith,
)

-- One that closes whatever it is given breaks it at the record whose code leads to slot 33.
abbrev pub CloseNotUnchecked : Type 0
CloseNotUnchecked =
    (answer : Written) (left : List ℕ) → answer.number ≡ 0
    → ¬ (MeetsClose (list0 ++ set list1 22 6 ++ room 32) 32 4 79 (0 ∷ 55 ∷ []) answer left)

pub close_not_unchecked : CloseNotUnchecked
close_not_unchecked = useless.accepting_fails close_refuses.9 λ e. let z : ◌≡◌ {A = ℕ} 9 0 = e in omega arith
