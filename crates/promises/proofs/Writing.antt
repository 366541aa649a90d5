-- WHAT IS PROMISED of writing a record: its refusals, the bytes, how they read back, what stays, and what it does in the paper's examples. Every
-- statement has a name and its meaning in plain words; the line behind it is its proof, which cites other files. What the record of given slots
-- is, and the rows of the table, are in WriteRows. A few words are said elsewhere: `Accepted`, `UnusedZero` and `OfWritten` in Promises, `Holds` in
-- RecordRows, `Writes`, `Refuses` and `Shown` in WriteExamples. Beside these a reader needs, of crate paper, what is written (Write) and how a record is
-- read (Record, Held). `In x xs`: x is one of the list xs. `AllBytes bs`: every number of bs is below 256. `RoundsUp x y m`: m is x / y, rounded up.
-- `Counts u P n`: n slots in 1..u have the property P. `EachRow P rows`: P holds of each row of a table.
use Prim.Native.Nat.{ℕ, ◌+◌, ◌*◌, ◌≤◌, ◌<◌}
use mathlib.Core.Path.{◌≡◌, refl, sym, ◌∙◌}
use mathlib.Core.Logic.{◌↔◌}
use mathlib.Core.List.{List, [], ◌∷◌, ◌++◌}
use native.Mathlib.Omega.{arith}
use lib.ListN.{length, get_or, take, drop, replicate}
use Rattle.paper.specs.Record.{cut_of, tail_count, code_length}
use Rattle.paper.specs.Held.{contents}
use Rattle.paper.specs.Index.{u_of, block_length, held}
use Rattle.paper.specs.OneList.{count_answer, lent}
use Rattle.paper.specs.Write.{encode, write_answer, MeetsWrite}
use Rattle.paper.specs.declared.Written.{Written}
use Rattle.paper.proofs.Hex.{hex_f, hex, list0, list1, slots0, slots1}
use Rattle.paper.proofs.Open.{opened}
use Rattle.paper.proofs.Rows.{room}
use Rattle.paper.proofs.Table.{table}
use Rattle.paper.proofs.Readings.{readings}
use Rattle.laws.proofs.Lists.{In}
use Rattle.laws.proofs.Parts.{AllBytes}
use Rattle.laws.proofs.Rounding.{RoundsUp}
use Rattle.promises.proofs.Promises.{Accepted, UnusedZero, OfWritten}
use Rattle.promises.proofs.RecordRows.{Holds}
use Rattle.promises.proofs.IndexRows.{ByTheTable, Counts}
use Rattle.promises.proofs.WrittenRecords as written
use Rattle.promises.proofs.UselessAnswers as useless
use Rattle.promises.proofs.ExampleRows.{EachRow}
use Rattle.promises.proofs.WriteRows.{RecordFor, WriteRefused, WriteAccepted}
use Rattle.promises.proofs.WriteBytes as bytes
use Rattle.promises.proofs.WriteNumbers as numbers
use Rattle.promises.proofs.WriteAnswers as answers
use Rattle.promises.proofs.WriteAgain as again
use Rattle.promises.proofs.WriteExamples as examples
use Rattle.promises.proofs.WriteExamples.{Writes, Refuses, Shown}

-- of every writing (u, B, the cut, the slots, and the buffer as it is lent), and of any answer and buffer afterwards that keep its promise
abbrev pub OfWritings : (ℕ → ℕ → ℕ → List ℕ → List ℕ → Written → List ℕ → Type 0) → Type 0
OfWritings P =
    (u B cut : ℕ) (slots before : List ℕ) (answer : Written) (after : List ℕ) → MeetsWrite u B cut slots before answer after
    → P u B cut slots before answer after

-- of every writing that is accepted
abbrev pub OfAccepted : (ℕ → ℕ → ℕ → List ℕ → List ℕ → Written → List ℕ → Type 0) → Type 0
OfAccepted P = OfWritings λ u B cut slots before answer after. answer.number ≡ 0 → P u B cut slots before answer after

-- the same, of the bytes at the front of the buffer, as many as the answer says: these are the record
abbrev pub OfFronts : (ℕ → ℕ → ℕ → List ℕ → List ℕ → Type 0) → Type 0
OfFronts P = OfAccepted λ u B cut slots before answer after. P u B cut slots (take answer.length after)

-- THE TABLE READ AS CONDITIONS

-- Writing gives the number and the place of the row that refuses u, B, the cut, the slots or the room, and accepts exactly where none does.
abbrev pub WriteByTheTable : Type 0
WriteByTheTable =
    (u B cut : ℕ) (slots : List ℕ) (space : ℕ)
    → ByTheTable (write_answer u B cut slots space).number (write_answer u B cut slots space).place (WriteRefused u B cut slots space)
    (WriteAccepted u B cut slots space)

pub write_by_the_table : WriteByTheTable
write_by_the_table = numbers.write_table

-- THE BYTES

-- The record of slots that rise in 1..u, with a cut up to u, is what is written from them, and nothing else is.
abbrev pub RecordForIs : Type 0
RecordForIs = OfWritten λ u B cut slots. (r : List ℕ) → RecordFor u B cut slots r ↔ (r ≡ encode B cut slots)

pub record_for_is : RecordForIs
record_for_is u B cut slots pos small within a r = (λ f. bytes.for_written f a, λ e. rw e (bytes.as_written_for u B cut slots pos within a))

-- And by reading: bytes that have at least a head are that record exactly when they have no fault, and read back as this cut and these slots.
abbrev pub RecordForReads : Type 0
RecordForReads =
    OfWritten λ u B cut slots.
    (r : List ℕ) → AllBytes r → 12 ≤ length r
    → RecordFor u B cut slots r ↔ (Accepted u B r × (cut_of r ≡ cut) × (contents u B r ≡ slots))

pub record_for_reads : RecordForReads
record_for_reads u B cut slots pos small within a r all long =
    let is = record_for_is u B cut slots pos small within a r in
    let exact = written.record_exact u B r all pos small long cut slots in
    (λ f. exact.1 (within, a, is.0 f), λ t. is.1 (exact.0 t).2)

-- The answer says the length of the record. The buffer has it at its front, and behind it what stood there before.
abbrev pub WriteFills : Type 0
WriteFills =
    OfAccepted λ u B cut slots before answer after.
    (answer.length ≡ length (encode B cut slots)) × (after ≡ encode B cut slots ++ drop (length (encode B cut slots)) before)

pub write_fills : WriteFills
write_fills u B cut slots before answer after m ok = (
  answers.length_is u B cut slots before answer after m ok,
  answers.after_is u B cut slots before answer after m ok,
)

-- The bytes at the front, as many as the answer says, are the record of the slots with the cut. That is described by its parts, in the words of writing;
-- that these parts read back as the cut and the slots is said by RecordForReads, and by WriteReadsBack and WriteHolds below.
abbrev pub WriteMakes : Type 0
WriteMakes = OfFronts RecordFor

pub write_makes : WriteMakes
write_makes = answers.front_for

-- All of it by the rows alone: what no row refuses is accepted, with the place 0, and any bytes that are the record stand at the front.
abbrev pub WriteTells : Type 0
WriteTells =
    OfWritings λ u B cut slots before answer after.
    (a : WriteAccepted u B cut slots (length before))
    → (answer.number ≡ 0) × (answer.place ≡ 0) × (answer.length ≡ length a.bytes) × (after ≡ a.bytes ++ drop (length a.bytes) before)

pub write_tells : WriteTells
write_tells u B cut slots before answer after m a = (
  answers.tells_number u B cut slots before answer after m a,
  answers.tells_place u B cut slots before answer after m a,
  answers.tells_length u B cut slots before answer after m a,
  answers.tells_buffer u B cut slots before answer after m a,
)

-- WHAT THE RECORD SAYS

-- Its head says the cut that was asked.
abbrev pub HeadCut : Type 0
HeadCut = OfFronts λ u B cut slots r. cut_of r ≡ cut

pub head_cut : HeadCut
head_cut u B cut slots before answer after m ok = (answers.front_reads u B cut slots before answer after m ok).cut_is

-- Its head says how many of the slots lie above the cut.
abbrev pub HeadCount : Type 0
HeadCount = OfFronts λ u B cut slots r. Counts u (λ x. In x slots × (cut < x)) (tail_count r)

pub head_count : HeadCount
head_count u B cut slots before answer after m ok = (answers.front_reads u B cut slots before answer after m ok).counted

-- Its head says how many code bytes there are: those behind the head, w bytes of bits, and m skip entries.
abbrev pub HeadCodes : Type 0
HeadCodes = OfFronts λ u B cut slots r. (w m : ℕ) → RoundsUp cut 8 w → RoundsUp (tail_count r) B m → 12 + w + 8 * m + code_length r ≡ length r

pub head_codes : HeadCodes
head_codes u B cut slots before answer after m ok = (answers.front_reads u B cut slots before answer after m ok).coded

-- Its bits beyond the cut are zero.
abbrev pub WriteUnusedZero : Type 0
WriteUnusedZero = OfFronts λ u B cut slots r. UnusedZero r

pub write_unused_zero : WriteUnusedZero
write_unused_zero u B cut slots before answer after m ok = (answers.front_reads u B cut slots before answer after m ok).clean

-- It has no fault, and it reads back as the slots that were to be written.
abbrev pub WriteReadsBack : Type 0
WriteReadsBack = OfFronts λ u B cut slots r. Accepted u B r × (contents u B r ≡ slots)

pub write_reads_back : WriteReadsBack
write_reads_back u B cut slots before answer after m ok =
    let t = answers.front_reads u B cut slots before answer after m ok in
    (t.accepted, t.contents_are)

-- By its bytes it holds exactly these slots: up to the cut by their bits, above it by the entry of a block and the codes that stand at its offset.
abbrev pub WriteHolds : Type 0
WriteHolds = OfFronts λ u B cut slots r. (x : ℕ) → Holds u B r x ↔ In x slots

pub write_holds : WriteHolds
write_holds u B cut slots before answer after m ok = (answers.front_reads u B cut slots before answer after m ok).holds

-- With the cut u it is a pure bitvector: there is no tail, and nothing stands behind the head but w bytes of bits.
abbrev pub WritePureBits : Type 0
WritePureBits = OfFronts λ u B cut slots r. cut ≡ u → (tail_count r ≡ 0) × ((w : ℕ) → RoundsUp u 8 w → 12 + w ≡ length r)

pub write_pure_bits : WritePureBits
write_pure_bits = answers.front_bits

-- With the cut 0 it is a pure gap list: all slots are in the tail, and behind the head stand m skip entries and the codes, with no bits.
abbrev pub WritePureGaps : Type 0
WritePureGaps =
    OfFronts λ u B cut slots r.
    cut ≡ 0 → (tail_count r ≡ length slots) × ((m : ℕ) → RoundsUp (length slots) B m → 12 + 8 * m + code_length r ≡ length r)

pub write_pure_gaps : WritePureGaps
write_pure_gaps = answers.front_gaps

-- [Order 1] THE ROUND TRIP the other way: what is lent of an accepted index, written anew from its cut and the slots that the list holds, is the same
-- bytes. Every buffer that has room for them will do.
abbrev pub WriteLent : Type 0
WriteLent =
    (bs : List ℕ) (name : ℕ) → AllBytes bs → (count_answer bs name).number ≡ 0 → (before : List ℕ) (answer : Written) (after : List ℕ)
    → length (lent bs name) ≤ length before → MeetsWrite (u_of bs) (block_length bs) (cut_of (lent bs name)) (held bs name) before answer after
    → (answer.number ≡ 0) × (take answer.length after ≡ lent bs name)

pub write_lent : WriteLent
unfolding count_answer
write_lent = again.lent_again

-- WHAT STAYS

-- Every byte behind the record is as it was, and the buffer is as long as it was; so the record lies within it.
abbrev pub WriteKeeps : Type 0
WriteKeeps =
    OfAccepted λ u B cut slots before answer after.
    (drop answer.length after ≡ drop answer.length before) × (length after ≡ length before) × (answer.length ≤ length before)

pub write_keeps : WriteKeeps
write_keeps u B cut slots before answer after m ok = (
  answers.behind_is u B cut slots before answer after m ok,
  answers.after_length u B cut slots before answer after m ok,
  answers.room_is u B cut slots before answer after m ok,
)

-- REFUSAL

-- A refused writing has the length 0, and leaves the buffer as it was.
abbrev pub WriteRefusal : Type 0
WriteRefusal = OfWritings λ u B cut slots before answer after. ¬ (answer.number ≡ 0) → (answer.length ≡ 0) × (after ≡ before)

pub write_refusal : WriteRefusal
write_refusal u B cut slots before answer after m n = (
  answers.refused_length u B cut slots before answer after m n,
  answers.refused_buffer u B cut slots before answer after m n,
)

-- All of it by the rows alone: what a row refuses has the number and the place of that row and the length 0, and the buffer is as it was.
abbrev pub WriteRefuses : Type 0
WriteRefuses =
    OfWritings λ u B cut slots before answer after.
    (r p : ℕ) → WriteRefused u B cut slots (length before) r p
    → (answer.number ≡ r) × (answer.place ≡ p) × (answer.length ≡ 0) × (after ≡ before)

pub write_refuses : WriteRefuses
write_refuses = answers.refused_tells

-- ONE ANSWER

-- Any two answers with their buffers that keep the promise of a writing are the same.
abbrev pub WriteOne : Type 0
WriteOne =
    (u B cut : ℕ) (slots before : List ℕ) (a b : Written) (s t : List ℕ) → MeetsWrite u B cut slots before a s → MeetsWrite u B cut slots before b t
    → (a ≡ b) × (s ≡ t)

pub write_one : WriteOne
write_one u B cut slots before a b s t m n = (m.answers ∙ sym n.answers, m.leaves ∙ sym n.leaves)

-- EXAMPLES. `Writes u B cut slots r`: into every buffer with room for it r is written to the front, what stood behind it stays, and the answer is 0, 0
-- and its length; every shorter buffer gives 12 with that length for its place, and stays as it was. `Refuses u B cut slots number place`: in
-- every buffer the writing is refused so.

-- T3: list 0 of the paper with cut 32, all in bits.
abbrev pub WritesBits : Type 0
WritesBits = Writes 32 4 32 slots0 (hex 16 0x20000000_00000000_00000000_9D_13_50_F4)

pub writes_bits : WritesBits
unfolding opened
writes_bits = examples.writes 32 4 32 slots0 _ refl refl

-- T7: the difference 128 is the code 7F, and 129 is 80 01.
abbrev pub WritesCodes : Type 0
WritesCodes =
    Writes 200 4 0 (1 ∷ 129 ∷ []) (hex 21 0x00000000_02000000_01000000_01000000_00000000_7F)
    × Writes 200 4 0 (1 ∷ 130 ∷ []) (hex 22 0x00000000_02000000_02000000_01000000_00000000_80_01)

pub writes_codes : WritesCodes
unfolding opened
writes_codes = (examples.writes 200 4 0 (1 ∷ 129 ∷ []) _ refl refl, examples.writes 200 4 0 (1 ∷ 130 ∷ []) _ refl refl)

-- T9: no slots with cut 0 are twelve zero bytes.
abbrev pub WritesEmpty : Type 0
WritesEmpty = Writes 32 4 0 [] (replicate 12 0)

pub writes_empty : WritesEmpty
unfolding opened
writes_empty = examples.writes 32 4 0 [] _ refl refl

-- The two records of the paper's index: list 0 with cut 0, and list 1 with cut 16.
abbrev pub WritesPaper : Type 0
WritesPaper = Writes 32 4 0 slots0 list0 × Writes 32 4 16 slots1 list1

pub writes_paper : WritesPaper
unfolding opened
writes_paper = (examples.writes 32 4 0 slots0 _ refl refl, examples.writes 32 4 16 slots1 _ refl refl)

-- A cut that is no multiple of 8: the last five bits of the second byte are zero. And u and B as large as they may be.
abbrev pub WritesOthers : Type 0
WritesOthers =
    Writes 32 2 11 (2 ∷ 3 ∷ 11 ∷ 13 ∷ 14 ∷ 20 ∷ 22 ∷ 31 ∷ [])
    (hex 40 0x0B000000_05000000_02000000_60_20_0D000000_00000000_14000000_01000000_1F000000_02000000_00_01)
    × Writes 1048576 128 0 (1048576 ∷ []) (hex 20 0x00000000_01000000_00000000_00001000_00000000)

pub writes_others : WritesOthers
unfolding opened
writes_others = (examples.writes 32 2 11 _ _ refl refl, examples.writes 1048576 128 0 _ _ refl refl)

-- Row 13 has the position of the first slot that falls, stays, is above u, or is 0. Row 15 comes before it, row 4 before both, of u and of B.
abbrev pub RefusesExamples : Type 0
RefusesExamples =
    Refuses 32 4 0 (5 ∷ 3 ∷ []) 13 1
    × Refuses 32 4 0 (5 ∷ 5 ∷ []) 13 1
    × Refuses 32 4 0 (40 ∷ 3 ∷ []) 13 0
    × Refuses 32 4 0 (0 ∷ []) 13 0
    × Refuses 32 4 33 (0 ∷ []) 15 0
    × Refuses 0 4 33 (0 ∷ []) 4 0
    × Refuses 1048577 4 33 (0 ∷ []) 4 0
    × Refuses 32 0 33 (0 ∷ []) 4 0
    × Refuses 32 129 33 (0 ∷ []) 4 0

pub refuses_examples : RefusesExamples
unfolding opened
refuses_examples = (
  examples.refuses 32 4 0 _ 13 1 (λ n. refl) (omega arith),
  examples.refuses 32 4 0 _ 13 1 (λ n. refl) (omega arith),
  examples.refuses 32 4 0 _ 13 0 (λ n. refl) (omega arith),
  examples.refuses 32 4 0 _ 13 0 (λ n. refl) (omega arith),
  examples.refuses 32 4 33 _ 15 0 (λ n. refl) (omega arith),
  examples.refuses 0 4 33 _ 4 0 (λ n. refl) (omega arith),
  examples.refuses 1048577 4 33 _ 4 0 (λ n. refl) (omega arith),
  examples.refuses 32 0 33 _ 4 0 (λ n. refl) (omega arith),
  examples.refuses 32 129 33 _ 4 0 (λ n. refl) (omega arith),
)

-- So it is of every writing in the table of the paper's examples and in that of the further ones, with the buffers that are printed there.
abbrev pub TableWritings : Type 0
TableWritings = EachRow Shown table × EachRow Shown readings

pub table_writings : TableWritings
table_writings = examples.tables_shown

-- NO USELESS PROGRAM. `room n`: n bytes that are all 9.

-- One that refuses everything breaks the promise at T3.
abbrev pub WriteNotRefusing : Type 0
WriteNotRefusing = (answer : Written) (left : List ℕ) → ¬ (answer.number ≡ 0) → ¬ (MeetsWrite 32 4 32 slots0 (room 16) answer left)

pub write_not_refusing : WriteNotRefusing
unfolding hex hex_f
write_not_refusing = useless.refusing_fails ((writes_bits (room 16)).0 (omega arith)) refl

-- One that writes nothing breaks it at T3, where the first byte is to be 32.
abbrev pub WriteNotIdle : Type 0
WriteNotIdle = (answer : Written) → ¬ (MeetsWrite 32 4 32 slots0 (room 16) answer (room 16))

pub write_not_idle : WriteNotIdle
unfolding hex hex_f
write_not_idle =
    useless.leaving_fails ((writes_bits (room 16)).0 (omega arith)) 0 (room 16) λ e. let z : ◌≡◌ {A = ℕ} 9 32 = e in omega arith

-- One that always gives the same answer breaks it at T3, which has 16 bytes, or at T9, which has 12.
abbrev pub WriteNotOneAnswer : Type 0
WriteNotOneAnswer = (answer : Written) (s t : List ℕ) → ¬ (MeetsWrite 32 4 32 slots0 (room 16) answer s × MeetsWrite 32 4 0 [] (room 16) answer t)

pub write_not_one_answer : WriteNotOneAnswer
unfolding hex hex_f
write_not_one_answer =
    useless.same_answer_fails ((writes_bits (room 16)).0 (omega arith)) ((writes_empty (room 16)).0 (omega arith)) 2
    λ e. let z : ◌≡◌ {A = ℕ} 16 12 = e in omega arith

-- One that always leaves the same bytes breaks it at one of these two: the first byte is to be 32 in the one, and 0 in the other.
abbrev pub WriteNotTheSame : Type 0
WriteNotTheSame = (a b : Written) (left : List ℕ) → ¬ (MeetsWrite 32 4 32 slots0 (room 16) a left × MeetsWrite 32 4 0 [] (room 16) b left)

pub write_not_the_same : WriteNotTheSame
unfolding hex hex_f
write_not_the_same =
    useless.same_leaving_fails ((writes_bits (room 16)).0 (omega arith)) ((writes_empty (room 16)).0 (omega arith)) 0
    λ e. let z : ◌≡◌ {A = ℕ} 32 0 = e in omega arith

-- One that pays no heed to the cut breaks it at list 0 with cut 32 or with cut 0, both in 55 bytes.
abbrev pub WriteNotOneCut : Type 0
WriteNotOneCut = (a b : Written) (left : List ℕ) → ¬ (MeetsWrite 32 4 32 slots0 (room 55) a left × MeetsWrite 32 4 0 slots0 (room 55) b left)

pub write_not_one_cut : WriteNotOneCut
unfolding hex hex_f list0
write_not_one_cut =
    useless.same_leaving_fails ((writes_bits (room 55)).0 (omega arith)) ((writes_paper.0 (room 55)).0 (omega arith)) 0
    λ e. let z : ◌≡◌ {A = ℕ} 32 0 = e in omega arith

-- One that writes on behind the record breaks it at T9 in 14 bytes, of which the last two are to stay 9.
abbrev pub WriteNotBehind : Type 0
WriteNotBehind =
    (answer : Written) (left : List ℕ)
    → (¬ (get_or left 12 0 ≡ 9) → ¬ (MeetsWrite 32 4 0 [] (room 14) answer left)) × (¬ (get_or left 13 0 ≡ 9) → ¬ (MeetsWrite 32 4 0 [] (room 14) answer left))

pub write_not_behind : WriteNotBehind
write_not_behind answer left =
    let known = (writes_empty (room 14)).0 (omega arith) in
    (λ n. useless.leaving_fails known 12 left n answer, λ n. useless.leaving_fails known 13 left n answer)

-- One that reports a length of its own breaks it at T3, where it is 16.
abbrev pub WriteNotOtherLength : Type 0
WriteNotOtherLength = (answer : Written) (left : List ℕ) → ¬ (answer.length ≡ 16) → ¬ (MeetsWrite 32 4 32 slots0 (room 16) answer left)

pub write_not_other_length : WriteNotOtherLength
unfolding hex hex_f
write_not_other_length = useless.number_fails ((writes_bits (room 16)).0 (omega arith)) 2
