-- WHAT IS PROMISED of looking at an index, testing a slot, counting a list and lending its record. Every statement has a name and its
-- meaning in plain words; the line behind it is its proof, which cites other files. The rows of the table that the statements speak of are
-- in RecordRows and IndexRows. Beside these three files a reader needs the definitions that they name: of crate paper, the bytes of numbers and
-- codes (Bytes, Code), what writing makes (Write), and what is answered (Held, Index, Look, OneList). `AllBytes bs`: every number of bs is
-- below 256, as in every slice of bytes. `In x xs`: x is one of the list xs. `Ascends u p xs`: xs rises strictly, above p and up to u.
use Prim.Native.Nat.{ℕ, suc, ◌+◌, ◌-◌, ◌*◌, ◌≤◌, ◌<◌, min}
use mathlib.Core.Path.{◌≡◌, sym, ◌∙◌}
use mathlib.Core.Bool.{Bool, true, false}
use mathlib.Core.Logic.{◌↔◌}
use mathlib.Core.List.{List, [], flatten}
use lib.ListN.{length, get_or, take, drop}
use Rattle.paper.specs.Lists.{has}
use Rattle.paper.specs.Record.{cut_of, tail_count, bits_of, bit_at, record_fault}
use Rattle.paper.specs.Held.{contents, count_of, Listed, listed, entry_of}
use Rattle.paper.specs.Index.{u_of, block_length, k_of, record_of, held}
use Rattle.paper.specs.Look.{look, MeetsLook}
use Rattle.paper.specs.OneList.{test_answer, count_answer, lent, part_answer, MeetsTest, MeetsCount, MeetsLend, MeetsPart}
use Rattle.paper.specs.Write.{bit_bytes, encode}
use Rattle.paper.specs.declared.Verdict.{Verdict}
use Rattle.paper.specs.declared.Tested.{Tested}
use Rattle.paper.specs.declared.Counted.{Counted}
use Rattle.paper.specs.declared.Part.{Part}
use Rattle.paper.proofs.Hex.{index}
use Rattle.laws.proofs.Lists.{In}
use Rattle.laws.proofs.Parts.{AllBytes}
use Rattle.meaning.proofs.Rising.{Ascends}
use Rattle.meaning.proofs.Sound as sound
use Rattle.promises.proofs.RecordRows.{Parts, Stained, RecordRefused, RecordSound, InTail, Holds}
use Rattle.promises.proofs.IndexRows.{Trailer, EndsIn, Refused, StainedAt, WellFormed, NameRefused, NameAccepted, TestRefused, TestAccepted, ByTheTable, Counts}
use Rattle.promises.proofs.WrittenRecords as written
use Rattle.promises.proofs.RecordNumbers as records
use Rattle.promises.proofs.RecordSlots as slots
use Rattle.promises.proofs.IndexNumbers as indexes
use Rattle.promises.proofs.OneReading as one
use Rattle.promises.proofs.SameIndexes as same
use Rattle.promises.proofs.Seventeen as seventeen
use Rattle.promises.proofs.AcceptedLists as lists
use Rattle.promises.proofs.OperationNumbers as operations
use Rattle.promises.proofs.OperationAnswers as answers
use Rattle.promises.proofs.UselessPrograms as useless
use Rattle.promises.proofs.UselessPrograms.{refusing_fails, same_fails}

-- THE TABLE READ AS CONDITIONS

-- Looking at any bytes gives the number and the place of the row that refuses them, and accepts exactly the well-formed indexes.
abbrev pub LookByTheTable : Type 0
LookByTheTable = (bs : List ℕ) → AllBytes bs → ByTheTable (look bs).number (look bs).place (Refused bs) (WellFormed bs)

pub look_by_the_table : LookByTheTable
look_by_the_table = indexes.look_by_the_table

-- [Order 1] It gives 17 and the place i exactly when row 17 applies to list i and the lists before it are sound.
abbrev pub LookSeventeen : Type 0
LookSeventeen = (bs : List ℕ) → AllBytes bs → (i : ℕ) → (((look bs).number ≡ 17) × ((look bs).place ≡ i)) ↔ StainedAt bs i

pub look_seventeen : LookSeventeen
look_seventeen = seventeen.look_seventeen

-- Testing a slot gives the number and the place of the row that refuses the index, the name or the slot, and accepts exactly where none does.
abbrev pub TestByTheTable : Type 0
TestByTheTable =
    (bs : List ℕ) → AllBytes bs → (name slot : ℕ)
    → ByTheTable (test_answer bs name slot).number (test_answer bs name slot).place (TestRefused bs name slot) (TestAccepted bs name slot)

pub test_by_the_table : TestByTheTable
unfolding test_answer
test_by_the_table = operations.test_table

-- Counting a list gives the number and the place of the row that refuses the index or the name, and accepts exactly where none does.
abbrev pub CountByTheTable : Type 0
CountByTheTable =
    (bs : List ℕ) → AllBytes bs → (name : ℕ)
    → ByTheTable (count_answer bs name).number (count_answer bs name).place (NameRefused bs name) (NameAccepted bs name)

pub count_by_the_table : CountByTheTable
unfolding count_answer
count_by_the_table = operations.name_table

-- Telling where a lent record lies goes by the same rows as counting.
abbrev pub PartByTheTable : Type 0
PartByTheTable =
    (bs : List ℕ) → AllBytes bs → (name : ℕ)
    → ByTheTable (part_answer bs name).number (part_answer bs name).place (NameRefused bs name) (NameAccepted bs name)

pub part_by_the_table : PartByTheTable
unfolding part_answer
part_by_the_table = operations.name_table

-- of every record as looking comes to it: bytes, 12 of them at least, with u and B in their ranges
abbrev pub OfRecords : (ℕ → ℕ → List ℕ → Type 0) → Type 0
OfRecords P = (u B : ℕ) (r : List ℕ) → AllBytes r → 1 ≤ B → u ≤ 1048576 → 12 ≤ length r → P u B r

-- a record has no fault
abbrev pub Accepted : ℕ → ℕ → List ℕ → Type 0
Accepted u B r = record_fault u B (length r) r ≡ 0

-- A record is refused with the number f exactly when f's row applies to it.
abbrev pub RecordByTheTable : Type 0
RecordByTheTable = OfRecords λ u B r. (f : ℕ) → ((record_fault u B (length r) r ≡ f) × ¬ (f ≡ 0)) ↔ RecordRefused u B r f

pub record_number : RecordByTheTable
record_number = records.record_number

-- [Order 1] It is refused with 17 exactly when its parts are those that its head says (row 6 does not apply), the cut ends inside a byte, and a bit of
-- that byte beyond the cut is set: `Stained`, in RecordRows.
abbrev pub RecordSeventeen : Type 0
RecordSeventeen = OfRecords λ u B r. (record_fault u B (length r) r ≡ 17) ↔ Stained u B r

pub record_seventeen : RecordSeventeen
record_seventeen = records.record_stained

-- It is accepted exactly when it is written from a cut, bytes of bits with none set beyond the cut, and slots that rise above the cut.
abbrev pub RecordAccepted : Type 0
RecordAccepted = OfRecords λ u B r. Accepted u B r ↔ RecordSound u B r

pub record_sound : RecordAccepted
record_sound = records.record_sound

-- It is accepted exactly when no row applies to it.
abbrev pub RecordUnrefused : Type 0
RecordUnrefused = OfRecords λ u B r. Accepted u B r ↔ ((f : ℕ) → ¬ (RecordRefused u B r f))

pub record_none : RecordUnrefused
record_none = records.record_none

-- No two numbers are given to one record.
abbrev pub RecordOneNumber : Type 0
RecordOneNumber = OfRecords λ u B r. (f g : ℕ) → RecordRefused u B r f → RecordRefused u B r g → f ≡ g

pub record_one : RecordOneNumber
record_one = records.record_one

-- Bytes end in one trailer at most.
abbrev pub OneTrailer : Type 0
OneTrailer = (bs : List ℕ) (t s : Trailer) → EndsIn bs t → EndsIn bs s → t ≡ s

pub one_trailer : OneTrailer
one_trailer = one.one_trailer

-- A well-formed index has one trailer and one list of records.
abbrev pub OneIndex : Type 0
OneIndex = (bs : List ℕ) (w v : WellFormed bs) → (w.trailer ≡ v.trailer) × (w.records ≡ v.records)

pub one_index : OneIndex
one_index = one.one_index

-- SOUND LISTS

-- of each list of an index that looking accepts
abbrev pub OfLists : (List ℕ → ℕ → Type 0) → Type 0
OfLists P = (bs : List ℕ) → (look bs).number ≡ 0 → (i : ℕ) → i < k_of bs → P bs i

-- Its slots rise strictly and lie in 1..u.
abbrev pub ListsRise : Type 0
ListsRise = OfLists λ bs i. Ascends (u_of bs) 0 (held bs i)

pub lists_rise : ListsRise
lists_rise = lists.list_rise

-- There are as many as its set bits up to the cut and its tail count say.
abbrev pub ListsCounted : Type 0
ListsCounted = OfLists λ bs i. length (held bs i) ≡ count_of (record_of bs i)

pub lists_counted : ListsCounted
lists_counted = lists.list_count

-- the list as it is searched: the cut, the bits, m, the entries and the blocks
abbrev pub list : List ℕ → ℕ → Listed
list bs i = listed (u_of bs) (block_length bs) (record_of bs i)

-- what its search compares: s(0), the cut, and s(1) to s(m)
abbrev pub entry : List ℕ → ℕ → ℕ → ℕ
entry bs i j = entry_of (list bs i).cut (list bs i).entries j

-- Up to the cut a list holds the slots whose bits are set, and no other.
abbrev pub ListsBits : Type 0
ListsBits = OfLists λ bs i. (x : ℕ) → 1 ≤ x → x ≤ (list bs i).cut → In x (held bs i) ↔ (bit_at (list bs i).bits x ≡ true)

pub lists_bits : ListsBits
unfolding listed
lists_bits = lists.list_bits

-- The entries from s(0) to s(m) rise strictly.
abbrev pub EntriesRise : Type 0
EntriesRise = OfLists λ bs i. (a b : ℕ) → a < b → b ≤ (list bs i).m → entry bs i a < entry bs i b

pub entries_rise : EntriesRise
unfolding listed
entries_rise = lists.list_entries

-- None of them is above u.
abbrev pub EntriesWithin : Type 0
EntriesWithin = OfLists λ bs i. (a : ℕ) → a ≤ (list bs i).m → entry bs i a ≤ u_of bs

pub entries_within : EntriesWithin
unfolding listed
entries_within = lists.list_bound

-- There are m blocks; each has B slots, and the last those that are left of the tail count n.
abbrev pub BlocksSized : Type 0
BlocksSized =
    OfLists λ bs i.
    (length (list bs i).blocks ≡ (list bs i).m)
    × ((b : ℕ) → b < (list bs i).m → length (get_or (list bs i).blocks b []) ≡ min (block_length bs) (tail_count (record_of bs i) - b * block_length bs))

pub blocks_sized : BlocksSized
unfolding listed
blocks_sized bs ok i l = (lists.list_blocks bs ok i l, lists.list_sizes bs ok i l)

-- s(b + 1) is the first slot of block b, counted from 0.
abbrev pub EntriesFirst : Type 0
EntriesFirst = OfLists λ bs i. (b : ℕ) → b < (list bs i).m → get_or (get_or (list bs i).blocks b []) 0 0 ≡ entry bs i (suc b)

pub entries_first : EntriesFirst
unfolding listed
entries_first = lists.list_first

-- WHAT A LIST HOLDS

-- A slot above the cut is held by an accepted record exactly when it is the first slot of a block, or comes from it by the codes at the
-- block's offset.
abbrev pub TailHeld : Type 0
TailHeld = OfRecords λ u B r. Accepted u B r → (x : ℕ) → ((has x (contents u B r) ≡ true) × (cut_of r < x)) ↔ InTail u B r x

pub tail_held : TailHeld
tail_held = slots.tail_held

-- Up to the cut it holds the slots whose bits the bytes of bits are written from.
abbrev pub BitHeld : Type 0
BitHeld =
    OfRecords λ u B r.
    Accepted u B r → (c n L : ℕ) (bits entries codes : List ℕ) → Parts u B r c n L bits entries codes → (t : ℕ → Bool) → bits ≡ bit_bytes t 1 (length bits)
    → (x : ℕ) → 1 ≤ x → x ≤ c → has x (contents u B r) ≡ t x

pub bit_held : BitHeld
bit_held = slots.bit_held

-- Both together: what an accepted record holds.
abbrev pub RecordHeld : Type 0
RecordHeld = OfRecords λ u B r. Accepted u B r → (x : ℕ) → (has x (contents u B r) ≡ true) ↔ Holds u B r x

pub record_held : RecordHeld
record_held = slots.record_held

-- List i of a well-formed index holds what the record that was written there holds.
abbrev pub ListHeld : Type 0
ListHeld =
    (bs : List ℕ) → AllBytes bs → (w : WellFormed bs) (i : ℕ) → i < w.trailer.k → (x : ℕ)
    → In x (held bs i) ↔ Holds w.trailer.u w.trailer.B (get_or w.records i []) x

pub list_held : ListHeld
list_held = lists.well_holds

-- What an accepted record holds rises strictly in 1..u.
abbrev pub ContentsRise : Type 0
ContentsRise = (u B : ℕ) (r : List ℕ) → 1 ≤ B → Accepted u B r → Ascends u 0 (contents u B r)

pub contents_rise : ContentsRise
contents_rise = sound.contents_rise

-- the bits beyond the cut, to the end of the last byte, are zero
abbrev pub UnusedZero : List ℕ → Type 0
UnusedZero r = (x : ℕ) → cut_of r < x → x ≤ 8 * length (bits_of r) → bit_at (bits_of r) x ≡ false

-- [Order 1] An accepted record has these bits zero.
abbrev pub AcceptedUnusedZero : Type 0
AcceptedUnusedZero = OfRecords λ u B r. Accepted u B r → UnusedZero r

pub accepted_unused_zero : AcceptedUnusedZero
accepted_unused_zero = written.unused_zero

-- It is, byte for byte, what is written from its cut and the slots that it holds.
abbrev pub ContentsWritten : Type 0
ContentsWritten = OfRecords λ u B r. Accepted u B r → r ≡ encode B (cut_of r) (contents u B r)

pub contents_written : ContentsWritten
contents_written = written.contents_written

-- of every record that is written from slots that rise strictly in 1..u
abbrev pub OfWritten : (ℕ → ℕ → ℕ → List ℕ → Type 0) → Type 0
OfWritten P = (u B c : ℕ) (xs : List ℕ) → 1 ≤ B → u ≤ 1048576 → c ≤ u → Ascends u 0 xs → P u B c xs

-- It is accepted, and holds exactly these slots.
abbrev pub WrittenHeld : Type 0
WrittenHeld = OfWritten λ u B c xs. Accepted u B (encode B c xs) × (contents u B (encode B c xs) ≡ xs)

pub written_held : WrittenHeld
written_held = written.written_held

-- It is a list of bytes, and has at least a head.
abbrev pub WrittenBytes : Type 0
WrittenBytes = OfWritten λ u B c xs. AllBytes (encode B c xs) × (12 ≤ length (encode B c xs))

pub written_bytes : WrittenBytes
written_bytes = written.written_bytes

-- A record is accepted with the cut c, and holds xs, exactly when xs rises strictly in 1..u, c is at most u, and the record is what is written
-- from them.
abbrev pub RecordExact : Type 0
RecordExact =
    OfRecords λ u B r.
    (c : ℕ) (xs : List ℕ) → (Accepted u B r × (cut_of r ≡ c) × (contents u B r ≡ xs)) ↔ ((c ≤ u) × Ascends u 0 xs × (r ≡ encode B c xs))

pub record_exact : RecordExact
record_exact = written.record_exact

-- ONE RECORD: for the same u and B, two accepted records with the same cut and the same slots are the same bytes.
abbrev pub OneRecord : Type 0
OneRecord =
    (u B : ℕ) (r s : List ℕ) → AllBytes r → AllBytes s → 1 ≤ B → u ≤ 1048576 → 12 ≤ length r → 12 ≤ length s → Accepted u B r → Accepted u B s
    → cut_of r ≡ cut_of s → contents u B r ≡ contents u B s → r ≡ s

pub one_record : OneRecord
one_record = written.one_record

-- So it is by what is written alone: sound records with the same cut that hold the same slots, as RecordRows says both, are the same bytes.
abbrev pub OneRecordHeld : Type 0
OneRecordHeld =
    (u B : ℕ) (r s : List ℕ) → AllBytes r → AllBytes s → 1 ≤ B → u ≤ 1048576 → 12 ≤ length r → 12 ≤ length s → (p : RecordSound u B r)
    (q : RecordSound u B s) → p.cut ≡ q.cut → ((x : ℕ) → Holds u B r x ↔ Holds u B s x) → r ≡ s

pub one_record_held : OneRecordHeld
one_record_held = same.one_record_held

-- And there is one: for rising slots in 1..u and a cut up to u, exactly what is written is accepted with this cut and these slots.
abbrev pub ExactlyOne : Type 0
ExactlyOne =
    OfWritten λ u B c xs.
    (r : List ℕ) → (AllBytes r × (12 ≤ length r) × Accepted u B r × (cut_of r ≡ c) × (contents u B r ≡ xs)) ↔ (r ≡ encode B c xs)

pub exactly_one : ExactlyOne
exactly_one = written.exactly_one

-- ONE INDEX: two accepted indexes with the same u, the same block length and as many lists, whose lists have the same cuts and the same slots, are the
-- same bytes.
abbrev pub OneIndexFor : Type 0
OneIndexFor =
    (bs cs : List ℕ) → AllBytes bs → AllBytes cs → (look bs).number ≡ 0 → (look cs).number ≡ 0 → u_of bs ≡ u_of cs → block_length bs ≡ block_length cs
    → k_of bs ≡ k_of cs → ((i : ℕ) → i < k_of bs → (cut_of (record_of bs i) ≡ cut_of (record_of cs i)) × (held bs i ≡ held cs i)) → bs ≡ cs

pub one_index_for : OneIndexFor
one_index_for = same.one_index_for

-- TEST, COUNT, LEND, PART

-- An accepted test says yes exactly when the slot is one of those that the list holds.
abbrev pub TestSays : Type 0
TestSays = (bs : List ℕ) (name slot : ℕ) → (test_answer bs name slot).number ≡ 0 → ((test_answer bs name slot).yes ≡ true) ↔ In slot (held bs name)

pub test_says : TestSays
test_says = answers.test_says

-- That is: exactly when the bytes of the record that was written there hold it.
abbrev pub TestTells : Type 0
TestTells =
    (bs : List ℕ) (name : ℕ) → AllBytes bs → (slot : ℕ) (a : TestAccepted bs name slot)
    → ((test_answer bs name slot).yes ≡ true) ↔ Holds a.named.well.trailer.u a.named.well.trailer.B (get_or a.named.well.records name []) slot

pub test_tells : TestTells
test_tells = answers.test_tells

-- An accepted count is how many slots the list holds.
abbrev pub CountSays : Type 0
CountSays = (bs : List ℕ) (name : ℕ) → (count_answer bs name).number ≡ 0 → (count_answer bs name).count ≡ length (held bs name)

pub count_says : CountSays
count_says = answers.count_says

-- That is: it is the length of a list that rises strictly in 1..u and has exactly the slots that the bytes of the record hold.
abbrev pub CountTells : Type 0
CountTells =
    (bs : List ℕ) (name : ℕ) → AllBytes bs → (a : NameAccepted bs name)
    → Counts a.well.trailer.u (Holds a.well.trailer.u a.well.trailer.B (get_or a.well.records name [])) (count_answer bs name).count

pub count_tells : CountTells
count_tells = answers.count_tells

-- The lent bytes of an accepted name are the record that was written there.
abbrev pub LendSays : Type 0
LendSays = (bs : List ℕ) (name : ℕ) → AllBytes bs → (a : NameAccepted bs name) → lent bs name ≡ get_or a.well.records name []

pub lend_says : LendSays
lend_says = answers.lend_says

-- They are empty exactly where counting refuses.
abbrev pub LendEmpty : Type 0
LendEmpty = (bs : List ℕ) (name : ℕ) → (lent bs name ≡ []) ↔ ¬ ((count_answer bs name).number ≡ 0)

pub lend_empty : LendEmpty
unfolding count_answer
lend_empty bs name = (λ e ok. answers.lend_some bs name ok e, answers.lend_refusal bs name)

-- [Order 1] Of an accepted name they are, byte for byte, what is written from their cut and the slots that the list holds.
abbrev pub LendWritten : Type 0
LendWritten =
    (bs : List ℕ) (name : ℕ) → AllBytes bs → (count_answer bs name).number ≡ 0
    → lent bs name ≡ encode (block_length bs) (cut_of (lent bs name)) (held bs name)

pub lend_written : LendWritten
unfolding count_answer
lend_written = same.lent_written

-- Start and length say where the lent bytes lie in the index.
abbrev pub PartSays : Type 0
PartSays = (bs : List ℕ) (name : ℕ) → lent bs name ≡ take (part_answer bs name).length (drop (part_answer bs name).start bs)

pub part_says : PartSays
part_says = answers.part_says

-- The lent bytes lie within the index, and the length is theirs.
abbrev pub PartFits : Type 0
PartFits =
    (bs : List ℕ) (name : ℕ)
    → ((part_answer bs name).start + (part_answer bs name).length ≤ length bs) × (length (lent bs name) ≡ (part_answer bs name).length)

pub part_fits : PartFits
part_fits = answers.part_fits

-- Of an accepted name, start and length say where the record was written: behind the records before it, with its length.
abbrev pub PartPlaced : Type 0
PartPlaced =
    (bs : List ℕ) (name : ℕ) → AllBytes bs → (a : NameAccepted bs name)
    → ((part_answer bs name).start ≡ length (flatten (take name a.well.records))) × ((part_answer bs name).length ≡ length (get_or a.well.records name []))

pub part_placed : PartPlaced
part_placed = answers.part_is

-- Number and place are those of counting.
abbrev pub PartNumber : Type 0
PartNumber =
    (bs : List ℕ) (name : ℕ)
    → ((part_answer bs name).number ≡ (count_answer bs name).number) × ((part_answer bs name).place ≡ (count_answer bs name).place)

pub part_number : PartNumber
part_number = answers.part_number

-- REFUSAL

-- A refused test says "no".
abbrev pub TestRefusal : Type 0
TestRefusal = (bs : List ℕ) (name slot : ℕ) → ¬ ((test_answer bs name slot).number ≡ 0) → (test_answer bs name slot).yes ≡ false

pub test_refusal : TestRefusal
test_refusal = answers.test_refusal

-- A refused count is 0.
abbrev pub CountRefusal : Type 0
CountRefusal = (bs : List ℕ) (name : ℕ) → ¬ ((count_answer bs name).number ≡ 0) → (count_answer bs name).count ≡ 0

pub count_refusal : CountRefusal
count_refusal = answers.count_refusal

-- A refused part starts at 0 and has the length 0. (That nothing is lent is said above.)
abbrev pub PartRefusal : Type 0
PartRefusal = (bs : List ℕ) (name : ℕ) → ¬ ((part_answer bs name).number ≡ 0) → ((part_answer bs name).start ≡ 0) × ((part_answer bs name).length ≡ 0)

pub part_refusal : PartRefusal
part_refusal = answers.part_refusal

-- ONE ANSWER

-- any two answers that keep a promise are the same
abbrev pub One : (A : Type 0) → (A → Type 0) → Type 0
One A Meets = (a b : A) → Meets a → Meets b → a ≡ b

-- Each operation's promise is kept by one answer only: looking, testing, counting, lending, and telling where the lent record lies.
abbrev pub OneAnswer : Type 0
OneAnswer =
    (bs : List ℕ) (name slot : ℕ)
    → One Verdict (MeetsLook bs) × One Tested (MeetsTest bs name slot) × One Counted (MeetsCount bs name) × One (List ℕ) (MeetsLend bs name)
    × One Part (MeetsPart bs name)

pub one_answer : OneAnswer
one_answer bs name slot = (λ a b s t. s ∙ sym t, λ a b s t. s ∙ sym t, λ a b s t. s ∙ sym t, λ a b s t. s ∙ sym t, λ a b s t. s ∙ sym t)

-- NO USELESS PROGRAM

-- no answer that refuses keeps this promise: so a program that refuses everything breaks it
abbrev pub NotRefusing : (A : Type 0) → (A → ℕ) → (A → Type 0) → Type 0
NotRefusing A number Meets = (answer : A) → ¬ (number answer ≡ 0) → ¬ (Meets answer)

-- no answer keeps both promises: so a program that always answers the same breaks one of them
abbrev pub NotTheSame : (A : Type 0) → (A → Type 0) → (A → Type 0) → Type 0
NotTheSame A Meets Other = (answer : A) → ¬ (Meets answer × Other answer)

-- Looking: a program that refuses everything fails at the paper's index, and one of a single answer there or at no bytes.
abbrev pub LookUseless : Type 0
LookUseless = NotRefusing Verdict (λ v. v.number) (MeetsLook index) × NotTheSame Verdict (MeetsLook index) (MeetsLook [])

pub look_useless : LookUseless
look_useless = (refusing_fails (λ v. v.number) (look index) useless.look_accepts, same_fails (λ v. v.number) (look index) (look []) useless.look_differs)

-- Testing: the first fails at list 0 and slot 30, the second there or at slot 32.
abbrev pub TestUseless : Type 0
TestUseless = NotRefusing Tested (λ t. t.number) (MeetsTest index 0 30) × NotTheSame Tested (MeetsTest index 0 30) (MeetsTest index 0 32)

pub test_useless : TestUseless
test_useless = (refusing_fails (λ t. t.number) _ useless.test_accepts, same_fails (λ t. t.yes) _ _ useless.test_differs)

-- Counting: the first fails at list 1, the second there or at list 0.
abbrev pub CountUseless : Type 0
CountUseless = NotRefusing Counted (λ t. t.number) (MeetsCount index 1) × NotTheSame Counted (MeetsCount index 1) (MeetsCount index 0)

pub count_useless : CountUseless
count_useless = (refusing_fails (λ t. t.number) _ useless.count_accepts, same_fails (λ t. t.count) _ _ useless.count_differs)

-- Lending: a program that never lends anything fails at list 1, and one that always lends the same there or at list 0.
abbrev pub LendUseless : Type 0
LendUseless = (¬ (MeetsLend index 1 [])) × NotTheSame (List ℕ) (MeetsLend index 1) (MeetsLend index 0)

pub lend_useless : LendUseless
lend_useless = (useless.lend_not_empty, same_fails length _ _ useless.lend_differs)

-- Telling where the lent record lies: as with counting.
abbrev pub PartUseless : Type 0
PartUseless = NotRefusing Part (λ t. t.number) (MeetsPart index 1) × NotTheSame Part (MeetsPart index 1) (MeetsPart index 0)

pub part_useless : PartUseless
part_useless = (refusing_fails (λ t. t.number) _ useless.part_accepts, same_fails (λ t. t.length) _ _ useless.part_differs)
