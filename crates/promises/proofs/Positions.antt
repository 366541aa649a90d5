-- WHAT IS PROMISED of what each list of a question cost [Order 2]. Every statement has a name and its meaning in plain words; the line behind it is its
-- proof, which cites other files. Beside this file a reader needs, of crate paper, the answer (Ask), and here the words that the statements are put in:
-- PlaceCosts (list_at, Spent), SkipOrder (sizes), WalkCost (searches, walked_over, allowed, allowance), Bills (bill), SeekCodes (read_over), QuestionExamples (Charges),
-- BillExamples (long, both); of crate meaning, Orders (Before) and Rising (Ascends); of laws, Lists (In). A position is that of a name in the question as it was asked, counted from 0.
use Prim.Native.Nat.{ℕ, ◌+◌, ◌-◌, ◌*◌, ◌≤◌, ◌<◌}
use mathlib.Core.Path.{◌≡◌, refl, sym, ap, ◌∙◌}
use mathlib.Core.List.{List, [], ◌∷◌}
use native.Mathlib.Omega.{arith}
use lib.ListN.{length, get_or}
use Rattle.paper.specs.Lists.{total}
use Rattle.paper.specs.Index.{block_length}
use Rattle.paper.specs.Ask.{ask_answer, MeetsAsk}
use Rattle.paper.specs.declared.Answer.{Answer}
use Rattle.paper.proofs.Hex.{index, slots1}
use Rattle.paper.proofs.Open.{opened}
use Rattle.paper.proofs.Rows.{room}
use Rattle.paper.proofs.Table.{table}
use Rattle.paper.proofs.Readings.{all_rows}
use Rattle.meaning.proofs.Orders.{Before}
use Rattle.promises.proofs.ExampleRows.{labelled}
use Rattle.promises.proofs.QuestionExamples as examples
use Rattle.promises.proofs.QuestionExamples.{Charges}
use Rattle.promises.proofs.WalkCost.{searches, allowed, bill_bounds}
use Rattle.promises.proofs.WalkNear.{spare_walks}
use Rattle.promises.proofs.Bills.{bill, bill_old}
use Rattle.promises.proofs.SkipOrder.{sizes}
use Rattle.promises.proofs.PlaceSums as sums
use Rattle.promises.proofs.PlaceCosts as places
use Rattle.promises.proofs.PlaceCosts.{list_at, Spent}
use Rattle.promises.proofs.BillExamples as bills
use Rattle.promises.proofs.BillExamples.{long, both}

-- of every question, accepted or refused, by any way
abbrev pub OfAnswers : (List ℕ → Answer → Type 0) → Type 0
OfAnswers P = (index : List ℕ) (way : ℕ) (names : List ℕ) (room : ℕ) → P names (ask_answer index way names room)

-- There are sixteen places for the looks, and sixteen for the codes.
abbrev pub SixteenPlaces : Type 0
SixteenPlaces = OfAnswers λ names a. (length a.looks16 ≡ 16) × (length a.codes16 ≡ 16)

pub sixteen_places : SixteenPlaces
sixteen_places index way names room = (sums.looks_sixteen index way names room, sums.codes_sixteen index way names room)

-- The two sums are the totals of these.
abbrev pub PlacesTotal : Type 0
PlacesTotal = OfAnswers λ names a. (a.looks ≡ total a.looks16) × (a.codes ≡ total a.codes16)

pub places_total : PlacesTotal
places_total index way names room = (sums.looks_total index way names room, sums.codes_total index way names room)

-- A place behind the names is 0.
abbrev pub UnusedFree : Type 0
UnusedFree = OfAnswers λ names a. (i : ℕ) → length names ≤ i → (get_or a.looks16 i 0 ≡ 0) × (get_or a.codes16 i 0 ≡ 0)

pub unused_free : UnusedFree
unused_free index way names room i l = (places.unused_looks index way names room i l, places.unused_codes index way names room i l)

-- (Of a refused question every place is 0 by AskRefusal, and of a plain one by PlainFree.)

-- of every position of a question by skips that is accepted; `Before` there: its list holds fewer slots, or as many and is named earlier
abbrev pub OfPositions : (List ℕ → List ℕ → ℕ → ℕ → Type 0) → Type 0
OfPositions P = (index names : List ℕ) (room : ℕ) → (ask_answer index 1 names room).number ≡ 0 → (i : ℕ) → i < length names → P index names room i

-- The starting list is the one that no other comes before. Its place is 0.
abbrev pub StartFree : Type 0
StartFree =
    OfPositions λ index names room i.
    ((j : ℕ) → j < length names → ¬ (Before (sizes index names) j i))
    → (get_or (ask_answer index 1 names room).looks16 i 0 ≡ 0) × (get_or (ask_answer index 1 names room).codes16 i 0 ≡ 0)

pub start_free : StartFree
start_free = places.started

-- There is one such position, and it comes before every other.
abbrev pub OneStart : Type 0
OneStart =
    (index names : List ℕ) (room : ℕ) → (ask_answer index 1 names room).number ≡ 0
    → (s : ℕ) × (s < length names) × ((j : ℕ) → j < length names → ¬ (Before (sizes index names) j s))
    × ((i : ℕ) → i < length names → ¬ (i ≡ s) → Before (sizes index names) s i)

pub one_start : OneStart
one_start = places.one_first

-- Every other position, one that some other comes before, has what its own searches cost: the candidates that come to it are the slots that stand in every
-- list before it; the looks are those at entries of its list, search by search, from finger 0 on (an entry looked at twice counts twice); and the codes are
-- those that the searches read.
abbrev pub PlaceSpent : Type 0
PlaceSpent = OfPositions λ index names room i. (s : ℕ) → s < length names → Before (sizes index names) s i → Spent index names room i

pub place_spent : PlaceSpent
place_spent = places.spent

-- [Order 14] Which candidates these are is settled by the question, and so is how many of them are searched for.
abbrev pub OneSpent : Type 0
OneSpent = (index names : List ℕ) (room i : ℕ) (s t : Spent index names room i) → s.candidates ≡ t.candidates

pub one_spent : OneSpent
one_spent = places.spent_one

-- [Order 14] The looks of such a position are at most q + 2qe + 2 · floor(m / 2^e), for q searches in a list of m blocks: for every e.
abbrev pub PlaceBill : Type 0
PlaceBill =
    OfPositions λ index names room i.
    (s : Spent index names room i) (e : ℕ)
    → get_or (ask_answer index 1 names room).looks16 i 0 ≤ bill e (searches (list_at index names i) s.candidates) (list_at index names i).m

pub place_bill : PlaceBill
place_bill index names room ok i l s e = places.spent_looks index names room ok i l s (λ n q m. n ≤ bill e q m) (bill_bounds (λ q m. e))

-- With e = 0 that is q + 2m: demand 3, position by position.
abbrev pub PlaceLooks : Type 0
PlaceLooks =
    OfPositions λ index names room i.
    (s : Spent index names room i)
    → get_or (ask_answer index 1 names room).looks16 i 0 ≤ searches (list_at index names i) s.candidates + 2 * (list_at index names i).m

pub place_looks : PlaceLooks
place_looks index names room ok i l s = rw bill_old at (place_bill index names room ok i l s 0)

-- [Order 14] Where something is searched for, no bill is quite reached; and where e is not 0, q looks are to spare besides.
abbrev pub PlaceSpare : Type 0
PlaceSpare =
    OfPositions λ index names room i.
    (s : Spent index names room i) (e : ℕ)
    → let looks = get_or (ask_answer index 1 names room).looks16 i 0 in
    let q = searches (list_at index names i) s.candidates in
    let m = (list_at index names i).m in
    0 < q → (looks < bill e q m) × (0 < e → looks + q < bill e q m)

pub place_spare : PlaceSpare
place_spare index names room ok i l s e =
    places.spent_looks index names room ok i l s (λ n q m. 0 < q → (n < bill e q m) × (0 < e → n + q < bill e q m)) (spare_walks e)

-- They are also at most what the searches there may cost one by one: two for each binary digit of the blocks that a search moves on by, one where it stays.
abbrev pub PlaceDigits : Type 0
PlaceDigits =
    OfPositions λ index names room i.
    (s : Spent index names room i) → get_or (ask_answer index 1 names room).looks16 i 0 ≤ allowed (list_at index names i) 0 s.candidates

pub place_digits : PlaceDigits
place_digits = places.spent_digits

-- The codes are at most B − 1 for each search.
abbrev pub PlaceCodes : Type 0
PlaceCodes =
    OfPositions λ index names room i.
    (s : Spent index names room i)
    → get_or (ask_answer index 1 names room).codes16 i 0 ≤ (block_length index - 1) * searches (list_at index names i) s.candidates

pub place_codes : PlaceCodes
place_codes = places.spent_codes

-- EXAMPLES. `Charges bs way names before looks codes`: whatever keeps the promise of this question has these looks and these codes at its names' places, and 0
-- at all others of the sixteen.

-- On the paper's index, by skips: T1, lists 0 and 1; the same named the other way round; lists 1, 0 and 0 again; lists 0, 1 and 1 again; T5, list 1 alone; both
-- lists eight times in turn. Then plainly; and T4, with too little room.
abbrev pub PaperPlaces : Type 0
PaperPlaces =
    Charges index 1 (0 ∷ 1 ∷ []) (room 8) (9 ∷ 0 ∷ []) (14 ∷ 0 ∷ [])
    × Charges index 1 (1 ∷ 0 ∷ []) (room 7) (0 ∷ 9 ∷ []) (0 ∷ 14 ∷ [])
    × Charges index 1 (1 ∷ 0 ∷ 0 ∷ []) (room 7) (0 ∷ 9 ∷ 8 ∷ []) (0 ∷ 14 ∷ 11 ∷ [])
    × Charges index 1 (0 ∷ 1 ∷ 1 ∷ []) (room 7) (9 ∷ 0 ∷ 1 ∷ []) (14 ∷ 0 ∷ 3 ∷ [])
    × Charges index 1 (1 ∷ []) (room 7) [] []
    × Charges index 1 (0 ∷ 1 ∷ 0 ∷ 1 ∷ 0 ∷ 1 ∷ 0 ∷ 1 ∷ 0 ∷ 1 ∷ 0 ∷ 1 ∷ 0 ∷ 1 ∷ 0 ∷ 1 ∷ []) (room 7)
    (9 ∷ 0 ∷ 8 ∷ 1 ∷ 8 ∷ 1 ∷ 8 ∷ 1 ∷ 8 ∷ 1 ∷ 8 ∷ 1 ∷ 8 ∷ 1 ∷ 8 ∷ 1 ∷ []) (14 ∷ 0 ∷ 11 ∷ 3 ∷ 11 ∷ 3 ∷ 11 ∷ 3 ∷ 11 ∷ 3 ∷ 11 ∷ 3 ∷ 11 ∷ 3 ∷ 11 ∷ 3 ∷ [])
    × Charges index 0 (0 ∷ 1 ∷ 0 ∷ []) (room 7) [] []
    × Charges index 1 (0 ∷ 1 ∷ []) (room 6) [] []

-- (rows of the table by their places, counted from 0; rows of the readings by their labels)
pub paper_places : PaperPlaces
unfolding slots1 table all_rows labelled
paper_places = (
  ((examples.in_table 0).asked _ _ _ _ _ _ _ _ refl).1,
  ((examples.in_readings 701).asked _ _ _ _ _ _ _ _ refl).1,
  ((examples.in_readings 306).asked _ _ _ _ _ _ _ _ refl).1,
  ((examples.in_readings 702).asked _ _ _ _ _ _ _ _ refl).1,
  ((examples.in_table 6).asked _ _ _ _ _ _ _ _ refl).1,
  ((examples.in_readings 703).asked _ _ _ _ _ _ _ _ refl).1,
  ((examples.in_readings 705).asked _ _ _ _ _ _ _ _ refl).1,
  ((examples.in_table 4).asked _ _ _ _ _ _ _ _ refl).1,
)

-- [Order 14] FEW SLOTS IN A LONG LIST. `long`, in BillExamples, has a block for each slot: the even slots 2 to 62 in list 0, and 16 32 48 in list 1. By skips
-- these three are searched for in the 31 blocks, and cost 23 looks. The least bill of all is 27, with e = 3; q + 2m is 65. No three searches can come nearer to a
-- bill of 27 with e = 3 than that, by PlaceSpare.
abbrev pub BillSharper : Type 0
BillSharper =
    Charges long 1 both (room 3) (23 ∷ 0 ∷ []) []
    × ((s : Spent long both 3 0) → searches (list_at long both 0) s.candidates ≡ 3)
    × ((list_at long both 0).m ≡ 31)
    × (bill 3 3 31 ≡ 27) × ((e : ℕ) → 27 ≤ bill e 3 31) × (3 + 2 * 31 ≡ 65)

pub bill_sharper : BillSharper
unfolding all_rows labelled opened
bill_sharper = (((examples.in_readings 1001).asked _ _ _ _ _ _ _ _ refl).1, bills.long_searches, refl, refl, bills.long_least, refl)

-- NO USELESS PROGRAM

-- One that tells a cost at the rank of its list breaks the promise at T1: list 0 comes second there by its count, and stands at position 0.
abbrev pub AskNotByRank : Type 0
AskNotByRank = (answer : Answer) (left : List ℕ) → get_or answer.looks16 1 0 ≡ 9 → ¬ (MeetsAsk index 1 (0 ∷ 1 ∷ []) (room 8) answer left)

pub ask_not_by_rank : AskNotByRank
ask_not_by_rank answer left e m =
    let z : ◌≡◌ {A = ℕ} 9 0 = sym e ∙ ap (λ (l : List ℕ). get_or l 1 0) (paper_places.0 answer left m).0 in absurd (omega arith)

-- One that tells all of the cost at the first of the lists that cost something breaks it at lists 1, 0 and 0, though its sum is right.
abbrev pub AskNotAtOnce : Type 0
AskNotAtOnce = (answer : Answer) (left : List ℕ) → get_or answer.looks16 1 0 ≡ 17 → ¬ (MeetsAsk index 1 (1 ∷ 0 ∷ 0 ∷ []) (room 7) answer left)

pub ask_not_at_once : AskNotAtOnce
ask_not_at_once answer left e m =
    let z : ◌≡◌ {A = ℕ} 17 9 = sym e ∙ ap (λ (l : List ℕ). get_or l 1 0) (paper_places.2 answer left m).0 in absurd (omega arith)

-- What the places depend on is what the whole answer depends on (AskDepends), and any two answers that keep the promise of a question agree in all of them
-- (AskOne), for these speak of the whole answer.
