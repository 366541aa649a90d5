-- WHAT IS PROMISED of the search by skips and of its cost. Every statement has a name and its meaning in plain words; the line behind it is its
-- proof, which cites other files. Beside this file a reader needs, of crate paper, the search itself and what is searched (Search, Held,
-- Walk, Question, Ask), and here the words that the statements are put in: SearchDoubling (doublings, last_good, sees, GoodSoFar),
-- SearchLooks (Agree, Once), NextSlots (NextOf), SearchFinds (entry_at), FoundOrNot (found_walk, found_charges, Apart),
-- BinaryDigits (digits), Bills (bill, bill_by), WalkCost (searches, search_of, looked_at, walked_over, allowance, allowed), SeekCodes (below,
-- block_of, to_read, read_over), SkipCost (visits, searches_in, seen_in, read_in, bound_of, AtMost), AnswerCost (looks_charged, codes_charged, visits_of), and for the
-- order of the lists QuestionAlike (InOrder) and SkipOrder (sizes, visits_in).
use Prim.Native.Nat.{ℕ, suc, ◌+◌, ◌-◌, ◌*◌, ◌/◌, ◌^◌, ◌≤◌, ◌<◌, min}
use mathlib.Core.Path.{◌≡◌}
use mathlib.Core.Logic.{◌⊎◌}
use mathlib.Core.List.{List, [], ◌∷◌, map}
use native.Mathlib.Nat.{le_refl}
use native.Mathlib.Omega.{arith}
use lib.Dec.{eqb}
use lib.ListN.{length, drop, replicate}
use Rattle.paper.specs.Lists.{has, keep, total}
use Rattle.paper.specs.Record.{record_fault}
use Rattle.paper.specs.Held.{Listed, listed, contents}
use Rattle.paper.specs.Index.{u_of, block_length}
use Rattle.paper.specs.Search.{at, saw, looks_of, mid, halved, searched}
use Rattle.paper.specs.Walk.{seek, tried, walk_list}
use Rattle.paper.specs.Question.{Charge, positions, in_order, smallest}
use Rattle.paper.specs.Ask.{named, costs, ask_answer}
use Rattle.laws.proofs.Lists.{In, Each}
use Rattle.laws.proofs.Searches.{halve_one, halve_up, halve_down, search_from, search_below}
use Rattle.meaning.proofs.Rising.{Ascends}
use Rattle.meaning.proofs.Walking.{walk_keeps}
use Rattle.meaning.proofs.Charging.{plain_costs}
use Rattle.promises.proofs.QuestionAlike.{InOrder}
use Rattle.promises.proofs.NextSlots.{NextOf}
use Rattle.promises.proofs.SearchDoubling.{doublings, last_good, sees, GoodSoFar, search_ends, search_past_m, search_fails}
use Rattle.promises.proofs.SearchLooks.{Agree, Once, search_same, search_inside, search_once}
use Rattle.promises.proofs.SearchFinds as finds
use Rattle.promises.proofs.SearchFinds.{entry_at}
use Rattle.promises.proofs.FoundOrNot.{Apart, found_walk, found_charges, walk_alike, charges_alike}
use Rattle.promises.proofs.BinaryDigits.{digits, digits_none, digits_below, digits_from, digits_shift}
use Rattle.promises.proofs.SearchCost.{search_cost, billed}
use Rattle.promises.proofs.SearchPrices.{search_priced, search_reach}
use Rattle.promises.proofs.WalkCost.{
  searches,
  search_of,
  looked_at,
  walked_over,
  allowed,
  try_looks,
  walk_seen,
  walk_ahead,
  walk_bill,
  walk_below,
  walk_spare,
  walk_looks,
  bill_bounds,
  old_bounds,
  walk_allowed,
}
use Rattle.promises.proofs.Bills.{bill, bill_by, old_bill, bill_grows}
use Rattle.promises.proofs.BestBills.{bill_capped}
use Rattle.promises.proofs.BestFirst.{bill_first}
use Rattle.promises.proofs.SeekCodes.{below, block_of, seek_codes, try_codes, try_few, walk_codes}
use Rattle.promises.proofs.SkipCost.{searches_in, seen_in, read_in, bound_of, AtMost}
use Rattle.promises.proofs.AnswerCost.{looks_charged, codes_charged, visits_of}
use Rattle.promises.proofs.AnswerCost as answer
use Rattle.promises.proofs.SkipOrder.{sizes, visits_in}
use Rattle.promises.proofs.SkipOrder as ordered

-- of every search, whatever the entries are: entries s, the slot x, the last position m, the finger p
abbrev pub OfSearches : ((ℕ → ℕ) → ℕ → ℕ → ℕ → Type 0) → Type 0
OfSearches P = (s : ℕ → ℕ) (x m p : ℕ) → P s x m p

-- THE RULE

-- Doubling ends: for some k the first k positions p + 1, p + 2, p + 4 .. are within m and their entries at most x, and the next one lies past m,
-- or its entry is above x.
abbrev pub DoublingEnds : Type 0
DoublingEnds = OfSearches λ s x m p. (k : ℕ) × GoodSoFar s x m p k × ((m < p + 2 ^ k) ⊎ ((p + 2 ^ k ≤ m) × (x < s (p + 2 ^ k))))

pub doubling_ends : DoublingEnds
doubling_ends = search_ends

-- Where the next one lies past m, the search has looked at these k positions, and then halves the gap between the last of them (p, where there
-- is none) and m + 1.
abbrev pub DoublingPast : Type 0
DoublingPast =
    OfSearches λ s x m p.
    (k : ℕ) → GoodSoFar s x m p k → m < p + 2 ^ k → searched s x m p ≡ sees (doublings p k) (halved s x (last_good p k) (m + 1))

pub doubling_past : DoublingPast
doubling_past = search_past_m

-- Where the next one is within m and its entry is above x, the search has looked at it too, and then halves the gap up to it.
abbrev pub DoublingFails : Type 0
DoublingFails =
    OfSearches λ s x m p.
    (k : ℕ) → GoodSoFar s x m p k → p + 2 ^ k ≤ m → x < s (p + 2 ^ k)
    → searched s x m p ≡ sees (doublings p (suc k)) (halved s x (last_good p k) (p + 2 ^ k))

pub doubling_fails : DoublingFails
doubling_fails = search_fails

-- Halving ends at lo where lo and hi are neighbours. Else it looks at the middle, rounded down, and goes on in the upper half where the entry
-- there is at most x, and in the lower half where it is above x.
abbrev pub HalvingRule : Type 0
HalvingRule =
    (s : ℕ → ℕ) (x lo hi : ℕ)
    → (hi - lo ≤ 1 → halved s x lo hi ≡ at lo)
    × (1 < hi - lo → s (mid lo hi) ≤ x → halved s x lo hi ≡ saw (mid lo hi) (halved s x (mid lo hi) hi))
    × (1 < hi - lo → x < s (mid lo hi) → halved s x lo hi ≡ saw (mid lo hi) (halved s x lo (mid lo hi)))

pub halving_rule : HalvingRule
halving_rule s x lo hi = (halve_one s x lo hi, halve_up s x lo hi, halve_down s x lo hi)

-- LOOKED

-- j and the positions looked at go by the entries at these positions and by no other: entries that agree there are searched alike.
abbrev pub GoesBySeen : Type 0
GoesBySeen = OfSearches λ s x m p. (t : ℕ → ℕ) → Agree s t (searched s x m p).seen → searched t x m p ≡ searched s x m p

pub goes_by_seen : GoesBySeen
goes_by_seen s x m p t = search_same s t x m p

-- Every position looked at lies behind the finger and not past m.
abbrev pub SeenInside : Type 0
SeenInside = OfSearches λ s x m p. (i : ℕ) → In i (searched s x m p).seen → (p < i) × (i ≤ m)

pub seen_inside : SeenInside
seen_inside = search_inside

-- No position is looked at twice.
abbrev pub SeenOnce : Type 0
SeenOnce = OfSearches λ s x m p. Once (searched s x m p).seen

pub seen_once : SeenOnce
seen_once = search_once

-- j is not below the finger, and not past m where the finger is not.
abbrev pub FingerMoves : Type 0
FingerMoves = OfSearches λ s x m p. (p ≤ (searched s x m p).j) × (p ≤ m → (searched s x m p).j ≤ m)

pub finger_moves : FingerMoves
finger_moves s x m p = (search_from s x m p, search_below s x m p)

-- The looks of a candidate are as many as the positions looked at for it, and those of a walk as many as all its candidates' together.
abbrev pub LooksAreSeen : Type 0
LooksAreSeen =
    (l : Listed) (p : ℕ)
    → ((x : ℕ) → (tried l p x).looks ≡ length (looked_at l p x)) × ((xs : List ℕ) → (walk_list l p xs).looks ≡ length (walked_over l p xs))

pub looks_are_seen : LooksAreSeen
looks_are_seen l p = (try_looks l p, walk_seen l p)

-- WHAT IS FOUND

-- of every record that has no fault
abbrev pub OfSound : (ℕ → ℕ → List ℕ → Type 0) → Type 0
OfSound P = (u B : ℕ) (r : List ℕ) → 1 ≤ B → record_fault u B (length r) r ≡ 0 → P u B r

-- In a sound list, from a finger whose entry is at most x, the search ends at the greatest position up to m whose entry is at most x; it is not
-- below the finger.
abbrev pub SearchLeads : Type 0
SearchLeads =
    OfSound λ u B r.
    (x p : ℕ) → p ≤ (listed u B r).m → entry_at (listed u B r) p ≤ x
    → let j = (search_of (listed u B r) p x).j in
    (p ≤ j) × (j ≤ (listed u B r).m) × (entry_at (listed u B r) j ≤ x) × ((k : ℕ) → j < k → k ≤ (listed u B r).m → x < entry_at (listed u B r) k)

pub search_leads : SearchLeads
search_leads = finds.search_leads

-- [Order 8] From there the next slot told is the next one that the list holds, from x on: by the bits and the first block, or by block j and the one behind
-- it. Up to the cut any finger that is not past m will do.
abbrev pub TriedNext : Type 0
TriedNext =
    OfSound λ u B r.
    (x p : ℕ) → 0 < x → p ≤ (listed u B r).m → ((listed u B r).cut < x → entry_at (listed u B r) p ≤ x)
    → NextOf (λ z. In z (contents u B r)) x (tried (listed u B r) p x).slot

pub tried_next : TriedNext
tried_next = finds.tried_next

-- [Order 8] That is all that a walk has to see to: the finger is not past m, and its entry is at most x, or the finger is 0.
abbrev pub TriedNextFrom : Type 0
TriedNextFrom =
    OfSound λ u B r.
    (x p : ℕ) → 0 < x → p ≤ (listed u B r).m → (entry_at (listed u B r) p ≤ x) ⊎ (p ≡ 0)
    → NextOf (λ z. In z (contents u B r)) x (tried (listed u B r) p x).slot

pub tried_next_from : TriedNextFrom
tried_next_from u B r pos ok x p some l g = finds.tried_next u B r pos ok x p some l (finds.ready u B r pos ok x p g)

-- So a candidate is found, being itself the next slot, exactly when the list holds it.
abbrev pub TriedFinds : Type 0
TriedFinds =
    OfSound λ u B r.
    (x p : ℕ) → 0 < x → p ≤ (listed u B r).m → ((listed u B r).cut < x → entry_at (listed u B r) p ≤ x)
    → eqb (tried (listed u B r) p x).slot x ≡ has x (contents u B r)

pub tried_finds : TriedFinds
tried_finds = finds.tried_finds

-- The finger: up to the cut it stays where it is, and a search leaves it at its j, whichever block tells the next slot.
abbrev pub FingerLeft : Type 0
FingerLeft =
    (l : Listed) (x p : ℕ) → (x ≤ l.cut → (tried l p x).finger ≡ p) × (l.cut < x → (tried l p x).finger ≡ (search_of l p x).j)

pub finger_left : FingerLeft
finger_left = finds.finger_left

-- [Order 8] So in a sound list a finger that would do for x is left where it will do for every slot from x on.
abbrev pub FingerReady : Type 0
FingerReady =
    OfSound λ u B r.
    (x p : ℕ) → p ≤ (listed u B r).m → (entry_at (listed u B r) p ≤ x) ⊎ (p ≡ 0)
    → let q = (tried (listed u B r) p x).finger in (q ≤ (listed u B r).m) × ((y : ℕ) → x ≤ y → (entry_at (listed u B r) q ≤ y) ⊎ (q ≡ 0))

pub finger_ready : FingerReady
finger_ready = finds.finger_ready

-- And so a walk of rising candidates from finger 0 keeps those that the list holds, and no other.
abbrev pub WalkKeeps : Type 0
WalkKeeps = OfSound λ u B r. (xs : List ℕ) → Ascends u 0 xs → (walk_list (listed u B r) 0 xs).kept ≡ keep (λ x. has x (contents u B r)) xs

pub walk_kept : WalkKeeps
walk_kept = walk_keeps

-- of every question by skips that is accepted
abbrev pub OfSkips : (List ℕ → List ℕ → ℕ → Type 0) → Type 0
OfSkips P = (index names : List ℕ) (room : ℕ) → (ask_answer index 1 names room).number ≡ 0 → P index names room

-- AS THE PAPER TELLS IT. `found_walk l p xs`, in FoundOrNot, is the walk in the paper's own words, which knows no next slot: a candidate up to the cut is a
-- bit test, and one above it is found where the reading of block j stops at it.

-- [Order 8] In a list whose first block, where there is one, begins above the cut, from any finger, a walk of slots keeps what that walk keeps, with its looks
-- and its codes.
abbrev pub WalkAsBefore : Type 0
WalkAsBefore = (l : Listed) → Apart l → (p : ℕ) (xs : List ℕ) → Each (λ x. 0 < x) xs → walk_list l p xs ≡ found_walk l p xs

pub walk_as_before : WalkAsBefore
walk_as_before = walk_alike

-- [Order 8] Sound lists are such, so every position of an accepted question by skips is charged the looks and the codes of those walks.
abbrev pub ChargedAsBefore : Type 0
ChargedAsBefore = OfSkips λ index names room. costs index 1 names ≡ found_charges (u_of index) (block_length index) (named index names)

pub charged_as_before : ChargedAsBefore
unfolding costs
charged_as_before index names room ok =
    charges_alike (u_of index) (block_length index) (answer.some_b index names room ok) (named index names) (answer.sound index names room ok)

-- CODES

-- In a block of slots y, ys that rises, a search for x reads as many codes as slots are below x, but at most one for each slot behind y.
abbrev pub BlockCodes : Type 0
BlockCodes = (x u y : ℕ) (ys : List ℕ) → Ascends u y ys → (seek x y ys).codes ≡ min (below x (y ∷ ys)) (length ys)

pub codes_of_block : BlockCodes
codes_of_block = seek_codes

-- So a search that ends at block j reads as many codes as this block has slots below x, but at most one less than it has slots.
abbrev pub SearchCodes : Type 0
SearchCodes =
    OfSound λ u B r.
    (p x : ℕ) → (listed u B r).cut < x
    → let block = block_of (listed u B r) (search_of (listed u B r) p x).j in
    (tried (listed u B r) p x).codes ≡ min (below x block) (length block - 1)

pub search_codes : SearchCodes
search_codes = try_codes

-- That is at most B − 1, whatever the finger and the slot are.
abbrev pub SearchCodesFew : Type 0
SearchCodesFew = OfSound λ u B r. (p x : ℕ) → (tried (listed u B r) p x).codes ≤ B - 1

pub search_codes_few : SearchCodesFew
search_codes_few = try_few

-- COST

-- 0 has no digit. A number above 0 has k digits where it is below 2 to the power of k, and not below 2 to the power of k − 1.
abbrev pub DigitsTold : Type 0
DigitsTold = (digits 0 ≡ 0) × ((n : ℕ) → 0 < n → (2 ^ (digits n - 1) ≤ n) × (n < 2 ^ digits n))

pub digits_told : DigitsTold
digits_told = (digits_none, λ n h. (digits_from n h, digits_below n))

-- A search that moves the finger on by d costs at most two looks for each binary digit of d, and at most one where d is 0.
abbrev pub SearchLooksFew : Type 0
SearchLooksFew =
    OfSearches λ s x m p.
    let d = (searched s x m p).j - p in
    (0 < d → looks_of (searched s x m p) ≤ 2 * digits d) × (d ≡ 0 → looks_of (searched s x m p) ≤ 1)

pub search_looks_few : SearchLooksFew
search_looks_few s x m p = ((search_cost s x m p).moved, (search_cost s x m p).stayed)

-- [Order 14] For every e, d has at most e + floor(d / 2^e) digits.
abbrev pub DigitsShifted : Type 0
DigitsShifted = (e d : ℕ) → digits d ≤ e + d / 2 ^ e

pub digits_shifted : DigitsShifted
digits_shifted = digits_shift

-- [Order 14] So a search that moves the finger on by d costs at most 1 + 2e + 2 · floor(d / 2^e) looks, also where d is 0.
abbrev pub SearchBill : Type 0
SearchBill = OfSearches λ s x m p. (e : ℕ) → looks_of (searched s x m p) ≤ bill e 1 ((searched s x m p).j - p)

pub search_bill : SearchBill
search_bill s x m p e = let h = search_priced s x m p e (1 + 2 * e) (billed e) in omega arith

-- [Order 14] THE BILL. Candidates of which q are searched for in a list of m blocks, the finger carried on, cost at most q + 2qe + 2 · floor(m / 2^e) looks in
-- all: for every e, in any list, whatever the candidates and their order, and wherever the finger is to begin with.
abbrev pub WalkBill : Type 0
WalkBill = (l : Listed) (xs : List ℕ) (e p : ℕ) → (walk_list l p xs).looks ≤ bill e (searches l xs) l.m

pub walks_billed : WalkBill
walks_billed = walk_bill

-- [Order 14] Of the m blocks only those ahead of the finger count; past m there is none.
abbrev pub WalkBillAhead : Type 0
WalkBillAhead = (l : Listed) (xs : List ℕ) (e p : ℕ) → (walk_list l p xs).looks ≤ bill e (searches l xs) (l.m - p)

pub walks_billed_ahead : WalkBillAhead
walks_billed_ahead = walk_ahead

-- With e = 0 the bill is q + 2m: candidates of which q are searched for in a list of m blocks, the finger starting at 0 and carried on, cost at most q + 2m looks
-- in all, in any list, whatever the candidates and their order.
abbrev pub WalkLooksFew : Type 0
WalkLooksFew = (l : Listed) (xs : List ℕ) → (walk_list l 0 xs).looks ≤ searches l xs + 2 * l.m

pub walk_looks_few : WalkLooksFew
walk_looks_few = old_bounds

-- With the finger at p to begin with, only the blocks ahead of it count.
abbrev pub WalkLooksFrom : Type 0
WalkLooksFrom = (l : Listed) (xs : List ℕ) (p : ℕ) → p ≤ l.m → (walk_list l p xs).looks ≤ searches l xs + 2 * (l.m - p)

pub walk_looks_from : WalkLooksFrom
walk_looks_from l xs p h = walk_looks l xs p

-- [Order 14] HOW NEAR. Where something lies ahead of the finger, a search costs less than two looks for each binary digit of what lies ahead.
abbrev pub SearchLooksAhead : Type 0
SearchLooksAhead = OfSearches λ s x m p. p < m → looks_of (searched s x m p) < 2 * digits (m - p)

pub search_looks_ahead : SearchLooksAhead
search_looks_ahead = search_reach

-- [Order 14] So no bill is quite reached where something is searched for; and where e is not 0, one look of each search is to spare besides.
abbrev pub WalkSpare : Type 0
WalkSpare =
    (l : Listed) (xs : List ℕ) (e p : ℕ) → 0 < searches l xs
    → ((walk_list l p xs).looks < bill e (searches l xs) (l.m - p)) × (0 < e → (walk_list l p xs).looks + searches l xs < bill e (searches l xs) (l.m - p))

pub walks_spare : WalkSpare
walks_spare l xs e p n = (walk_below l xs e p n, walk_spare l xs e p n)

-- [Order 14] WHICH e. The bill is least with the first e for which 2 to the power of e goes into m at most 2q times.
abbrev pub BillBest : Type 0
BillBest = (e q m : ℕ) → m / 2 ^ e ≤ 2 * q → ((f : ℕ) → f < e → 2 * q < m / 2 ^ f) → (f : ℕ) → bill e q m ≤ bill f q m

pub bill_best : BillBest
bill_best e q m = bill_first q m e

-- [Order 14] Nothing is gained above the digits of m, where it goes into m no more: any other e may be exchanged for that number of digits.
abbrev pub BillLeast : Type 0
BillLeast = (e q m : ℕ) → bill (min e (digits m)) q m ≤ bill e q m

pub bill_least : BillLeast
bill_least = bill_capped

-- And no walk costs more than its searches may cost one by one: two for each binary digit of the blocks that a search moves on by, one where it stays.
abbrev pub WalkLooksDigits : Type 0
WalkLooksDigits = (l : Listed) (p : ℕ) (xs : List ℕ) → (walk_list l p xs).looks ≤ allowed l p xs

pub walk_looks_digits : WalkLooksDigits
walk_looks_digits = walk_allowed

-- In a sound list they cost at most B − 1 codes for each search.
abbrev pub WalkCodesFew : Type 0
WalkCodesFew = OfSound λ u B r. (xs : List ℕ) (p : ℕ) → (walk_list (listed u B r) p xs).codes ≤ (B - 1) * searches (listed u B r) xs

pub walk_codes_few : WalkCodesFew
walk_codes_few = walk_codes

-- THE ANSWER

-- An accepted answer's looks and codes are the sums of what is charged to the positions.
abbrev pub AnswerSums : Type 0
AnswerSums =
    (index : List ℕ) (way : ℕ) (names : List ℕ) (room : ℕ) → (ask_answer index way names room).number ≡ 0
    → ((ask_answer index way names room).looks ≡ total (looks_charged index way names))
    × ((ask_answer index way names room).codes ≡ total (codes_charged index way names))

pub answer_sums : AnswerSums
answer_sums index way names room ok = (answer.answer_looks index way names room ok, answer.answer_codes index way names room ok)

-- By skips every position is charged but that of the smallest list, by rising count.
abbrev pub PositionsCharged : Type 0
PositionsCharged = (index names : List ℕ) → map (λ (c : Charge). c.position) (costs index 1 names) ≡ drop 1 (positions (named index names))

pub positions_charged : PositionsCharged
positions_charged = answer.skips_charged

-- The looks charged to a position are as many as the positions that are looked at in its list, for the candidates that come to it: those slots of
-- the smallest list that all lists before it hold.
abbrev pub ChargedSeen : Type 0
ChargedSeen = OfSkips λ index names room. looks_charged index 1 names ≡ map (λ v. length (seen_in v)) (visits_of index names)

pub charged_seen : ChargedSeen
charged_seen = answer.charged_seen

-- The codes charged to it are those that its searches read, by SearchCodes.
abbrev pub ChargedRead : Type 0
ChargedRead = OfSkips λ index names room. codes_charged index 1 names ≡ map read_in (visits_of index names)

pub charged_read : ChargedRead
charged_read = answer.charged_read

-- And all of it by what the lists hold: whatever order os has each position once, by rising number of slots held, and of equal ones the position named
-- first (there is one such order), the list at its first position gives the candidates, and the others are charged in that order.
abbrev pub ChargedInOrder : Type 0
ChargedInOrder =
    OfSkips λ index names room.
    (os : List ℕ) → InOrder (sizes index names) os
    → (map (λ (c : Charge). c.position) (costs index 1 names) ≡ drop 1 os)
    × (looks_charged index 1 names ≡ map (λ v. length (seen_in v)) (visits_in index names os))
    × (codes_charged index 1 names ≡ map read_in (visits_in index names os))

pub charged_in_order : ChargedInOrder
charged_in_order index names room ok os o = (
  ordered.positions_ordered index names room ok os o,
  ordered.looks_ordered index names room ok os o,
  ordered.codes_ordered index names room ok os o,
)

-- [Order 14] The looks charged are at most q + 2qe + 2 · floor(m / 2^e), for q searches in a list of m blocks, whatever e is chosen for that q and m: each list
-- may have the one that is best for it.
abbrev pub ChargedBill : Type 0
ChargedBill =
    OfSkips λ index names room.
    (e : ℕ → ℕ → ℕ) → AtMost (looks_charged index 1 names) (map (bound_of (bill_by e)) (visits_of index names))

pub charged_bill : ChargedBill
charged_bill index names room ok e = answer.charged_looks index names room ok (bill_by e) (bill_bounds e)

-- With e = 0: at most q + 2m.
abbrev pub ChargedLooks : Type 0
ChargedLooks = OfSkips λ index names room. AtMost (looks_charged index 1 names) (map (λ v. searches_in v + 2 * v.list.m) (visits_of index names))

pub charged_looks : ChargedLooks
charged_looks index names room ok = answer.charged_looks index names room ok old_bill old_bounds

-- The codes charged: no more than B − 1 for one search.
abbrev pub ChargedCodes : Type 0
ChargedCodes = OfSkips λ index names room. AtMost (codes_charged index 1 names) (map (λ v. (block_length index - 1) * searches_in v) (visits_of index names))

pub charged_codes : ChargedCodes
charged_codes = answer.charged_codes

-- [Order 14] Summed up: an answer's looks do not pass the bills of all names but the smallest list's, whatever e is chosen for each.
abbrev pub AnswerBill : Type 0
AnswerBill =
    OfSkips λ index names room.
    (e : ℕ → ℕ → ℕ) → (ask_answer index 1 names room).looks ≤ total (map (bound_of (bill_by e)) (visits_of index names))

pub answer_bill : AnswerBill
answer_bill index names room ok e = answer.looks_bound index names room ok (bill_by e) (bill_bounds e)

-- And with e = 0: an answer's looks do not pass q + 2m, added over all names but the smallest list's, and its codes do not pass B − 1 a search.
abbrev pub AnswerCosts : Type 0
AnswerCosts =
    OfSkips λ index names room.
    ((ask_answer index 1 names room).looks ≤ total (map (λ v. searches_in v + 2 * v.list.m) (visits_of index names)))
    × ((ask_answer index 1 names room).codes ≤ (block_length index - 1) * total (map searches_in (visits_of index names)))

pub answer_costs : AnswerCosts
answer_costs index names room ok = (answer.looks_bound index names room ok old_bill old_bounds, answer.codes_bound index names room ok)

-- With no walk in sight: where the smallest list has n slots, each further list costs at most n + 2m looks and (B − 1) n codes.
abbrev pub AnswerCostsPlain : Type 0
AnswerCostsPlain =
    OfSkips λ index names room.
    let rs = named index names in
    ((ask_answer index 1 names room).looks ≤ total (map (λ r. smallest rs + 2 * (listed (u_of index) (block_length index) r).m) (drop 1 (in_order rs))))
    × ((ask_answer index 1 names room).codes ≤ (block_length index - 1) * (smallest rs * (length names - 1)))

pub answer_costs_plain : AnswerCostsPlain
answer_costs_plain index names room ok = (
  answer.looks_plain index names room ok old_bill old_bounds (λ q m h. omega arith),
  answer.codes_plain index names room ok,
)

-- [Order 14] And by the bill, with an e for each list, chosen by its blocks: before a question is asked, the counts and the blocks of its lists tell what it may
-- cost.
abbrev pub AnswerBillPlain : Type 0
AnswerBillPlain =
    OfSkips λ index names room.
    let rs = named index names in
    let m : List ℕ → ℕ = λ r. (listed (u_of index) (block_length index) r).m in
    (e : ℕ → ℕ) → (ask_answer index 1 names room).looks ≤ total (map (λ r. bill (e (m r)) (smallest rs) (m r)) (drop 1 (in_order rs)))

pub answer_bill_plain : AnswerBillPlain
answer_bill_plain index names room ok e =
    answer.looks_plain index names room ok (λ q m. bill (e m) q m) (bill_bounds (λ q m. e m)) (λ q m h. bill_grows (e m) q _ m m h (le_refl m))

-- Plainly nothing is charged, and there are no looks and no codes, in sum and in each of the sixteen places, accepted or refused.
abbrev pub PlainFree : Type 0
PlainFree =
    (index names : List ℕ)
    → (costs index 0 names ≡ [])
    × ((room : ℕ)
    → ((ask_answer index 0 names room).looks ≡ 0) × ((ask_answer index 0 names room).codes ≡ 0)
    × ((ask_answer index 0 names room).looks16 ≡ replicate 16 0) × ((ask_answer index 0 names room).codes16 ≡ replicate 16 0))

pub plain_free : PlainFree
plain_free index names = (
  plain_costs index names,
  λ room. (
    answer.plain_looks index names room,
    answer.plain_codes index names room,
    answer.plain_looks16 index names room,
    answer.plain_codes16 index names room,
  ),
)
