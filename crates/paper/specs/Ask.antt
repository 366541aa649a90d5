-- [Numbers of refusal; The question and its search] Asking: the refusals in their order, the answer, and the slice afterwards.
use Rattle.std.specs.Prelude.{ℕ, ◌-◌, ◌≡◌, List, [], ◌++◌, map, length, replicate, eqb}
use Rattle.paper.specs.Lists.{pick, total}
use Rattle.paper.specs.Refusal.{accepted, if_accepted, or_else, fault10, fault11, fault12, fault14}
use Rattle.paper.specs.Index.{u_of, block_length, k_of, record_of}
use Rattle.paper.specs.Look.{look}
use Rattle.paper.specs.Question.{Charge, common_slots, smallest, places, by_skips}
use Rattle.paper.specs.declared.Verdict.{Verdict}
use Rattle.paper.specs.declared.Answer.{Answer}

-- the records named, in the order named
abbrev pub named : List ℕ → List ℕ → List (List ℕ)
named index names = map (record_of index) names

-- the room that a question needs, by either way
unfoldable pub room_needed : List ℕ → ℕ → List ℕ → ℕ
room_needed index way names = smallest (named index names)

-- nothing is asked of an index that looking refuses; then 14, 10, 11, 12
unfoldable pub ask_fault : List ℕ → ℕ → List ℕ → ℕ → Verdict
ask_fault index way names room =
    let question = fault14 way (fault10 names (fault11 (k_of index) names (fault12 room (room_needed index way names) accepted))) in
    or_else (look index) question

-- the slots of the answer, whatever the way
unfoldable pub answer_slots : List ℕ → List ℕ → List ℕ
answer_slots index names = common_slots (u_of index) (block_length index) (named index names)

-- what the question costs, position by position: by skips what the walks cost, plainly nothing
unfoldable pub costs : List ℕ → ℕ → List ℕ → List Charge
costs index way names = let skips = by_skips (u_of index) (block_length index) (named index names) in pick (eqb way 1) skips []

-- the answer: how many slots there are, what the positions cost in sum, and what each of them cost. A refused question has no slots and is
-- charged nothing
unfoldable pub ask_answer : List ℕ → ℕ → List ℕ → ℕ → Answer
ask_answer index way names room =
    let v = ask_fault index way names room in
    let count = length (answer_slots index names) in
    let cs = costs index way names in
    let charged = if_accepted v cs [] in
    let looks : Charge → ℕ = λ c. c.looks in
    let codes : Charge → ℕ = λ c. c.codes in
    record {
      number = v.number;
      place = v.place;
      count = if_accepted v count 0;
      looks = total (map looks charged);
      codes = total (map codes charged);
      looks16 = places looks charged;
      codes16 = places codes charged;
    }

-- the slice afterwards: the answer at its front, and 0 at every place behind; a refusal leaves it as it was
unfoldable pub ask_slice : List ℕ → ℕ → List ℕ → List ℕ → List ℕ
ask_slice index way names before =
    let slots = answer_slots index names in
    let after = slots ++ replicate (length before - length slots) 0 in
    if_accepted (ask_fault index way names (length before)) after before

-- the promise of a question
pub record MeetsAsk (index : List ℕ) (way : ℕ) (names before : List ℕ) (answer : Answer) (after : List ℕ) : Type 0 where
  pub answers : answer ≡ ask_answer index way names (length before)
  pub leaves : after ≡ ask_slice index way names before
