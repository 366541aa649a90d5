-- [Numbers of refusal] Operations on one list of an index: testing a slot, telling the next one, counting, lending the record.
use Rattle.std.specs.Prelude.{ℕ, ◌+◌, ◌-◌, ◌≡◌, false, List, [], ◌∷◌}
use Rattle.paper.specs.Lists.{has, first_from}
use Rattle.paper.specs.Held.{count_of}
use Rattle.paper.specs.Refusal.{accepted, if_accepted, or_else, fault11, fault16}
use Rattle.paper.specs.Index.{u_of, k_of, start_of, record_of, held}
use Rattle.paper.specs.Look.{look}
use Rattle.paper.specs.declared.Verdict.{Verdict}
use Rattle.paper.specs.declared.Tested.{Tested}
use Rattle.paper.specs.declared.Next.{Next}
use Rattle.paper.specs.declared.Counted.{Counted}
use Rattle.paper.specs.declared.Part.{Part}

-- the index, then 11 of the one name
unfoldable pub name_fault : List ℕ → ℕ → Verdict
name_fault index name = let later = fault11 (k_of index) (name ∷ []) accepted in or_else (look index) later

-- Testing: the same, and then 16 of the slot
unfoldable pub test_fault : List ℕ → ℕ → ℕ → Verdict
test_fault index name x = let later = fault16 (u_of index) x accepted in or_else (name_fault index name) later

-- the answer: yes where the slot stands in the list
unfoldable pub test_answer : List ℕ → ℕ → ℕ → Tested
test_answer index name x =
    let v = test_fault index name x in
    let holds = has x (held index name) in
    record { number = v.number; place = v.place; yes = if_accepted v holds false }

-- [Order 8] Telling the next one: refused as testing is. A list's slots ascend, so the first that is not below x is the least; 0: there is none
unfoldable pub next_answer : List ℕ → ℕ → ℕ → Next
next_answer index name x =
    let v = test_fault index name x in
    let slot = first_from x (held index name) in
    record { number = v.number; place = v.place; slot = if_accepted v slot 0 }

-- Counting: a good name is answered with the size of its list
unfoldable pub count_answer : List ℕ → ℕ → Counted
count_answer index name =
    let v = name_fault index name in
    let size = count_of (record_of index name) in
    record { number = v.number; place = v.place; count = if_accepted v size 0 }

-- Lending: the record's bytes as they lie, and none where counting refuses
unfoldable pub lent : List ℕ → ℕ → List ℕ
lent index name = let bytes = record_of index name in if_accepted (name_fault index name) bytes []

-- where the lent bytes lie in the index
unfoldable pub part_answer : List ℕ → ℕ → Part
part_answer index name =
    let v = name_fault index name in
    let from = start_of index name in
    let size = start_of index (name + 1) - from in
    record { number = v.number; place = v.place; start = if_accepted v from 0; length = if_accepted v size 0 }

-- the promises of testing, telling the next slot, counting, lending, and telling where the lent part lies
abbrev pub MeetsTest : List ℕ → ℕ → ℕ → Tested → Type 0
MeetsTest index name slot answer = answer ≡ test_answer index name slot

abbrev pub MeetsNext : List ℕ → ℕ → ℕ → Next → Type 0
MeetsNext index name slot answer = answer ≡ next_answer index name slot

abbrev pub MeetsCount : List ℕ → ℕ → Counted → Type 0
MeetsCount index name answer = answer ≡ count_answer index name

abbrev pub MeetsLend : List ℕ → ℕ → List ℕ → Type 0
MeetsLend index name bytes = bytes ≡ lent index name

abbrev pub MeetsPart : List ℕ → ℕ → Part → Type 0
MeetsPart index name answer = answer ≡ part_answer index name
