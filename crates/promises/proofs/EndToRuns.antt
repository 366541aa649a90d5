-- [Numbers of refusal] From lists to an index: what is to be packed, the calls that write it one list after the other, and the conditions under
-- which all of them are accepted. They are said of the lists and of the numbers that a caller has, with the numbers spelt out. How long the index will
-- be goes by the records as they are written (`encode`); a caller need not know them, for the answers of writing tell it: see ConditionsSeen in EndToEnd.
use Prim.Native.Nat.{ℕ, ◌+◌, ◌*◌, ◌≤◌, ◌<◌}
use mathlib.Core.List.{List, [], ◌∷◌, ◌++◌, map}
use lib.ListN.{length, get_or, take, drop}
use Rattle.paper.specs.Lists.{total}
use Rattle.paper.specs.Write.{encode, MeetsWrite}
use Rattle.paper.specs.declared.Written.{Written}
use Rattle.laws.proofs.Lists.{In, Each}
use Rattle.meaning.proofs.Rising.{Ascends}
use Rattle.promises.proofs.IndexRows.{Inside}

-- A LIST TO BE PACKED: its cut and its slots
pub record Plan : Type 0 where
  pub cut : ℕ
  pub slots : List ℕ

-- its record, with blocks of B slots
abbrev pub record_for : ℕ → Plan → List ℕ
record_for B p = encode B p.cut p.slots

-- how many bytes the records of all lists take
abbrev pub size_for : ℕ → List Plan → ℕ
size_for B plans = total (map (λ (p : Plan). length (record_for B p)) plans)

-- the slots of all lists
abbrev pub all_slots : List Plan → List (List ℕ)
all_slots plans = map (λ (p : Plan). p.slots) plans

-- the slots of list j; none where there is no such list
abbrev pub slots_of : List Plan → ℕ → List ℕ
slots_of plans j = get_or (all_slots plans) j []

-- THE CALLS. `Wrote u B at plans before answers after`: the lists were written one after the other into a buffer, from position `at` on. For each
-- the part of the buffer from there on was lent; the call gave whatever answer and left whatever bytes keep its promise; and the next list went
-- behind as many bytes as the answer says. `before` is the buffer at first, and `after` at last. No call is taken to have been accepted
pub data Wrote (u B : ℕ) : ℕ → List Plan → List ℕ → List Written → List ℕ → Type 0 where
  done : {at : ℕ} {buffer : List ℕ} → Wrote u B at [] buffer [] buffer
  next : {at : ℕ} {p : Plan} {plans : List Plan} {before part after : List ℕ} {answer : Written} {answers : List Written}
      → MeetsWrite u B p.cut p.slots (drop at before) answer part → Wrote u B (at + answer.length) plans (take at before ++ part) answers after
      → Wrote u B at (p ∷ plans) before (answer ∷ answers) after

-- where the records start, by what the answers say, the first of them at a
abbrev pub starts_by : ℕ → List Written → List ℕ
starts_by a [] = []
starts_by a (w ∷ ws) = a ∷ starts_by (a + w.length) ws

-- and how long they are together
abbrev pub total_by : List Written → ℕ
total_by answers = total (map (λ (w : Written). w.length) answers)

-- THE CONDITIONS: these lists go into an index in a buffer with this much room
pub record Packable (u B : ℕ) (plans : List Plan) (room : ℕ) : Type 0 where
  -- u and B lie in their ranges, and there are 1 to 4,096 lists
  pub u_inside : Inside 1 1048576 u
  pub b_inside : Inside 1 128 B
  pub k_inside : Inside 1 4096 (length plans)
  -- each cut is at most u, and the slots of each list rise strictly in 1..u
  pub cuts : Each (λ (p : Plan). p.cut ≤ u) plans
  pub rising : Each (λ (p : Plan). Ascends u 0 p.slots) plans
  -- the index, which is the records, four bytes for each list, and 24, is not too long, and has room
  pub small : size_for B plans + 4 * length plans + 24 ≤ 16777216
  pub fits : size_for B plans + 4 * length plans + 24 ≤ room

-- A QUESTION THAT IS TO BE ACCEPTED, of an index of these lists, with a slice of this much room
pub record Allowed (plans : List Plan) (way : ℕ) (names : List ℕ) (room : ℕ) : Type 0 where
  pub known : way ≤ 1
  pub number : Inside 1 16 (length names)
  pub below : Each (λ (n : ℕ). n < length plans) names
  -- some list named has the fewest slots, and there is room for as many
  pub smallest : ℕ
  pub named : In smallest names
  pub least : (n : ℕ) → In n names → length (slots_of plans smallest) ≤ length (slots_of plans n)
  pub fits : length (slots_of plans smallest) ≤ room
