-- Asking: what an accepted question has passed, and that a number and a place are given exactly when the rows of the table say so.
use Prim.Native.Nat.{ℕ, ◌≤◌, ◌<◌}
use mathlib.Core.Path.{◌≡◌, refl, sym, ap, subst₂, ◌∙◌}
use mathlib.Core.Logic.{◌⊎◌, ◌↔◌}
use mathlib.Core.Logic.◌⊎◌.{inl, inr}
use mathlib.Core.List.{List, [], ◌∷◌, ◌++◌, map}
use native.Mathlib.Decide.{dec_lt, dec_le, ℕ_discrete}
use native.Mathlib.Omega.{arith}
use lib.ListN.{length, get_or, length-append}
use lib.Dec.{ltb}
use borrow.Author.Tests.{lt-ltb, le-ltb}
use Rattle.paper.specs.Lists.{has, leading}
use Rattle.paper.specs.Refusal.{verdict, accepted, fault10, fault11, fault12, fault14}
use Rattle.paper.specs.Held.{count_of}
use Rattle.paper.specs.Index.{k_of, record_of}
use Rattle.paper.specs.Look.{look}
use Rattle.paper.specs.Question.{positions, smallest}
use Rattle.paper.specs.Ask.{named, room_needed, ask_fault, ask_answer}
use Rattle.paper.specs.declared.Verdict.{Verdict}
use Rattle.laws.proofs.Lists.{In, has_in, in_has, in_at, Each, each_at, each_in, has_place}
use Rattle.laws.proofs.Parts.{AllBytes}
use Rattle.laws.proofs.Frames.{room_passed, or_given, or_second, or_both}
use Rattle.laws.proofs.Links.{fourteen_other, fourteen, eleven_bad, twelve_small, twelve}
use Rattle.laws.proofs.Questions.{named_many, counts_many, named_at, count_at, Good, names_on, good_passed}
use Rattle.meaning.proofs.Rising.{Ascends}
use Rattle.meaning.proofs.Orders.{order_least}
use Rattle.meaning.proofs.Common.{same_test, same_slots, position_inside, ordered_at}
use Rattle.promises.proofs.IndexRows.{Inside, Outside, Refused, WellFormed, ByTheTable, Counts}
use Rattle.promises.proofs.IndexReads.{well_k}
use Rattle.promises.proofs.IndexFrame.{within_passes, within_fails}
use Rattle.promises.proofs.IndexLists.{First, first_or}
use Rattle.promises.proofs.IndexLooks.{well_looked, not_zero, refused_given}
use Rattle.promises.proofs.IndexJudged.{inside_or}
use Rattle.promises.proofs.IndexNumbers.{by_the_table, Either, look_either}
use Rattle.promises.proofs.IndexNumbers.Either.{one_refuses, all_accept}
use Rattle.promises.proofs.AcceptedLists.{well_counts}
use Rattle.promises.proofs.AskRows.{HasCount, Smallest, Askable, Named, AskRefused, AskAccepted}
use Rattle.promises.proofs.AskRows.AskRefused.{index, no_way, no_number, unknown, no_room}

-- 10, of how many names there are
module _ (names : List ℕ) (rest : Verdict) where
  number_bad : Outside 1 16 (length names) → fault10 names rest ≡ verdict 10 0
  unfolding fault10
  number_bad o = within_fails 1 16 (length names) (verdict 10 0) rest o

  number_good : Inside 1 16 (length names) → fault10 names rest ≡ rest
  unfolding fault10
  number_good i = within_passes 1 16 (length names) (verdict 10 0) rest i

-- each name is below k
abbrev pub Below : ℕ → List ℕ → Type 0
Below k names = Each (λ (n : ℕ). n < k) names

-- or some name is the first that is not
names_or : (k : ℕ) (names : List ℕ) → Below k names ⊎ First (λ (n : ℕ). n < k) (λ (n : ℕ). k ≤ n) names
names_or k = first_or (λ n. n < k) (λ n. k ≤ n) (λ n. elim (dec_lt n k) [ yes l ↦ inl l | no g ↦ inr (omega arith) ])

-- 11: the names in front are good, and then comes one that is not
module _ (k name : ℕ) (behind : List ℕ) (past : k ≤ name) where
  good_front : (front : List ℕ) → Below k front → length front ≡ leading (λ i. ltb i k) (front ++ name ∷ behind)
  unfolding leading
  good_front [] b = rw (le-ltb name k past)
  good_front (n ∷ front) b = rw (lt-ltb n k b.0, ← good_front front b.1) (omega arith)

  names_bad : (rest : Verdict) (front : List ℕ) → Below k front → fault11 k (front ++ name ∷ behind) rest ≡ verdict 11 (length front)
  names_bad rest front b =
      let n = length-append front (name ∷ behind) in
      sym (eleven_bad rest (front ++ name ∷ behind) k k (length front) refl (good_front front b) (omega arith))

-- An accepted question: all tests are passed
pub record Passed (bs : List ℕ) (way : ℕ) (names : List ℕ) (room : ℕ) : Type 0 where
  pub looked : (look bs).number ≡ 0
  pub good : Good (k_of bs) way names
  pub fits : room_needed bs way names ≤ room

module _ (bs : List ℕ) (way : ℕ) (names : List ℕ) (room : ℕ) where
  -- the tests from row 12 on, from row 11 on, from row 10 on
  abbrev from12 : Verdict
  from12 = fault12 room (room_needed bs way names) accepted

  abbrev from11 : Verdict
  from11 = fault11 (k_of bs) names from12

  abbrev from10 : Verdict
  from10 = fault10 names from11

  -- and from row 14 on: all behind the index
  abbrev pub from14 : Verdict
  from14 = fault14 way from10

  -- which are what is left where looking accepts
  pub fault_is : (look bs).number ≡ 0 → ask_fault bs way names room ≡ from14
  unfolding ask_fault
  fault_is z = or_second (look bs) from14 z

  -- an accepted question has passed them all
  pub passed : (ask_fault bs way names room).number ≡ 0 → Passed bs way names room
  unfolding ask_fault
  passed z =
      let a = or_both (look bs) from14 z in
      let b = good_passed (k_of bs) way names from12 a.1 in
      record { looked = a.0; good = b.0; fits = (room_passed room (room_needed bs way names) accepted b.1).0 }

-- The room needed is the count of one of the lists named
module _ (bs names : List ℕ) (some : 0 < length names) where
  -- of this name
  abbrev pub smallest_name : ℕ
  smallest_name = get_or names (get_or (positions (named bs names)) 0 0) 0

  -- which stands in the question
  pub smallest_place : get_or (positions (named bs names)) 0 0 < length names
  smallest_place = rw named_many at (position_inside (named bs names) 0 (rw named_many some))

  -- by what it counts
  pub need_is : smallest (named bs names) ≡ count_of (record_of bs smallest_name)
  unfolding smallest
  need_is = ap count_of (ordered_at (named bs names) 0 (rw named_many some) ∙ named_at bs names _ smallest_place)

  -- and of none with fewer
  pub need_least : (i : ℕ) → i < length names → smallest (named bs names) ≤ count_of (record_of bs (get_or names i 0))
  need_least i l =
      let h = order_least (map count_of (named bs names)) i (rw counts_many l) in
      rw need_is (subst₂ ◌≤◌ (count_at bs names _ smallest_place) (count_at bs names i l) h)

-- Two rising lists of which each has what the other has are the same
pub same_rising : (u v : ℕ) (xs ys : List ℕ) → Ascends u 0 xs → Ascends v 0 ys → ((x : ℕ) → In x xs ↔ In x ys) → xs ≡ ys
same_rising u v xs ys a b h =
    same_slots u 0 v 0 xs ys a b
    λ x. same_test (has x xs) (has x ys) (λ p. has_in x ys ((h x).0 (in_has x xs p))) (λ p. has_in x xs ((h x).1 (in_has x ys p)))

-- so there is one number of slots with a property
pub counts_one : {u m n : ℕ} {P : ℕ → Type 0} → Counts u P m → Counts u P n → m ≡ n
counts_one {u} s t =
    let e = same_rising u u s.slots t.slots s.rising t.rising
    λ x. (λ i. (t.exactly x).1 ((s.exactly x).0 i), λ i. (s.exactly x).1 ((t.exactly x).0 i)) in
    sym s.long ∙ ap length e ∙ t.long

-- THE TABLE
module _ (bs : List ℕ) (all : AllBytes bs) where
  module _ (w : WellFormed bs) (name : ℕ) (l : name < w.trailer.k) where
    -- a list has as many slots as are counted
    counted : HasCount w name (count_of (record_of bs name))
    counted = well_counts bs all w name l

    -- and no other number
    counted_one : (c : ℕ) → HasCount w name c → c ≡ count_of (record_of bs name)
    counted_one c h = counts_one h counted

  -- The room needed is the count of the smallest list named
  module _ (w : WellFormed bs) (names : List ℕ) (b : Below w.trailer.k names) (some : 0 < length names) where
    count_least : (name c : ℕ) → In name names → HasCount w name c → smallest (named bs names) ≤ c
    count_least name c i h =
        let p = has_place name names (has_in name names i) in
        let e = counted_one w name (each_in (λ n. n < w.trailer.k) names b name i) c h in
        rw (e, ← p.2) (need_least bs names some p.0 p.1)

    smallest_of : Smallest w names (smallest (named bs names))
    smallest_of =
        let i = in_at names _ (smallest_place bs names some) in
        record {
          name = smallest_name bs names some;
          named = i;
          count = rw (need_is bs names some) (counted w _ (each_in (λ n. n < w.trailer.k) names b _ i));
          least = count_least;
        }

  -- and there is one such count
  smallest_one : (w : WellFormed bs) (names : List ℕ) (c d : ℕ) → Smallest w names c → Smallest w names d → c ≡ d
  smallest_one w names c d s t = omega (arith, s.least t.name d t.named t.count, t.least s.name c s.named s.count)

  module _ (way : ℕ) (names : List ℕ) (room : ℕ) where
    -- what the rows let pass is passed
    to_way : WellFormed bs → ask_fault bs way names room ≡ from14 bs way names room
    to_way w = fault_is bs way names room (well_looked bs all w)

    way_known : (way ≡ 0) ⊎ (way ≡ 1) → way ≤ 1
    way_known (inl e) = omega arith
    way_known (inr e) = omega arith

    to_number : WellFormed bs → (way ≡ 0) ⊎ (way ≡ 1) → ask_fault bs way names room ≡ from10 bs way names room
    to_number w k = to_way w ∙ sym (fourteen _ way (way_known k) _ refl)

    to_names : Askable bs way names → ask_fault bs way names room ≡ from11 bs way names room
    to_names a = to_number a.well a.known ∙ number_good names _ a.number

    to_room : Named bs way names → ask_fault bs way names room ≡ from12 bs way names room
    to_room a =
        let b : Below (k_of bs) names = rw (well_k bs a.askable.well) a.below in
        to_names a.askable ∙ names_on (k_of bs) names _ (each_at (λ n. n < k_of bs) names b)

    needed : (a : Named bs way names) (c : ℕ) → Smallest a.askable.well names c → room_needed bs way names ≡ c
    unfolding room_needed
    needed a c s =
        let w = a.askable.well in
        smallest_one w names (smallest (named bs names)) c (smallest_of w names a.below a.askable.number.0) s

    -- the number and the place of a row that applies are given
    index_gives : (r p : ℕ) → Refused bs r p → ask_fault bs way names room ≡ verdict r p
    unfolding ask_fault
    index_gives r p t = or_given (look bs) _ r p (refused_given bs all r p t) (not_zero bs all r p t)

    ask_gives : (r p : ℕ) → AskRefused bs way names room r p → ask_fault bs way names room ≡ verdict r p
    ask_gives r p (index t) = index_gives r p t
    ask_gives r p (no_way w m n) = to_way w ∙ sym (fourteen_other _ way (omega arith))
    ask_gives r p (no_number w k o) = to_number w k ∙ number_bad names _ o
    ask_gives r p (unknown a front name behind e b l) =
        let k = well_k bs a.well in
        to_names a
        ∙ ap (λ (l : List ℕ). fault11 (k_of bs) l (from12 bs way names room)) e
        ∙ names_bad (k_of bs) name behind (rw k l) _ front (rw k b)
    ask_gives r p (no_room a c s l) = to_room a ∙ ap (λ (n : ℕ). fault12 room n accepted) (needed a c s) ∙ sym (twelve_small accepted room c l)

    -- it is not 0
    ask_nonzero : (r p : ℕ) → AskRefused bs way names room r p → ¬ (r ≡ 0)
    ask_nonzero r p (index t) = not_zero bs all r p t
    ask_nonzero r p (no_way w m n) = λ z. omega arith
    ask_nonzero r p (no_number w k o) = λ z. omega arith
    ask_nonzero r p (unknown a front name behind e b l) = λ z. omega arith
    ask_nonzero r p (no_room a c s l) = λ z. omega arith

    -- where none applies, the question is accepted
    pub ask_passes : AskAccepted bs way names room → ask_fault bs way names room ≡ accepted
    ask_passes a = to_room a.named ∙ sym (twelve accepted room _ (rw (needed a.named a.count a.smallest) a.fits) accepted refl)

    abbrev Asked : Type 0
    Asked = Either (AskRefused bs way names room) (AskAccepted bs way names room)

    by_room : Named bs way names → Asked
    by_room a =
        let s = smallest_of a.askable.well names a.below a.askable.number.0 in
        elim (dec_le (smallest (named bs names)) room) [
          | yes l ↦ all_accept (record { named = a; count = smallest (named bs names); smallest = s; fits = l })
          | no g ↦ one_refuses 12 _ (no_room a (smallest (named bs names)) s (omega arith))
        ]

    by_names : Askable bs way names → Asked
    by_names a =
        elim (names_or a.well.trailer.k names) [
          | inl b ↦ by_room (record { askable = a; below = b })
          | inr f ↦ one_refuses 11 _ (unknown a f.front f.bad f.behind f.is f.good f.here)
        ]

    by_number : WellFormed bs → (way ≡ 0) ⊎ (way ≡ 1) → Asked
    by_number w k =
        elim (inside_or 1 16 (length names)) [
          | inl i ↦ by_names (record { well = w; known = k; number = i })
          | inr o ↦ one_refuses 10 0 (no_number w k o)
        ]

    by_way : WellFormed bs → Asked
    by_way w =
        elim (ℕ_discrete way 0) [
          | yes e ↦ by_number w (inl e)
          | no m ↦
              elim (ℕ_discrete way 1) [
                | yes e ↦ by_number w (inr e)
                | no n ↦ one_refuses 14 0 (no_way w m n)
              ]
        ]

    ask_either : Asked
    ask_either =
        elim (look_either bs all) [
          | one_refuses r p t ↦ one_refuses r p (index t)
          | all_accept w ↦ by_way w
        ]

    -- SO ASKING goes by the table
    pub ask_table : ByTheTable (ask_answer bs way names room).number (ask_answer bs way names room).place (AskRefused bs way names room)
        (AskAccepted bs way names room)
    unfolding ask_answer
    ask_table =
        by_the_table (ask_fault bs way names room) (AskRefused bs way names room) (AskAccepted bs way names room) ask_gives ask_nonzero ask_passes ask_either
