-- The slots common to lists: which they are, that they ascend, and that the smallest list, walked through the others, gives the same slots.
use Prim.Native.Nat.{ℕ, zero, suc, ◌≤◌, ◌<◌}
use mathlib.Core.Path.{◌≡◌, refl, sym, ap, ◌∙◌}
use mathlib.Core.Bool.{Bool, true, false, true≢false, and-eq-true_iff}
use mathlib.Core.List.{List, [], ◌∷◌, map}
use native.Mathlib.Decide.{ℕ_discrete}
use native.Mathlib.Omega.{arith}
use lib.ListN.{length, get_or, drop, length-map}
use borrow.Author.Tests.{lt-ltb}
use Rattle.paper.specs.Lists.{has}
use Rattle.paper.specs.Held.{contents, count_of}
use Rattle.paper.specs.Question.{in_all, common, common_slots, positions, in_order, smallest}
use Rattle.laws.proofs.Lists.{has_none, has_here, has_there, has_keep, has_place, map_at}
use Rattle.meaning.proofs.Rising.{Ascends, has_low, stop_above}
use Rattle.meaning.proofs.Sound.{contents_rise, contents_count}
use Rattle.meaning.proofs.Walking.{AllSound, keep_rise, passed, passed_all}
use Rattle.meaning.proofs.Orders.{order_length, order_inside, order_has, order_once}

-- the empty list does not hold what another begins with
not_there : (y : ℕ) (ys : List ℕ) → ¬ (has y [] ≡ has y (y ∷ ys))
not_there y ys h = true≢false (sym (has_here y y ys refl) ∙ sym h ∙ has_none y)

-- the first of one is not below the first of another that holds the same slots
not_below : (v x y : ℕ) (xs ys : List ℕ) → Ascends v y ys → ((z : ℕ) → has z (x ∷ xs) ≡ has z (y ∷ ys)) → ¬ (x < y)
not_below v x y xs ys o h l = true≢false (sym (has_here x x xs refl) ∙ h x ∙ stop_above x y ys v o l)

-- Two rising lists that hold the same slots are the same list
pub same_slots : (u a v b : ℕ) (xs ys : List ℕ) → Ascends u a xs → Ascends v b ys → ((z : ℕ) → has z xs ≡ has z ys) → xs ≡ ys
same_slots u a v b [] [] o q h = refl
same_slots u a v b [] (y ∷ ys) o q h = absurd (not_there y ys (h y))
same_slots u a v b (x ∷ xs) [] o q h = absurd (not_there x xs (sym (h x)))
same_slots u a v b (x ∷ xs) (y ∷ ys) o q h =
    let l = not_below v x y xs ys q.2 h in
    let g = not_below u y x ys xs o.2 (λ z. sym (h z)) in
    let e : x ≡ y = omega arith in
    rw e (ap (λ (t : List ℕ). y ∷ t) (same_slots u x v y xs ys o.2 q.2 (rest e)))
  where
    rest : x ≡ y → (z : ℕ) → has z xs ≡ has z ys
    rest e z =
        elim (ℕ_discrete z x) [
          | yes i ↦ has_low u x z xs o.2 (omega arith) ∙ sym (has_low v y z ys q.2 (omega arith))
          | no n ↦ sym (has_there z x xs n) ∙ h z ∙ has_there z y ys (λ i. n (i ∙ sym e))
        ]

-- a slot is common exactly where it stands in all
pub common_has : (l : List ℕ) (ls : List (List ℕ)) (z : ℕ) → has z (common (l ∷ ls)) ≡ in_all (l ∷ ls) z
unfolding common in_all
common_has l ls z = has_keep (in_all ls) z l

-- and the common slots ascend as the first list does
common_rise : (u a : ℕ) (l : List ℕ) (ls : List (List ℕ)) → Ascends u a l → Ascends u a (common (l ∷ ls))
unfolding common
common_rise u a l ls o = keep_rise (in_all ls) u a l o

-- two tests that pass together are the same
pub same_test : (a b : Bool) → (a ≡ true → b ≡ true) → (b ≡ true → a ≡ true) → a ≡ b
same_test true b f g = sym (f refl)
same_test false true f g = g refl
same_test false false f g = refl

-- z stands in all lists exactly where it stands in each, by position
module _ (f : List ℕ → List ℕ) (z : ℕ) where
  pub in_each : (rs : List (List ℕ)) → in_all (map f rs) z ≡ true → (i : ℕ) → i < length rs → has z (f (get_or rs i [])) ≡ true
  unfolding in_all
  in_each [] h i l = absurd (omega arith)
  in_each (r ∷ rs) h zero l = ((and-eq-true_iff (has z (f r)) (in_all (map f rs) z)).0 h).0
  in_each (r ∷ rs) h (suc i) l = in_each rs ((and-eq-true_iff (has z (f r)) (in_all (map f rs) z)).0 h).1 i (omega arith)

  pub each_in : (rs : List (List ℕ)) → ((i : ℕ) → i < length rs → has z (f (get_or rs i [])) ≡ true) → in_all (map f rs) z ≡ true
  unfolding in_all
  each_in [] h = refl
  each_in (r ∷ rs) h = rw (h 0 (omega arith)) (each_in rs (λ i l. h (suc i) (omega arith)))

-- The records in order
module _ (rs : List (List ℕ)) where
  pub positions_length : length (positions rs) ≡ length rs
  positions_length = order_length (map count_of rs) ∙ length-map rs count_of

  -- each position of the question has a place in the order
  pub position_has : (i : ℕ) → i < length rs → has i (positions rs) ≡ true
  position_has i l = order_has (map count_of rs) i ∙ rw length-map (lt-ltb i (length rs) l)

  -- and what has a place there is a position of the question
  pub position_inside : (k : ℕ) → k < length rs → get_or (positions rs) k 0 < length rs
  position_inside k l = rw length-map at (order_inside (map count_of rs) k (rw length-map l))

  -- and no other place
  pub position_once : (j k : ℕ) → j < k → k < length rs → ¬ (get_or (positions rs) j 0 ≡ get_or (positions rs) k 0)
  position_once j k l h = order_once (map count_of rs) j k l (rw length-map h)

  -- there are as many records as were named
  pub ordered_length : length (in_order rs) ≡ length rs
  unfolding in_order
  ordered_length = length-map (positions rs) (λ i. get_or rs i []) ∙ positions_length

  -- at each place the record at its position
  pub ordered_at : (k : ℕ) → k < length rs → get_or (in_order rs) k [] ≡ get_or rs (get_or (positions rs) k 0) []
  unfolding in_order
  ordered_at k l = map_at (λ i. get_or rs i []) (positions rs) k 0 [] (rw positions_length l)

  -- what stands in all in order stands in all as named
  ordered_all : (f : List ℕ → List ℕ) (z : ℕ) → in_all (map f (in_order rs)) z ≡ in_all (map f rs) z
  ordered_all f z = same_test _ _ (λ h. each_in f z rs (named h)) (λ h. each_in f z (in_order rs) (ordered h))
    where
      found : in_all (map f (in_order rs)) z ≡ true → (i k : ℕ) → k < length (positions rs) → get_or (positions rs) k 0 ≡ i → has z (f (get_or rs i [])) ≡ true
      found h i k l e =
          let n : k < length rs = rw positions_length at l in
          rw (ordered_at k n, e) at (in_each f z (in_order rs) h k (rw ordered_length n))

      named : in_all (map f (in_order rs)) z ≡ true → (i : ℕ) → i < length rs → has z (f (get_or rs i [])) ≡ true
      named h i l = let p = has_place i (positions rs) (position_has i l) in found h i p.0 p.1 p.2

      ordered : in_all (map f rs) z ≡ true → (k : ℕ) → k < length (in_order rs) → has z (f (get_or (in_order rs) k [])) ≡ true
      ordered h k l = let n : k < length rs = rw ordered_length at l in rw (ordered_at k n) (in_each f z rs h _ (position_inside k n))

-- the first of some lists, passed through the others, leaves what is common
first_passed : (f : List ℕ → List ℕ) (os : List (List ℕ)) → 0 < length os → passed (map f (drop 1 os)) (f (get_or os 0 [])) ≡ common (map f os)
unfolding common
first_passed f [] l = absurd (omega arith)
first_passed f (o ∷ os) l = passed_all (map f os) (f o)

some_common : (ls : List (List ℕ)) (z : ℕ) → 0 < length ls → has z (common ls) ≡ in_all ls z
some_common [] z l = absurd (omega arith)
some_common (l ∷ ls) z h = common_has l ls z

-- Records without a fault
module _ (u B : ℕ) (pos : 1 ≤ B) where
  -- the slots common to them ascend
  pub slots_rise : (rs : List (List ℕ)) → AllSound u B rs → Ascends u 0 (common_slots u B rs)
  unfolding common_slots common
  slots_rise [] ok = tt
  slots_rise (r ∷ rs) ok = common_rise u 0 (contents u B r) (map (contents u B) rs) (contents_rise u B r pos (ok 0 (omega arith)))

  module _ (rs : List (List ℕ)) (ok : AllSound u B rs) where
    -- in order they have no fault either
    pub ordered_sound : AllSound u B (in_order rs)
    ordered_sound k l = let n : k < length rs = rw ordered_length at l in rw (ordered_at rs k n) (ok _ (position_inside rs k n))

    module _ (some : 0 < length rs) where
      some_ordered : 0 < length (in_order rs)
      some_ordered = rw ordered_length some

      -- THE ANSWER: the slots of the first record in order that stand in each of the others are those common to all
      pub from_the_smallest : passed (map (contents u B) (drop 1 (in_order rs))) (contents u B (get_or (in_order rs) 0 [])) ≡ common_slots u B rs
      unfolding common_slots
      from_the_smallest =
          first_passed (contents u B) (in_order rs) some_ordered
          ∙ same_slots u 0 u 0 _ _ (slots_rise (in_order rs) ordered_sound) (slots_rise rs ok) same
        where
          same : (z : ℕ) → has z (common (map (contents u B) (in_order rs))) ≡ has z (common (map (contents u B) rs))
          same z =
              some_common (map (contents u B) (in_order rs)) z (rw length-map some_ordered)
              ∙ ordered_all rs (contents u B) z
              ∙ sym (some_common (map (contents u B) rs) z (rw length-map some))

      -- the first has as many slots as the smallest list counts
      pub smallest_count : smallest rs ≡ length (contents u B (get_or (in_order rs) 0 []))
      unfolding smallest
      smallest_count = sym (contents_count u B _ pos (ordered_sound 0 some_ordered))
