-- What records named by a question cost by skips: the lists that the candidates come to, and what each of these walks costs.
use Prim.Native.Nat.{ℕ, suc, ◌+◌, ◌-◌, ◌*◌, ◌≤◌}
use mathlib.Core.Path.{◌≡◌, refl, ap, ◌∙◌}
use mathlib.Core.List.{List, [], ◌∷◌, map}
use native.Mathlib.Omega.{arith}
use lib.Dec.{ltb}
use lib.ListN.{length, get_or, drop, length-drop}
use lib.Seq.{get_or-drop}
use Rattle.paper.specs.Lists.{has, keep, total}
use Rattle.paper.specs.Held.{Listed, listed, contents}
use Rattle.paper.specs.Walk.{Walk, walk_list, walks}
use Rattle.paper.specs.Question.{Charge, in_order, from_smallest, by_skips}
use Rattle.laws.proofs.Lists.{keep_length}
use Rattle.meaning.proofs.Rising.{Ascends}
use Rattle.meaning.proofs.Sound.{contents_rise}
use Rattle.meaning.proofs.Walking.{AllSound, keep_rise, walk_keeps}
use Rattle.meaning.proofs.Common.{ordered_sound}
use Rattle.meaning.proofs.Charging.{charge, skips_charged}
use Rattle.promises.proofs.WalkCost.{searches, Bounds, walked_over, walk_seen}
use Rattle.promises.proofs.SeekCodes.{read_over, walk_read, walk_codes}

-- a list, and the candidates that come to it
pub record Visit : Type 0 where
  pub list : Listed
  pub candidates : List ℕ

-- the searches of a visit
abbrev pub searches_in : Visit → ℕ
searches_in v = searches v.list v.candidates

-- the positions looked at
abbrev pub seen_in : Visit → List ℕ
seen_in v = walked_over v.list 0 v.candidates

-- the codes read
abbrev pub read_in : Visit → ℕ
read_in v = read_over v.list 0 v.candidates

-- what b tells of a visit, by its searches and its blocks
abbrev pub bound_of : (ℕ → ℕ → ℕ) → Visit → ℕ
bound_of b v = b (searches_in v) v.list.m

-- Candidates xs, and the records that they go through one after the other. To each come the candidates that all lists before it hold
unfoldable pub visits : ℕ → ℕ → List ℕ → List (List ℕ) → List Visit
visits u B xs [] = []
visits u B xs (r ∷ rs) = record { list = listed u B r; candidates = xs } ∷ visits u B (keep (λ x. has x (contents u B r)) xs) rs

-- one by one, each number of the first list is at most that of the second; there are as many
abbrev pub AtMost : List ℕ → List ℕ → Type 0
AtMost [] [] = Unit {0}
AtMost [] (y ∷ ys) = ⊥
AtMost (x ∷ xs) [] = ⊥
AtMost (x ∷ xs) (y ∷ ys) = (x ≤ y) × AtMost xs ys

-- and so are the sums
pub most_total : (xs ys : List ℕ) → AtMost xs ys → total xs ≤ total ys
unfolding total
most_total [] [] a = omega arith
most_total [] (y ∷ ys) a = absurd a
most_total (x ∷ xs) [] a = absurd a
most_total (x ∷ xs) (y ∷ ys) a = let r = most_total xs ys a.1 in omega arith

-- the walk of a visit
abbrev walk_of : Visit → Walk
walk_of v = walk_list v.list 0 v.candidates

abbrev looks_in : Walk → ℕ
looks_in w = w.looks

abbrev codes_in : Walk → ℕ
codes_in w = w.codes

-- its looks are the positions looked at
seen_looks : (vs : List Visit) → map looks_in (map walk_of vs) ≡ map (λ v. length (seen_in v)) vs
seen_looks [] = refl
seen_looks (v ∷ vs) = rw (walk_seen v.list 0 v.candidates, seen_looks vs)

-- Through sound records: what each walk keeps is what its list holds
module _ (u B : ℕ) (pos : 1 ≤ B) where
  walks_visits : (rs : List (List ℕ)) → AllSound u B rs → (xs : List ℕ) → Ascends u 0 xs
      → walks (map (listed u B) rs) xs ≡ map walk_of (visits u B xs rs)
  unfolding walks visits
  walks_visits [] ok xs o = refl
  walks_visits (r ∷ rs) ok xs o =
      let w = walk_list (listed u B r) 0 xs in
      let k = keep (λ x. has x (contents u B r)) xs in
      let e = walk_keeps u B r pos (ok 0 (omega arith)) xs o in
      ap (λ (t : List ℕ). w ∷ walks (map (listed u B) rs) t) e
      ∙ ap (λ (t : List Walk). w ∷ t) (walks_visits rs (λ i l. ok (suc i) (omega arith)) k (keep_rise _ u 0 xs o))

  -- THE LOOKS of each: no more than what bounds every walk
  visits_looks : (b : ℕ → ℕ → ℕ) → Bounds b → (rs : List (List ℕ)) (xs : List ℕ)
      → AtMost (map looks_in (map walk_of (visits u B xs rs))) (map (bound_of b) (visits u B xs rs))
  unfolding visits
  visits_looks b h [] xs = tt
  visits_looks b h (r ∷ rs) xs = (h (listed u B r) xs, visits_looks b h rs (keep (λ x. has x (contents u B r)) xs))

  -- the codes of each are those read
  visits_read : (rs : List (List ℕ)) → AllSound u B rs → (xs : List ℕ) → map codes_in (map walk_of (visits u B xs rs)) ≡ map read_in (visits u B xs rs)
  unfolding visits
  visits_read [] ok xs = refl
  visits_read (r ∷ rs) ok xs =
      rw (walk_read u B r pos (ok 0 (omega arith)) xs 0, visits_read rs (λ i l. ok (suc i) (omega arith)) (keep (λ x. has x (contents u B r)) xs))

  -- and the codes: B − 1 for each search
  visits_codes : (rs : List (List ℕ)) → AllSound u B rs → (xs : List ℕ)
      → AtMost (map codes_in (map walk_of (visits u B xs rs))) (map (λ v. (B - 1) * searches_in v) (visits u B xs rs))
  unfolding visits
  visits_codes [] ok xs = tt
  visits_codes (r ∷ rs) ok xs =
      (walk_codes u B r pos (ok 0 (omega arith)) xs 0, visits_codes rs (λ i l. ok (suc i) (omega arith)) (keep (λ x. has x (contents u B r)) xs))

module _ (u B : ℕ) (rs : List (List ℕ)) where
  -- the visits: the slots of the smallest list come to the others
  abbrev pub visits_from : List Visit
  visits_from = visits u B (contents u B (get_or (in_order rs) 0 [])) (drop 1 (in_order rs))

  module _ (pos : 1 ≤ B) (ok : AllSound u B rs) where
    walks_from : (os : List (List ℕ)) → AllSound u B os → from_smallest u B os ≡ map walk_of (visits u B (contents u B (get_or os 0 [])) (drop 1 os))
    unfolding from_smallest visits
    walks_from [] ok = refl
    walks_from (o ∷ os) ok = walks_visits u B pos os (λ i l. ok (suc i) (omega arith)) (contents u B o) (contents_rise u B o pos (ok 0 (omega arith)))

    walks_are : from_smallest u B (in_order rs) ≡ map walk_of visits_from
    walks_are = walks_from (in_order rs) (ordered_sound u B pos rs ok)

    -- what a charge says of its walk
    skips_walks : (f : Charge → ℕ) (g : Walk → ℕ) → ((i : ℕ) (w : Walk) → f (charge i w) ≡ g w) → map f (by_skips u B rs) ≡ map g (map walk_of visits_from)
    skips_walks f g same = skips_charged u B rs f g same ∙ ap (map g) walks_are

    -- EACH CHARGE: its looks are the positions looked at
    pub skips_seen : map (λ (c : Charge). c.looks) (by_skips u B rs) ≡ map (λ v. length (seen_in v)) visits_from
    skips_seen = skips_walks (λ c. c.looks) looks_in (λ i w. refl) ∙ seen_looks visits_from

    -- no more than what bounds every walk
    pub skips_looks : (b : ℕ → ℕ → ℕ) → Bounds b → AtMost (map (λ (c : Charge). c.looks) (by_skips u B rs)) (map (bound_of b) visits_from)
    skips_looks b h = rw (skips_walks (λ c. c.looks) looks_in (λ i w. refl)) (visits_looks u B pos b h (drop 1 (in_order rs)) _)

    others : AllSound u B (drop 1 (in_order rs))
    others i l = let e = length-drop 1 (in_order rs) in rw get_or-drop (ordered_sound u B pos rs ok (1 + i) (omega arith))

    -- its codes are those read
    pub skips_read : map (λ (c : Charge). c.codes) (by_skips u B rs) ≡ map read_in visits_from
    skips_read = skips_walks (λ c. c.codes) codes_in (λ i w. refl) ∙ visits_read u B pos (drop 1 (in_order rs)) others _

    -- and its codes: no more than B − 1 a search
    pub skips_codes : AtMost (map (λ (c : Charge). c.codes) (by_skips u B rs)) (map (λ v. (B - 1) * searches_in v) visits_from)
    skips_codes = rw (skips_walks (λ c. c.codes) codes_in (λ i w. refl)) (visits_codes u B pos (drop 1 (in_order rs)) others _)

-- THE SEARCHES THEMSELVES are at most as many as candidates
few_searches : (l : Listed) (xs : List ℕ) → searches l xs ≤ length xs
few_searches l xs = keep_length (λ x. ltb l.cut x) xs

-- so n candidates at first are at most n in each list
pub visits_plain : (u B n : ℕ) (b : ℕ → ℕ → ℕ) → ((q m : ℕ) → q ≤ n → b q m ≤ b n m) → (rs : List (List ℕ)) (xs : List ℕ) → length xs ≤ n
    → AtMost (map (bound_of b) (visits u B xs rs)) (map (λ r. b n (listed u B r).m) rs)
unfolding visits
visits_plain u B n b g [] xs h = tt
visits_plain u B n b g (r ∷ rs) xs h =
    let k = keep_length (λ x. has x (contents u B r)) xs in
    let s = few_searches (listed u B r) xs in
    (g _ _ (omega arith), visits_plain u B n b g rs (keep (λ x. has x (contents u B r)) xs) (omega arith))

-- and n times the lists in all
pub visits_few : (u B n : ℕ) (rs : List (List ℕ)) (xs : List ℕ) → length xs ≤ n → total (map searches_in (visits u B xs rs)) ≤ n * length rs
unfolding visits total
visits_few u B n [] xs h = omega arith
visits_few u B n (r ∷ rs) xs h =
    let k = keep_length (λ x. has x (contents u B r)) xs in
    let s = few_searches (listed u B r) xs in
    let i = visits_few u B n rs (keep (λ x. has x (contents u B r)) xs) (omega arith) in
    omega arith
