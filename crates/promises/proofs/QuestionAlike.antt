-- What does not matter to a question: the way, the order and the repeats of its names and how the lists are packed do not matter to its slots; the
-- rest of the index does not matter to its answer. And the order in which the lists are gone through, which is one only.
use Prim.Native.Nat.{ℕ, suc, ◌<◌}
use mathlib.Core.Path.{◌≡◌, refl, sym, ap, ◌∙◌}
use mathlib.Core.Logic.{◌⊎◌, ◌↔◌}
use mathlib.Core.Logic.◌⊎◌.{inl, inr}
use mathlib.Core.List.{List, [], ◌∷◌, map}
use native.Mathlib.Omega.{arith}
use lib.ListN.{length, get_or, length-map}
use borrow.Author.Tests.{ltb-true, lt-ltb}
use Rattle.paper.specs.Refusal.{accepted, fault10, fault12}
use Rattle.paper.specs.Index.{u_of, block_length, k_of, record_of, held}
use Rattle.paper.specs.Look.{look}
use Rattle.paper.specs.Question.{common_slots, smallest, order}
use Rattle.paper.specs.Ask.{named, room_needed, ask_fault, answer_slots, costs, ask_answer, ask_slice}
use Rattle.laws.proofs.Lists.{In, has_in, in_has, in_at, each_at, has_place, map_at}
use Rattle.laws.proofs.Lists.In.{here, there}
use Rattle.laws.proofs.Parts.{AllBytes}
use Rattle.laws.proofs.Questions.{names_on}
use Rattle.meaning.proofs.Orders.{Before, order_length, order_has, order_rise}
use Rattle.meaning.proofs.Orders.Before.{fewer, earlier}
use Rattle.promises.proofs.IndexRows.{WellFormed}
use Rattle.promises.proofs.IndexReads.{well_u, well_b, well_k}
use Rattle.promises.proofs.IndexLooks.{well_looked}
use Rattle.promises.proofs.IndexRecords.{record_is}
use Rattle.promises.proofs.QuestionNumbers.{Below, fault_is, from14, same_rising}
use Rattle.promises.proofs.QuestionSlots.{ask_exactly, ask_rise, ask_count, slice_is}

-- DEPENDS ONLY ON u, B, the way, the records named, in the order named, and how long the slice is
module _ (bs cs : List ℕ) (names others : List ℕ) (look-b : (look bs).number ≡ 0) (look-c : (look cs).number ≡ 0) (below-b : Below (k_of bs) names)
    (below-c : Below (k_of cs) others) (same-u : u_of bs ≡ u_of cs) (same-B : block_length bs ≡ block_length cs) (same : named bs names ≡ named cs others) where
  number_same : length names ≡ length others
  number_same = sym (length-map names (record_of bs)) ∙ ap length same ∙ length-map others (record_of cs)

  slots_same : answer_slots bs names ≡ answer_slots cs others
  unfolding answer_slots
  slots_same =
      ap (λ (u : ℕ). common_slots u (block_length bs) (named bs names)) same-u
      ∙ ap (λ (B : ℕ). common_slots (u_of cs) B (named bs names)) same-B
      ∙ ap (common_slots (u_of cs) (block_length cs)) same

  module _ (way : ℕ) where
    need_same : room_needed bs way names ≡ room_needed cs way others
    unfolding room_needed
    need_same = ap smallest same

    costs_same : costs bs way names ≡ costs cs way others
    unfolding costs
    costs_same = rw (same-u, same-B, same)

    module _ (room : ℕ) where
      fault_same : ask_fault bs way names room ≡ ask_fault cs way others room
      unfolding fault10
      fault_same =
          let b = names_on (k_of bs) names (fault12 room (room_needed bs way names) accepted) (each_at (λ n. n < k_of bs) names below-b) in
          let c = names_on (k_of cs) others (fault12 room (room_needed cs way others) accepted) (each_at (λ n. n < k_of cs) others below-c) in
          let e : from14 bs way names room ≡ from14 cs way others room = rw (b, c, number_same, need_same) in
          fault_is bs way names room look-b ∙ e ∙ sym (fault_is cs way others room look-c)

      -- the whole answer is the same
      pub answer_same : ask_answer bs way names room ≡ ask_answer cs way others room
      unfolding ask_answer
      answer_same = rw (fault_same, slots_same, costs_same)

    -- and the slice
    pub slice_same : (before : List ℕ) → ask_slice bs way names before ≡ ask_slice cs way others before
    unfolding ask_slice
    slice_same before = rw (fault_same (length before), slots_same)

-- the records named, as they were written
abbrev pub written_for : {bs : List ℕ} → WellFormed bs → List ℕ → List (List ℕ)
written_for w names = map (λ (n : ℕ). get_or w.records n []) names

-- are those read
named_written : (bs : List ℕ) (w : WellFormed bs) (names : List ℕ) → Below w.trailer.k names → named bs names ≡ written_for w names
named_written bs w [] b = refl
named_written bs w (n ∷ names) b = rw (record_is bs w n b.0, named_written bs w names b.1)

-- the same of indexes that are known by how they were written
module _ (bs cs : List ℕ) (all-b : AllBytes bs) (all-c : AllBytes cs) (w : WellFormed bs) (v : WellFormed cs) (names others : List ℕ)
    (below-b : Below w.trailer.k names) (below-c : Below v.trailer.k others) (same-u : w.trailer.u ≡ v.trailer.u)
    (same-B : w.trailer.B ≡ v.trailer.B) (same : written_for w names ≡ written_for v others) (way : ℕ) (before : List ℕ) where
  -- answer and slice
  pub written_same : (ask_answer bs way names (length before) ≡ ask_answer cs way others (length before)) × (ask_slice bs way names before ≡ ask_slice cs way others before)
  written_same =
      let u = well_u bs w ∙ same-u ∙ sym (well_u cs v) in
      let B = well_b bs w ∙ same-B ∙ sym (well_b cs v) in
      let r = named_written bs w names below-b ∙ same ∙ sym (named_written cs v others below-c) in
      let b : Below (k_of bs) names = rw (well_k bs w) below-b in
      let c : Below (k_of cs) others = rw (well_k cs v) below-c in
      let y = well_looked bs all-b w in
      let z = well_looked cs all-c v in
      (answer_same bs cs names others y z b c u B r way (length before), slice_same bs cs names others y z b c u B r way before)

-- THE SLOTS: whatever these questions are, they have the same where the lists named hold the same
-- each list named in the one holds what some list named in the other does
abbrev pub Covers : List ℕ → List ℕ → List ℕ → List ℕ → Type 0
Covers bs names cs others = (n : ℕ) → In n names → (m : ℕ) × In m others × (held bs n ≡ held cs m)

module _ (bs : List ℕ) (way : ℕ) (names before : List ℕ) (cs : List ℕ) (other : ℕ) (others slice : List ℕ)
    (ok : (ask_answer bs way names (length before)).number ≡ 0) (fine : (ask_answer cs other others (length slice)).number ≡ 0) where
  -- the lists named hold the same
  covered_same : Covers bs names cs others → Covers cs others bs names → answer_slots bs names ≡ answer_slots cs others
  covered_same forth back =
      same_rising (u_of bs) (u_of cs) _ _ (ask_rise bs way names before ok) (ask_rise cs other others slice fine)
      λ x. (
        λ i. (ask_exactly cs other others slice fine x).1 (λ m j. let p = back m j in rw p.2 ((ask_exactly bs way names before ok x).0 i p.0 p.1)),
        λ i. (ask_exactly bs way names before ok x).1 (λ n j. let p = forth n j in rw p.2 ((ask_exactly cs other others slice fine x).0 i p.0 p.1)),
      )

  -- the same slots, and so the same count, and the same slice where it is as long
  abbrev Alike : Type 0
  Alike =
      (answer_slots bs names ≡ answer_slots cs others)
      × ((ask_answer bs way names (length before)).count ≡ (ask_answer cs other others (length slice)).count)
      × (length before ≡ length slice → ask_slice bs way names before ≡ ask_slice cs other others slice)

  same_slice : answer_slots bs names ≡ answer_slots cs others → Alike
  same_slice e = (
    e,
    ask_count bs way names before ok ∙ ap length e ∙ sym (ask_count cs other others slice fine),
    λ n. slice_is bs way names before ok ∙ rw (e, n) (sym (slice_is cs other others slice fine)),
  )

  -- so questions are alike where each list of the one is a list of the other
  pub contents_same : Covers bs names cs others → Covers cs others bs names → Alike
  contents_same forth back = same_slice (covered_same forth back)

-- the lists are held against each other name by name
pub pairs_cover : (bs names cs others : List ℕ) → map (held bs) names ≡ map (held cs) others → Covers bs names cs others
pairs_cover bs names cs others e n i =
    let p = has_place n names (has_in n names i) in
    let k : length names ≡ length others = sym (length-map names (held bs)) ∙ ap length e ∙ length-map others (held cs) in
    let l : p.0 < length others = rw (← k) p.1 in
    let a = map_at (held bs) names p.0 0 [] p.1 in
    let b = map_at (held cs) others p.0 0 [] l in
    (get_or others p.0 0, in_at others p.0 l, ap (held bs) (sym p.2) ∙ sym a ∙ ap (λ (ls : List (List ℕ)). get_or ls p.0 []) e ∙ b)

-- or are the same lists of one index
pub names_cover : (bs names others : List ℕ) → ((n : ℕ) → In n names → In n others) → Covers bs names bs others
names_cover bs names others h n i = (n, h n i, refl)

-- THE ORDER OF THE LISTS: every position once, by rising count, and of equal counts the one named first
pub record InOrder (counts xs : List ℕ) : Type 0 where
  pub each : (i : ℕ) → In i xs ↔ (i < length counts)
  pub rising : (a b : ℕ) → a < b → b < length xs → Before counts (get_or xs a 0) (get_or xs b 0)

-- the order that the question goes by is one
pub order_is : (counts : List ℕ) → InOrder counts (order counts)
order_is counts =
    record {
      each = λ i. (
        λ h. ltb-true i (length counts) (sym (order_has counts i) ∙ has_in i (order counts) h),
        λ l. in_has i (order counts) (order_has counts i ∙ lt-ltb i (length counts) l),
      );
      rising = λ a b l h. order_rise counts a b l (rw order_length at h);
    }

module _ (counts : List ℕ) where
  abbrev Rises : List ℕ → Type 0
  Rises xs = (a b : ℕ) → a < b → b < length xs → Before counts (get_or xs a 0) (get_or xs b 0)

  -- no two positions come each before the other
  pub never : {X : Type 0} (i j : ℕ) → Before counts i j → Before counts j i → X
  never i j (fewer l) (fewer m) = absurd (omega arith)
  never i j (fewer l) (earlier e m) = absurd (omega arith)
  never i j (earlier d l) (fewer m) = absurd (omega arith)
  never i j (earlier d l) (earlier e m) = absurd (omega arith)

  -- the first comes before all behind it
  first_before : (x : ℕ) (xs : List ℕ) → Rises (x ∷ xs) → (z : ℕ) → In z xs → Before counts x z
  first_before x xs r z i = let p = has_place z xs (has_in z xs i) in rw p.2 at (r 0 (suc p.0) (omega arith) (omega (arith, p.1)))

  split : (z y : ℕ) (ys : List ℕ) → In z (y ∷ ys) → (z ≡ y) ⊎ In z ys
  split z y ys (here e) = inl e
  split z y ys (there i) = inr i

  behind : (x y : ℕ) (xs ys : List ℕ) → x ≡ y → Rises (x ∷ xs) → ((z : ℕ) → In z (x ∷ xs) → In z (y ∷ ys)) → (z : ℕ) → In z xs → In z ys
  behind x y xs ys e r h z i =
      elim (split z y ys (h z (there i))) [
        | inr j ↦ j
        | inl f ↦ let b : Before counts x x = rw (f ∙ sym e) at (first_before x xs r z i) in never x x b b
      ]

  -- two lists that rise so and have the same positions are one
  rising_one : (xs ys : List ℕ) → Rises xs → Rises ys → ((z : ℕ) → In z xs → In z ys) → ((z : ℕ) → In z ys → In z xs) → xs ≡ ys
  rising_one [] [] r s f g = refl
  rising_one [] (y ∷ ys) r s f g = elim (g y (here refl)) [ ]
  rising_one (x ∷ xs) [] r s f g = elim (f x (here refl)) [ ]
  rising_one (x ∷ xs) (y ∷ ys) r s f g =
      let t = rising_one xs ys (λ a b l h. r (suc a) (suc b) (omega arith) (omega arith)) (λ a b l h. s (suc a) (suc b) (omega arith) (omega arith))
      (behind x y xs ys e r f) (behind y x ys xs (sym e) s g) in
      rw (e, t)
    where
      e : x ≡ y
      e =
          elim (split x y ys (f x (here refl))) [
            | inl p ↦ p
            | inr i ↦
                elim (split y x xs (g y (here refl))) [
                  | inl p ↦ sym p
                  | inr j ↦ never x y (first_before x xs r y j) (first_before y ys s x i)
                ]
          ]

  -- so there is no other order
  pub order_one : (xs : List ℕ) → InOrder counts xs → xs ≡ order counts
  order_one xs o =
      let q = order_is counts in
      rising_one xs (order counts) o.rising q.rising (λ z i. (q.each z).1 ((o.each z).0 i)) (λ z i. (o.each z).1 ((q.each z).0 i))
