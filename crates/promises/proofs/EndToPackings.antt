-- Two indexes of the same slots, whatever their cuts and their u and B, answer a question alike.
use Prim.Native.Nat.{ℕ, ◌≤◌, ◌<◌}
use mathlib.Core.Path.{◌≡◌, refl, sym, ap, ◌∙◌}
use mathlib.Core.List.{List, []}
use native.Mathlib.Decide.{ℕ_discrete}
use native.Mathlib.Omega.{arith}
use lib.ListN.{length, get_or, length-map}
use Rattle.paper.specs.Refusal.{accepted, fault10, fault11, fault14}
use Rattle.paper.specs.Index.{k_of, held}
use Rattle.paper.specs.Question.{smallest}
use Rattle.paper.specs.Ask.{named, room_needed, ask_fault, ask_answer, ask_slice, MeetsAsk}
use Rattle.paper.specs.declared.Verdict.{Verdict}
use Rattle.paper.specs.declared.Answer.{Answer}
use Rattle.laws.proofs.Lists.{In, each_in}
use Rattle.laws.proofs.Links.{link_bad, link_names}
use Rattle.laws.proofs.Questions.{good_passed}
use Rattle.promises.proofs.QuestionNumbers.{from14, fault_is, smallest_name, smallest_place, need_is, need_least}
use Rattle.promises.proofs.QuestionSlots.{ask_refusal}
use Rattle.promises.proofs.QuestionAlike.{contents_same}
use Rattle.promises.proofs.EndToRuns.{Plan, all_slots, slots_of}
use Rattle.promises.proofs.EndToIndex.{Holding}
use Rattle.promises.proofs.EndToAnswers.{looked_number, counted, ask_allowed}

module _ {u B : ℕ} {plans : List Plan} {bs : List ℕ} (h : Holding u B plans bs) {v C : ℕ} {others : List Plan} {cs : List ℕ} (g : Holding v C others cs)
    (same : all_slots plans ≡ all_slots others) where
  slots_same : (n : ℕ) → slots_of plans n ≡ slots_of others n
  slots_same n = ap (λ (l : List (List ℕ)). get_or l n []) same

  many_same : length plans ≡ length others
  many_same = sym (length-map plans (λ (p : Plan). p.slots)) ∙ ap length same ∙ length-map others (λ (p : Plan). p.slots)

  k_same : k_of bs ≡ k_of cs
  k_same = h.k_is ∙ many_same ∙ sym g.k_is

  held_same : (n : ℕ) → n < k_of bs → held bs n ≡ held cs n
  held_same n l = h.held_is n (rw (← h.k_is) l) ∙ slots_same n ∙ sym (g.held_is n (rw (← g.k_is, ← k_same) l))

  -- the smallest of the lists named has no more slots in the one than in the other
  need_most : (names : List ℕ) → 1 ≤ length names → ((i : ℕ) → i < length names → get_or names i 0 < k_of bs)
      → smallest (named bs names) ≤ smallest (named cs names)
  need_most names some below =
      let l = smallest_place cs names some in
      let n = smallest_name cs names some in
      let b : n < k_of bs = below _ l in
      let p = need_is cs names some in
      let q = need_least bs names some _ l in
      let c = counted h n (rw (← h.k_is) b) in
      let d = counted g n (rw (← g.k_is, ← k_same) b) in
      let e = ap length (slots_same n) in
      omega arith

module _ {u B : ℕ} {plans : List Plan} {bs : List ℕ} (h : Holding u B plans bs) {v C : ℕ} {others : List Plan} {cs : List ℕ} (g : Holding v C others cs)
    (same : all_slots plans ≡ all_slots others) (way : ℕ) (names : List ℕ) where
  -- the room needed is the same
  need_same : 1 ≤ length names → ((i : ℕ) → i < length names → get_or names i 0 < k_of bs) → room_needed bs way names ≡ room_needed cs way names
  unfolding room_needed
  need_same some below =
      let a = need_most h g same names some below in
      let b = need_most g h (sym same) names some (rw (← k_same h g same) below) in
      omega arith

  -- number and place are the same
  fault_same : (room : ℕ) → ask_fault bs way names room ≡ ask_fault cs way names room
  fault_same room =
      fault_is bs way names room (looked_number h)
      ∙ go (ℕ_discrete (fault14 way (fault10 names (fault11 (k_of bs) names accepted))).number 0)
      ∙ sym (fault_is cs way names room (looked_number g))
    where
      go : Dec ((fault14 way (fault10 names (fault11 (k_of bs) names accepted))).number ≡ 0) → from14 bs way names room ≡ from14 cs way names room
      go (yes z) = let t = (good_passed (k_of bs) way names accepted z).0 in rw (← k_same h g same, need_same t.some t.below)
      go (no n) =
          link_bad _ (link_names (k_of bs) way names) _ refl _ n
          ∙ rw (← k_same h g same) (sym (link_bad _ (link_names (k_of bs) way names) _ refl _ n))

  module _ (before : List ℕ) where
    abbrev first : Answer
    first = ask_answer bs way names (length before)

    abbrev second : Answer
    second = ask_answer cs way names (length before)

    number_same : first.number ≡ second.number
    unfolding ask_answer
    number_same = ap (λ (v : Verdict). v.number) (fault_same (length before))

    place_same : first.place ≡ second.place
    unfolding ask_answer
    place_same = ap (λ (v : Verdict). v.place) (fault_same (length before))

    -- count and slice: nothing where they refuse, and the same slots where they accept
    slots_alike : (first.count ≡ second.count) × (ask_slice bs way names before ≡ ask_slice cs way names before)
    slots_alike =
        elim (ℕ_discrete first.number 0) [
          | no n ↦
              let a = ask_refusal bs way names before n in
              let b = ask_refusal cs way names before (rw (← number_same) n) in
              (a.0 ∙ sym b.0, a.5 ∙ sym b.5)
          | yes z ↦
              let below : (n : ℕ) → In n names → n < k_of bs
              = λ n i. rw h.k_is (each_in (λ n. n < length plans) names (ask_allowed h way names (length before) z).below n i) in
              let t = contents_same bs way names before cs way names before z (rw (← number_same) z) (λ n i. (n, i, held_same h g same n (below n i)))
              (λ n i. (n, i, sym (held_same h g same n (below n i)))) in
              (t.1, t.2 refl)
        ]

    -- so it is of whatever answers and slices keep the promise
    module _ (a : Answer) (s : List ℕ) (m : MeetsAsk bs way names before a s) (b : Answer) (t : List ℕ) (n : MeetsAsk cs way names before b t) where
      -- number, place, count and slice
      pub packed_alike : (a.number ≡ b.number) × (a.place ≡ b.place) × (a.count ≡ b.count) × (s ≡ t)
      packed_alike = rw (m.answers, m.leaves, n.answers, n.leaves) (number_same, place_same, slots_alike.0, slots_alike.1)
