-- The lists that the candidates of a question come to, by any order of the positions in which the counts rise: it is the one that is charged.
use Prim.Native.Nat.{ℕ, suc, ◌<◌}
use mathlib.Core.Path.{◌≡◌, refl, sym, ap, ◌∙◌}
use mathlib.Core.List.{List, [], ◌∷◌, map}
use native.Mathlib.Omega.{arith}
use lib.ListN.{length, get_or, drop, length-map}
use Rattle.paper.specs.Held.{contents, count_of}
use Rattle.paper.specs.Index.{u_of, block_length, k_of, record_of, held}
use Rattle.paper.specs.Look.{look}
use Rattle.paper.specs.Question.{Charge, positions, in_order, order}
use Rattle.paper.specs.Ask.{named, costs, ask_answer}
use Rattle.meaning.proofs.Orders.{order_length}
use Rattle.promises.proofs.AcceptedLists as lists
use Rattle.promises.proofs.QuestionNumbers.{Passed, passed}
use Rattle.promises.proofs.QuestionAlike.{InOrder, order_one}
use Rattle.promises.proofs.SkipCost.{Visit, visits, seen_in, read_in}
use Rattle.promises.proofs.AnswerCost as answer
use Rattle.promises.proofs.AnswerCost.{looks_charged, codes_charged, visits_of}

-- how many slots each list named holds
abbrev pub sizes : List ℕ → List ℕ → List ℕ
sizes index names = map (λ (n : ℕ). length (held index n)) names

-- the visits where the positions are gone through in the order os: the slots of the list at its first position come to the lists at the others
abbrev pub visits_in : List ℕ → List ℕ → List ℕ → List Visit
visits_in index names [] = []
visits_in index names (o ∷ os) =
    visits (u_of index) (block_length index) (contents (u_of index) (block_length index) (get_or (named index names) o [])) (map (λ i. get_or (named index names) i []) os)

pub sizes_counts : (index : List ℕ) → (look index).number ≡ 0 → (names : List ℕ) → ((i : ℕ) → i < length names → get_or names i 0 < k_of index)
    → sizes index names ≡ map count_of (named index names)
sizes_counts index ok [] b = refl
sizes_counts index ok (n ∷ names) b = rw (lists.list_count index ok n (b 0 (omega arith)), sizes_counts index ok names (λ i l. b (suc i) (omega arith)))

module _ (index names : List ℕ) where
  visits_order : (os : List ℕ) → 0 < length os → positions (named index names) ≡ os → visits_of index names ≡ visits_in index names os
  unfolding in_order
  visits_order [] l e = absurd (omega arith)
  visits_order (o ∷ os) l e = rw e

  module _ (room : ℕ) (ok : (ask_answer index 1 names room).number ≡ 0) (os : List ℕ) (o : InOrder (sizes index names) os) where
    accepted : Passed index 1 names room
    unfolding ask_answer
    accepted = passed index 1 names room ok

    pub as_ordered : os ≡ positions (named index names)
    as_ordered = order_one _ os o ∙ ap order (sizes_counts index accepted.looked names accepted.good.below)

    some : 0 < length os
    some =
        let n = accepted.good.some in
        let e = ap length as_ordered ∙ order_length (map count_of (named index names)) ∙ length-map (named index names) count_of ∙ length-map names (record_of index) in
        omega arith

    visits_are : visits_of index names ≡ visits_in index names os
    visits_are = visits_order os some (sym as_ordered)

    pub positions_ordered : map (λ (c : Charge). c.position) (costs index 1 names) ≡ drop 1 os
    positions_ordered = answer.skips_charged index names ∙ ap (drop 1) (sym as_ordered)

    pub looks_ordered : looks_charged index 1 names ≡ map (λ v. length (seen_in v)) (visits_in index names os)
    looks_ordered = answer.charged_seen index names room ok ∙ ap (map (λ v. length (seen_in v))) visits_are

    pub codes_ordered : codes_charged index 1 names ≡ map read_in (visits_in index names os)
    codes_ordered = answer.charged_read index names room ok ∙ ap (map read_in) visits_are
