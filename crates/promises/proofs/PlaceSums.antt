-- [Order 2] The sixteen places of an answer, taken together: they add up to what is charged in all.
use Prim.Native.Nat.{ℕ, zero, suc, ◌+◌, ◌≤◌, ◌<◌}
use mathlib.Core.Path.{◌≡◌, refl, sym, ◌∙◌}
use mathlib.Core.List.{List, [], ◌∷◌, map}
use native.Mathlib.Decide.{ℕ_discrete}
use native.Mathlib.Omega.{arith}
use lib.Dec.{eqb}
use lib.ListN.{length, get_or, length-drop}
use lib.Seq.{get_or-drop}
use borrow.Author.Tests.{eq-eqb, ne_eqb}
use Rattle.paper.specs.Lists.{pick, total, up_from}
use Rattle.paper.specs.Question.{Charge, positions, charged_at, places}
use Rattle.paper.specs.Ask.{named, ask_fault, costs, ask_answer}
use Rattle.laws.proofs.Questions.{named_many}
use Rattle.laws.proofs.Places.{places_length}
use Rattle.meaning.proofs.Common.{positions_length, position_inside}
use Rattle.promises.proofs.QuestionNumbers.{Passed, passed}
use Rattle.promises.proofs.AnswerCost.{charged, skips_charged}

-- the positions charged
abbrev pub charged_to : List Charge → List ℕ
charged_to cs = map (λ (c : Charge). c.position) cs

-- v at position i and 0 at every other of k positions from x on
module _ (i v : ℕ) where
  abbrev hit : ℕ → ℕ
  hit j = pick (eqb i j) v 0

  hit_none : (x k : ℕ) → i < x → total (map hit (up_from x k)) ≡ 0
  unfolding total up_from
  hit_none x zero l = refl
  hit_none x (suc k) l = rw (ne_eqb i x (λ e. omega arith), hit_none (x + 1) k (omega arith))

  hit_one : (x k : ℕ) → x ≤ i → i < x + k → total (map hit (up_from x k)) ≡ v
  unfolding total up_from
  hit_one x zero l h = absurd (omega arith)
  hit_one x (suc k) l h =
      elim (ℕ_discrete i x) [
        | yes e ↦ rw (eq-eqb i x e, hit_none (x + 1) k (omega arith)) (omega arith)
        | no n ↦ rw (ne_eqb i x n, hit_one (x + 1) k (omega arith) (omega arith)) (omega arith)
      ]

total_both : (p q : ℕ → ℕ) (xs : List ℕ) → total (map (λ x. p x + q x) xs) ≡ total (map p xs) + total (map q xs)
unfolding total
total_both p q [] = omega arith
total_both p q (x ∷ xs) = let h = total_both p q xs in omega arith

module _ (f : Charge → ℕ) where
  none_total : (xs : List ℕ) → total (map (charged_at f []) xs) ≡ 0
  unfolding total charged_at
  none_total [] = refl
  none_total (x ∷ xs) = let h = none_total xs in omega arith

  one_more : (c : Charge) (cs : List Charge) (xs : List ℕ)
      → total (map (charged_at f (c ∷ cs)) xs) ≡ total (map (hit c.position (f c)) xs) + total (map (charged_at f cs) xs)
  unfolding charged_at
  one_more c cs xs = total_both (hit c.position (f c)) (charged_at f cs) xs

  -- charges to the first sixteen positions: their places add up to all of them
  pub places_total : (cs : List Charge) → ((b : ℕ) → b < length (charged_to cs) → get_or (charged_to cs) b 0 < 16) → total (places f cs) ≡ total (map f cs)
  unfolding places total
  places_total [] h = none_total (up_from 0 16)
  places_total (c ∷ cs) h =
      let l = h 0 (omega arith) in
      one_more c cs (up_from 0 16)
      ∙ rw (hit_one c.position (f c) 0 16 (omega arith) (omega arith), places_total cs (λ b l. h (suc b) (omega arith)))

plain_costs : (index : List ℕ) (way : ℕ) (names : List ℕ) → ¬ (way ≡ 1) → costs index way names ≡ []
unfolding costs
plain_costs index way names n = rw (ne_eqb way 1 n)

-- of every question
module _ (index : List ℕ) (way : ℕ) (names : List ℕ) (room : ℕ) where
  -- an accepted one charges positions of its names
  module _ (p : Passed index way names room) where
    skips_inside : (b : ℕ) → b < length (charged_to (costs index 1 names)) → get_or (charged_to (costs index 1 names)) b 0 < length names
    skips_inside =
        rw (skips_charged index names)
        (λ b l. let e = positions_length (named index names) in
        let n = named_many index names in
        let d = length-drop 1 (positions (named index names)) in
        rw (get_or-drop 1 (positions (named index names)) b 0) (let k = position_inside (named index names) (1 + b) (omega arith) in omega arith))

    costs_inside : (b : ℕ) → b < length (charged_to (costs index way names)) → get_or (charged_to (costs index way names)) b 0 < length names
    costs_inside b l = go (ℕ_discrete way 1)
      where
        go : Dec (way ≡ 1) → get_or (charged_to (costs index way names)) b 0 < length names
        go (yes e) = rw e (skips_inside b (rw e at l))
        go (no n) = absurd (let k = rw (plain_costs index way names n) at l in omega arith)

  -- what is charged, charged to names: of sixteen at most
  abbrev Inside : List Charge → Type 0
  Inside cs = (b : ℕ) → b < length (charged_to cs) → (get_or (charged_to cs) b 0 < length names) × (get_or (charged_to cs) b 0 < 16)

  pub charged_inside : Inside (charged index way names room)
  charged_inside = go (ℕ_discrete (ask_fault index way names room).number 0)
    where
      go : Dec ((ask_fault index way names room).number ≡ 0) → Inside (charged index way names room)
      go (yes z) =
          let p = passed index way names room z in
          rw (eq-eqb _ _ z) (λ b l. let k = costs_inside p b l in let f = p.good.few in (k, omega arith))
      go (no n) = rw (ne_eqb _ _ n) (λ b l. absurd (omega arith))

  -- THE TOTALS: the looks are those of the places together
  pub looks_total : (ask_answer index way names room).looks ≡ total (ask_answer index way names room).looks16
  unfolding ask_answer
  looks_total = sym (places_total (λ c. c.looks) (charged index way names room) (λ b l. (charged_inside b l).1))

  -- and the codes
  pub codes_total : (ask_answer index way names room).codes ≡ total (ask_answer index way names room).codes16
  unfolding ask_answer
  codes_total = sym (places_total (λ c. c.codes) (charged index way names room) (λ b l. (charged_inside b l).1))

  -- there are sixteen places of each
  pub looks_sixteen : length (ask_answer index way names room).looks16 ≡ 16
  unfolding ask_answer
  looks_sixteen = places_length (λ c. c.looks) (charged index way names room)

  pub codes_sixteen : length (ask_answer index way names room).codes16 ≡ 16
  unfolding ask_answer
  codes_sixteen = places_length (λ c. c.codes) (charged index way names room)
