-- What an answer costs: by skips the sum of what its walks cost, and plainly nothing.
use Prim.Native.Nat.{ℕ, ◌-◌, ◌*◌, ◌≤◌, ◌<◌}
use mathlib.Core.Path.{◌≡◌, ap, ◌∙◌}
use mathlib.Core.List.{List, [], ◌∷◌, map}
use native.Mathlib.Nat.{le_trans, mul-le-mul_left}
use native.Mathlib.Omega.{arith}
use lib.Dec.{eqb}
use lib.ListN.{length, get_or, drop, replicate, length-map, length-drop}
use borrow.Author.Tests.{eq-eqb}
use Rattle.paper.specs.Lists.{total, up_from}
use Rattle.paper.specs.Refusal.{if_accepted}
use Rattle.paper.specs.Held.{listed, contents}
use Rattle.paper.specs.Index.{u_of, block_length}
use Rattle.paper.specs.Question.{Charge, positions, in_order, smallest, charged_at, places}
use Rattle.paper.specs.Ask.{named, ask_fault, costs, ask_answer}
use Rattle.laws.proofs.Lists.{same_either}
use Rattle.meaning.proofs.Walking.{AllSound, named_sound}
use Rattle.meaning.proofs.Common.{ordered_length, smallest_count}
use Rattle.laws.proofs.Frames.{looked}
use Rattle.promises.proofs.QuestionNumbers.{Passed, passed}
use Rattle.meaning.proofs.Charging.{skips_positions}
use Rattle.promises.proofs.WalkCost.{Bounds}
use Rattle.promises.proofs.SkipCost.{Visit, searches_in, seen_in, read_in, bound_of, visits_from, AtMost, most_total}
use Rattle.promises.proofs.SkipCost.{skips_seen, skips_read, skips_looks, skips_codes, visits_plain, visits_few}

-- the looks charged
abbrev pub looks_charged : List ℕ → ℕ → List ℕ → List ℕ
looks_charged index way names = map (λ (c : Charge). c.looks) (costs index way names)

-- the codes charged
abbrev pub codes_charged : List ℕ → ℕ → List ℕ → List ℕ
codes_charged index way names = map (λ (c : Charge). c.codes) (costs index way names)

-- the lists that the candidates of a question come to, all but the smallest, by rising count
abbrev pub visits_of : List ℕ → List ℕ → List Visit
visits_of index names = visits_from (u_of index) (block_length index) (named index names)

-- an accepted answer sums up what is charged
module _ (index : List ℕ) (way : ℕ) (names : List ℕ) (room : ℕ) (ok : (ask_answer index way names room).number ≡ 0) where
  -- in looks
  pub answer_looks : (ask_answer index way names room).looks ≡ total (looks_charged index way names)
  unfolding ask_answer
  answer_looks = simp (eq-eqb _ _ ok)

  -- and in codes
  pub answer_codes : (ask_answer index way names room).codes ≡ total (codes_charged index way names)
  unfolding ask_answer
  answer_codes = simp (eq-eqb _ _ ok)

-- what a question is charged: nothing where it is refused
abbrev pub charged : List ℕ → ℕ → List ℕ → ℕ → List Charge
charged index way names room = if_accepted (ask_fault index way names room) (costs index way names) []

-- PLAINLY
module _ (index names : List ℕ) where
  plain_charged : (room : ℕ) → charged index 0 names room ≡ []
  unfolding costs
  plain_charged room = same_either (eqb (ask_fault index 0 names room).number 0) []

  module _ (room : ℕ) where
    -- there are no looks, accepted or refused
    pub plain_looks : (ask_answer index 0 names room).looks ≡ 0
    unfolding ask_answer total
    plain_looks = ap (λ (cs : List Charge). total (map (λ c. c.looks) cs)) (plain_charged room)

    -- nor codes
    pub plain_codes : (ask_answer index 0 names room).codes ≡ 0
    unfolding ask_answer total
    plain_codes = ap (λ (cs : List Charge). total (map (λ c. c.codes) cs)) (plain_charged room)

    -- and in no place either
    pub plain_looks16 : (ask_answer index 0 names room).looks16 ≡ replicate 16 0
    unfolding ask_answer places charged_at up_from
    plain_looks16 = ap (places (λ c. c.looks)) (plain_charged room)

    pub plain_codes16 : (ask_answer index 0 names room).codes16 ≡ replicate 16 0
    unfolding ask_answer places charged_at up_from
    plain_codes16 = ap (places (λ c. c.codes)) (plain_charged room)

  -- BY SKIPS: the positions charged
  pub skips_charged : map (λ (c : Charge). c.position) (costs index 1 names) ≡ drop 1 (positions (named index names))
  unfolding costs
  skips_charged = skips_positions (u_of index) (block_length index) (named index names)

-- a factor may be taken out of a sum
total_times : (k : ℕ) (f : Visit → ℕ) (vs : List Visit) → total (map (λ v. k * f v) vs) ≡ k * total (map f vs)
unfolding total
total_times k f [] = omega arith
total_times k f (v ∷ vs) = let i = total_times k f vs in omega arith

-- of an accepted question by skips
module _ (index names : List ℕ) (room : ℕ) (ok : (ask_answer index 1 names room).number ≡ 0) where
  abbrev u : ℕ
  u = u_of index

  abbrev B : ℕ
  B = block_length index

  abbrev rs : List (List ℕ)
  rs = named index names

  -- all its checks were passed
  pub accepted : Passed index 1 names room
  unfolding ask_answer
  accepted = passed index 1 names room ok

  pub some_b : 1 ≤ B
  some_b = (looked index accepted.looked).frame.some_b

  -- the records named are sound
  pub sound : AllSound u B rs
  sound = named_sound index names (looked index accepted.looked) accepted.good.below

  some : 0 < length rs
  some = rw length-map accepted.good.some

  -- each charge's looks are the positions looked at
  pub charged_seen : looks_charged index 1 names ≡ map (λ v. length (seen_in v)) (visits_of index names)
  unfolding costs
  charged_seen = skips_seen u B rs some_b sound

  -- and no more than what bounds every walk
  pub charged_looks : (b : ℕ → ℕ → ℕ) → Bounds b → AtMost (looks_charged index 1 names) (map (bound_of b) (visits_of index names))
  unfolding costs
  charged_looks = skips_looks u B rs some_b sound

  -- its codes: no more than B − 1 a search
  pub charged_codes : AtMost (codes_charged index 1 names) (map (λ v. (B - 1) * searches_in v) (visits_of index names))
  unfolding costs
  charged_codes = skips_codes u B rs some_b sound

  -- they are the codes read
  pub charged_read : codes_charged index 1 names ≡ map read_in (visits_of index names)
  unfolding costs
  charged_read = skips_read u B rs some_b sound

  -- ALL LOOKS
  pub looks_bound : (b : ℕ → ℕ → ℕ) → Bounds b → (ask_answer index 1 names room).looks ≤ total (map (bound_of b) (visits_of index names))
  looks_bound b h = rw (answer_looks index 1 names room ok) (most_total _ _ (charged_looks b h))

  -- and all codes
  pub codes_bound : (ask_answer index 1 names room).codes ≤ (B - 1) * total (map searches_in (visits_of index names))
  codes_bound = rw (answer_codes index 1 names room ok, ← total_times (B - 1) searches_in (visits_of index names)) (most_total _ _ charged_codes)

  -- the candidates, and the records that they go through
  abbrev firsts : List ℕ
  firsts = contents u B (get_or (in_order rs) 0 [])

  abbrev others : List (List ℕ)
  others = drop 1 (in_order rs)

  first_count : length firsts ≤ smallest rs
  first_count = let e = smallest_count u B some_b rs sound some in omega arith

  -- With as many searches in each list as the smallest list has slots: the looks
  pub looks_plain : (b : ℕ → ℕ → ℕ) → Bounds b → ((q m : ℕ) → q ≤ smallest rs → b q m ≤ b (smallest rs) m)
      → (ask_answer index 1 names room).looks ≤ total (map (λ r. b (smallest rs) (listed u B r).m) others)
  looks_plain b h g = le_trans (looks_bound b h) (most_total _ _ (visits_plain u B (smallest rs) b g others firsts first_count))

  -- and the codes
  pub codes_plain : (ask_answer index 1 names room).codes ≤ (B - 1) * (smallest rs * (length names - 1))
  codes_plain =
      let f = visits_few u B (smallest rs) others firsts first_count in
      let n : length others ≡ length names - 1 = length-drop 1 (in_order rs) ∙ ap (λ (n : ℕ). n - 1) (ordered_length rs ∙ length-map names _) in
      le_trans codes_bound (mul-le-mul_left (B - 1) (rw n at f))
