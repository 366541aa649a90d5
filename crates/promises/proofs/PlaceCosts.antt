-- [Order 2] The sixteen places of an answer, one by one: each name's place has what the walk through its list costs, and of which candidates.
use Prim.Native.Nat.{ℕ, zero, suc, ◌+◌, ◌-◌, ◌*◌, ◌≤◌, ◌<◌}
use mathlib.Core.Path.{◌≡◌, refl, sym, ap, ◌∙◌}
use mathlib.Core.Bool.{Bool, true, ◌&&◌, and-eq-true_iff}
use mathlib.Core.Logic.{◌↔◌}
use mathlib.Core.List.{List, [], ◌∷◌, map}
use native.Mathlib.Decide.{ℕ_discrete, dec_lt}
use native.Mathlib.Omega.{arith}
use lib.ListN.{length, get_or, take, drop, length-map, length-drop, get_or-eq_default}
use lib.Seq.{get_or-take, get_or-drop, length-take-le}
use borrow.Author.Tests.{eq-eqb}
use Rattle.paper.specs.Lists.{has, keep}
use Rattle.paper.specs.Record.{record_fault}
use Rattle.paper.specs.Held.{Listed, listed, contents, count_of}
use Rattle.paper.specs.Index.{u_of, block_length, record_of, held}
use Rattle.paper.specs.Walk.{walk_list}
use Rattle.paper.specs.Question.{Charge, in_all, positions, in_order, charged_at, places}
use Rattle.paper.specs.Ask.{named, costs, ask_answer}
use Rattle.laws.proofs.Frames.{looked}
use Rattle.laws.proofs.Lists.{In, has_in, in_has, has_keep, has_place, map_at}
use Rattle.laws.proofs.Questions.{named_many, named_at}
use Rattle.laws.proofs.Places.{charged_none, charged_here, charged_there, place_at, places_length}
use Rattle.meaning.proofs.Rising.{Ascends}
use Rattle.meaning.proofs.Sound.{contents_rise}
use Rattle.meaning.proofs.Orders.{Before, order_rise}
use Rattle.meaning.proofs.Walking.{passed, passed_all, keep_rise}
use Rattle.meaning.proofs.Common.{positions_length, position_has, position_inside, position_once, ordered_length, ordered_at, ordered_sound, in_each, each_in}
use Rattle.promises.proofs.QuestionNumbers.{Passed, same_rising}
use Rattle.promises.proofs.QuestionAlike.{never}
use Rattle.promises.proofs.WalkCost.{searches, walked_over, allowed, OfWalks, walk_seen, walk_allowed}
use Rattle.promises.proofs.SeekCodes.{read_over, walk_read, walk_codes}
use Rattle.promises.proofs.SkipCost.{Visit, visits, seen_in, read_in}
use Rattle.promises.proofs.AnswerCost as answer
use Rattle.promises.proofs.AnswerCost.{charged, visits_of, charged_seen, charged_read, skips_charged}
use Rattle.promises.proofs.SkipOrder.{sizes, sizes_counts}
use Rattle.promises.proofs.PlaceSums.{charged_to, charged_inside}

-- CHARGES, to no position twice
module _ (f : Charge → ℕ) where
  -- to a position that none of them is made to
  charged_away : (cs : List Charge) (i : ℕ) → ((b : ℕ) → b < length cs → ¬ (get_or (charged_to cs) b 0 ≡ i)) → charged_at f cs i ≡ 0
  charged_away [] i n = charged_none f i
  charged_away (c ∷ cs) i n = charged_there f c cs i (n 0 (omega arith)) ∙ charged_away cs i (λ b l. n (suc b) (omega arith))

  -- to that of the a-th
  charged_rank : (cs : List Charge) → ((a b : ℕ) → a < b → b < length cs → ¬ (get_or (charged_to cs) a 0 ≡ get_or (charged_to cs) b 0))
      → (a : ℕ) → a < length cs → charged_at f cs (get_or (charged_to cs) a 0) ≡ get_or (map f cs) a 0
  charged_rank [] o a l = absurd (omega arith)
  charged_rank (c ∷ cs) o zero l =
      let h = charged_here f c cs c.position refl in
      let z = charged_away cs c.position (λ b k e. o 0 (suc b) (omega arith) (omega arith) (sym e)) in
      omega arith
  charged_rank (c ∷ cs) o (suc a) l =
      charged_there f c cs _ (o 0 (suc a) (omega arith) (omega arith))
      ∙ charged_rank cs (λ a b k h. o (suc a) (suc b) (omega arith) (omega arith)) a (omega arith)

-- THE UNUSED PLACES of a question, accepted or refused, by any way
module _ (index : List ℕ) (way : ℕ) (names : List ℕ) (room : ℕ) (i : ℕ) (l : length names ≤ i) where
  none_charged : (f : Charge → ℕ) → charged_at f (charged index way names room) i ≡ 0
  none_charged f =
      charged_away f (charged index way names room) i
      (λ b h e. let m = length-map (charged index way names room) (λ (c : Charge). c.position) in
      let k = (charged_inside index way names room b (omega arith)).0 in
      absurd (omega arith))

  empty : (f : Charge → ℕ) → get_or (places f (charged index way names room)) i 0 ≡ 0
  empty f =
      elim (dec_lt i 16) [
        | yes k ↦ place_at f (charged index way names room) i k ∙ none_charged f
        | no k ↦
            let e = places_length f (charged index way names room) in
            let h : length (places f (charged index way names room)) ≤ i = omega arith in
            get_or-eq_default (places f (charged index way names room)) 0 h
      ]

  pub unused_looks : get_or (ask_answer index way names room).looks16 i 0 ≡ 0
  unfolding ask_answer
  unused_looks = empty (λ c. c.looks)

  pub unused_codes : get_or (ask_answer index way names room).codes16 i 0 ≡ 0
  unfolding ask_answer
  unused_codes = empty (λ c. c.codes)

-- the list at position i of a question, as it is searched
abbrev pub list_at : List ℕ → List ℕ → ℕ → Listed
list_at index names i = listed (u_of index) (block_length index) (record_of index (get_or names i 0))

-- What is spent at position i by skips. The candidates that come to it are the slots that every list before it holds (a list comes before another where it
-- holds fewer slots, or as many and is named earlier); that they rise and which they are leaves one list of them only. Its looks are those at entries of its
-- list, search by search, and its codes are those read
pub record Spent (index names : List ℕ) (room i : ℕ) : Type 0 where
  pub candidates : List ℕ
  pub rise : Ascends (u_of index) 0 candidates
  pub come : (x : ℕ) → In x candidates ↔ ((j : ℕ) → j < length names → Before (sizes index names) j i → In x (held index (get_or names j 0)))
  pub looks : get_or (ask_answer index 1 names room).looks16 i 0 ≡ length (walked_over (list_at index names i) 0 candidates)
  pub codes : get_or (ask_answer index 1 names room).codes16 i 0 ≡ read_over (list_at index names i) 0 candidates

-- its candidates are settled: being the slots of these lists, they are the same wherever they are told
pub spent_one : (index names : List ℕ) (room i : ℕ) (s t : Spent index names room i) → s.candidates ≡ t.candidates
spent_one index names room i s t =
    same_rising (u_of index) (u_of index) s.candidates t.candidates s.rise t.rise
    λ x. (λ h. (t.come x).1 ((s.come x).0 h), λ h. (s.come x).1 ((t.come x).0 h))

-- THE VISITS, one by one: to each come the candidates that all lists before it hold
no_visit : Visit
no_visit = record { list = listed 0 0 []; candidates = [] }

module _ (u B : ℕ) where
  visit_at : (rs : List (List ℕ)) (xs : List ℕ) (a : ℕ) → a < length rs
      → get_or (visits u B xs rs) a no_visit ≡ record { list = listed u B (get_or rs a []); candidates = passed (map (contents u B) (take a rs)) xs }
  unfolding visits passed
  visit_at [] xs a l = absurd (omega arith)
  visit_at (r ∷ rs) xs zero l = refl
  visit_at (r ∷ rs) xs (suc a) l = visit_at rs (keep (λ x. has x (contents u B r)) xs) a (omega arith)

  visits_length : (rs : List (List ℕ)) (xs : List ℕ) → length (visits u B xs rs) ≡ length rs
  unfolding visits
  visits_length [] xs = refl
  visits_length (r ∷ rs) xs = ap suc (visits_length rs _)

  -- the candidates that come to the list behind the first a + 1 of some: those that all of these hold
  abbrev coming : List (List ℕ) → ℕ → List ℕ
  coming os a = passed (map (contents u B) (take a (drop 1 os))) (contents u B (get_or os 0 []))

  module _ (os : List (List ℕ)) (a : ℕ) (l : a < length os) where
    taken : length (take a (drop 1 os)) ≡ a
    taken = let d = length-drop 1 os in length-take-le a (drop 1 os) (omega arith)

    behind : (b : ℕ) → b < a → get_or (take a (drop 1 os)) b [] ≡ get_or os (1 + b) []
    behind b k = get_or-take a (drop 1 os) b [] k ∙ get_or-drop 1 os b []

    module _ (x : ℕ) where
      abbrev first : Bool
      first = has x (contents u B (get_or os 0 []))

      abbrev others : Bool
      others = in_all (map (contents u B) (take a (drop 1 os))) x

      split : has x (coming os a) ≡ first && others
      split = ap (has x) (passed_all (map (contents u B) (take a (drop 1 os))) (contents u B (get_or os 0 []))) ∙ has_keep _ x _

      both : has x (coming os a) ≡ true → (first ≡ true) × (others ≡ true)
      both h = (and-eq-true_iff first others).0 (sym split ∙ h)

      -- so x is among them only where each list holds it
      coming_held : has x (coming os a) ≡ true → (b : ℕ) → b ≤ a → has x (contents u B (get_or os b [])) ≡ true
      coming_held h zero k = (both h).0
      coming_held h (suc b) k =
          let t = taken in
          let e : 1 + b ≡ suc b = omega arith in
          rw (behind b (omega arith), e) at (in_each (contents u B) x (take a (drop 1 os)) (both h).1 b (omega arith))

      -- and wherever each does
      held_coming : ((b : ℕ) → b ≤ a → has x (contents u B (get_or os b [])) ≡ true) → has x (coming os a) ≡ true
      held_coming h =
          let t = taken in
          split ∙ (and-eq-true_iff first others).1 (
            h 0 (omega arith),
            each_in (contents u B) x (take a (drop 1 os)) (λ b k. rw (behind b (omega arith)) (h (1 + b) (omega arith))),
          )

-- A QUESTION BY SKIPS that is accepted
module _ (index names : List ℕ) (room : ℕ) (ok : (ask_answer index 1 names room).number ≡ 0) where
  abbrev u : ℕ
  u = u_of index

  abbrev B : ℕ
  B = block_length index

  abbrev rs : List (List ℕ)
  rs = named index names

  abbrev ps : List ℕ
  ps = positions rs

  abbrev passes : Passed index 1 names room
  passes = answer.accepted index names room ok

  as_many : length rs ≡ length names
  as_many = named_many index names

  counts_are : sizes index names ≡ map count_of rs
  counts_are = sizes_counts index passes.looked names passes.good.below

  -- what stands in a place
  module _ (i : ℕ) (l : i < 16) where
    pub looks_place : get_or (ask_answer index 1 names room).looks16 i 0 ≡ charged_at (λ c. c.looks) (costs index 1 names) i
    unfolding ask_answer
    looks_place = rw (eq-eqb _ _ ok) (place_at (λ c. c.looks) (costs index 1 names) i l)

    pub codes_place : get_or (ask_answer index 1 names room).codes16 i 0 ≡ charged_at (λ c. c.codes) (costs index 1 names) i
    unfolding ask_answer
    codes_place = rw (eq-eqb _ _ ok) (place_at (λ c. c.codes) (costs index 1 names) i l)

  -- the charges: one for each position but the first in order
  costs_many : length (costs index 1 names) ≡ length names - 1
  costs_many =
      let e = positions_length rs in
      let n = as_many in
      let d = length-drop 1 ps in
      let h = ap length (skips_charged index names) in
      let m = length-map (costs index 1 names) (λ (c : Charge). c.position) in
      omega arith

  charged_at_place : (b : ℕ) → get_or (charged_to (costs index 1 names)) b 0 ≡ get_or ps (1 + b) 0
  charged_at_place b = ap (λ (l : List ℕ). get_or l b 0) (skips_charged index names) ∙ get_or-drop 1 ps b 0

  once : (a b : ℕ) → a < b → b < length (costs index 1 names) → ¬ (get_or (charged_to (costs index 1 names)) a 0 ≡ get_or (charged_to (costs index 1 names)) b 0)
  once a b l h e =
      let n = as_many in
      let m = costs_many in
      position_once rs (1 + a) (1 + b) (omega arith) (omega arith) (sym (charged_at_place a) ∙ e ∙ charged_at_place b)

  -- every position has a rank
  rank : (i : ℕ) → i < length names → (r : ℕ) × (r < length names) × (get_or ps r 0 ≡ i)
  rank i l =
      let n = as_many in
      let e = positions_length rs in
      let p = has_place i ps (position_has rs i (omega arith)) in
      (p.0, omega (arith, p.1), p.2)

  -- by rank: one comes before another exactly where its rank is smaller
  rank_before : (a b : ℕ) → a < b → b < length names → Before (sizes index names) (get_or ps a 0) (get_or ps b 0)
  rank_before a b l h = let n = as_many in rw counts_are (order_rise (map count_of rs) a b l (rw length-map (omega arith)))

  before_rank : (a b : ℕ) → a < length names → b < length names → Before (sizes index names) (get_or ps a 0) (get_or ps b 0) → a < b
  before_rank a b l h p = go (dec_lt a b) (ℕ_discrete a b)
    where
      go : Dec (a < b) → Dec (a ≡ b) → a < b
      go (yes k) e = k
      go (no n) (yes e) = let q = rw e at p in never (sizes index names) _ _ q q
      go (no n) (no m) = never (sizes index names) _ _ p (rank_before b a (omega arith) l)

  module _ (f : Charge → ℕ) where
    -- THE STARTING LIST's
    start : charged_at f (costs index 1 names) (get_or ps 0 0) ≡ 0
    start =
        charged_away f (costs index 1 names) (get_or ps 0 0)
        (λ b h e. let n = as_many in
        let m = costs_many in
        position_once rs 0 (1 + b) (omega arith) (omega arith) (sym (sym (charged_at_place b) ∙ e)))

    -- THE OTHERS'
    other : (a : ℕ) → 1 + a < length names → charged_at f (costs index 1 names) (get_or ps (1 + a) 0) ≡ get_or (map f (costs index 1 names)) a 0
    other a l = let m = costs_many in rw (← charged_at_place a) (charged_rank f (costs index 1 names) once a (omega arith))

  -- BY RANK: the list that comes behind the first a + 1, and its position
  ordered_here : (b : ℕ) → b < length names → get_or (in_order rs) b [] ≡ record_of index (get_or names (get_or ps b 0) 0)
  ordered_here b l =
      let n = as_many in
      let p = position_inside rs b (omega arith) in
      ordered_at rs b (omega arith) ∙ named_at index names (get_or ps b 0) (omega arith)

  module _ (a : ℕ) (l : 1 + a < length names) where
    abbrev at : ℕ
    at = get_or ps (1 + a) 0

    abbrev list : Listed
    list = list_at index names at

    abbrev comers : List ℕ
    comers = coming u B (in_order rs) a

    ordered_many : length (in_order rs) ≡ length names
    ordered_many = ordered_length rs ∙ as_many

    visit_is : get_or (visits_of index names) a no_visit ≡ record { list = list; candidates = comers }
    visit_is =
        let m = ordered_many in
        let d = length-drop 1 (in_order rs) in
        visit_at u B (drop 1 (in_order rs)) (contents u B (get_or (in_order rs) 0 [])) a (omega arith)
        ∙ ap (λ (r : List ℕ). record { list = listed u B r; candidates = comers }) (get_or-drop 1 (in_order rs) a [] ∙ ordered_here (1 + a) l)

    visit_there : a < length (visits_of index names)
    visit_there =
        let m = ordered_many in
        let d = length-drop 1 (in_order rs) in
        let v = visits_length u B (drop 1 (in_order rs)) (contents u B (get_or (in_order rs) 0 [])) in
        omega arith

    sixteen : at < 16
    sixteen = let n = as_many in let p = position_inside rs (1 + a) (omega arith) in let f = passes.good.few in omega arith

    -- its looks
    looks_spent : get_or (ask_answer index 1 names room).looks16 at 0 ≡ length (walked_over list 0 comers)
    looks_spent =
        looks_place at sixteen
        ∙ other (λ c. c.looks) a l
        ∙ ap (λ (l : List ℕ). get_or l a 0) (charged_seen index names room ok)
        ∙ map_at (λ v. length (seen_in v)) (visits_of index names) a no_visit 0 visit_there
        ∙ ap (λ v. length (seen_in v)) visit_is

    -- its codes
    codes_spent : get_or (ask_answer index 1 names room).codes16 at 0 ≡ read_over list 0 comers
    codes_spent =
        codes_place at sixteen
        ∙ other (λ c. c.codes) a l
        ∙ ap (λ (l : List ℕ). get_or l a 0) (charged_read index names room ok)
        ∙ map_at read_in (visits_of index names) a no_visit 0 visit_there
        ∙ ap read_in visit_is

    -- the candidates rise
    comers_rise : Ascends u 0 comers
    comers_rise =
        let m = ordered_many in
        let k = answer.some_b index names room ok in
        let free = ordered_sound u B k rs (answer.sound index names room ok) 0 (omega arith) in
        rw (passed_all (map (contents u B) (take a (drop 1 (in_order rs)))) (contents u B (get_or (in_order rs) 0 [])))
        (keep_rise _ u 0 _ (contents_rise u B (get_or (in_order rs) 0 []) k free))

    -- and are those that all lists before hold
    comers_are : (x : ℕ) → In x comers ↔ ((j : ℕ) → j < length names → Before (sizes index names) j at → In x (held index (get_or names j 0)))
    unfolding held
    comers_are x =
        let m = ordered_many in (
          λ h j k b.
              let p = rank j k in
              let c : p.0 < 1 + a = before_rank p.0 (1 + a) p.1 l (rw p.2 b) in
              let y = coming_held u B (in_order rs) a (omega arith) x (has_in x comers h) p.0 (omega arith) in
              in_has x _ (rw (ordered_here p.0 p.1, p.2) at y),
          λ h. in_has x comers
              (held_coming u B (in_order rs) a (omega arith) x
              (λ b k. let n = as_many in
              let p = position_inside rs b (omega arith) in
              rw (ordered_here b (omega arith)) (has_in x _ (h (get_or ps b 0) (omega arith) (rank_before b (1 + a) (omega arith) l))))),
        )

    rank_spent : Spent index names room at
    rank_spent = record { candidates = comers; rise = comers_rise; come = comers_are; looks = looks_spent; codes = codes_spent }

  -- BY POSITION: one that another comes before
  pub spent : (i : ℕ) → i < length names → (s : ℕ) → s < length names → Before (sizes index names) s i → Spent index names room i
  spent i l s h b = let p = rank i l in let q = rank s h in go p.0 p.1 p.2 (before_rank q.0 p.0 q.1 p.1 (rw (p.2, q.2) b))
    where
      go : (r : ℕ) → r < length names → get_or ps r 0 ≡ i → {k : ℕ} → k < r → Spent index names room i
      go zero k e m = absurd (omega arith)
      go (suc a) k e m = let z : 1 + a ≡ suc a = omega arith in rw (z, e) at (rank_spent a (omega arith))

  -- and the one that no other comes before, the starting list's: nothing is spent there
  pub started : (i : ℕ) → i < length names → ((j : ℕ) → j < length names → ¬ (Before (sizes index names) j i))
      → (get_or (ask_answer index 1 names room).looks16 i 0 ≡ 0) × (get_or (ask_answer index 1 names room).codes16 i 0 ≡ 0)
  started i l n = let p = rank i l in go p.0 p.1 p.2
    where
      few : i < 16
      few = let f = passes.good.few in omega arith

      go : (r : ℕ) → r < length names → get_or ps r 0 ≡ i → (get_or (ask_answer index 1 names room).looks16 i 0 ≡ 0) × (get_or (ask_answer index 1 names room).codes16 i 0 ≡ 0)
      go zero k e = (looks_place i few ∙ rw (← e) (start (λ c. c.looks)), codes_place i few ∙ rw (← e) (start (λ c. c.codes)))
      go (suc a) k e =
          let q = as_many in
          let h = position_inside rs 0 (omega arith) in
          absurd (n (get_or ps 0 0) (omega arith) (rw e at (rank_before 0 (suc a) (omega arith) k)))

  -- there is one such, and it comes before all others
  pub one_first : (s : ℕ) × (s < length names) × ((j : ℕ) → j < length names → ¬ (Before (sizes index names) j s))
      × ((i : ℕ) → i < length names → ¬ (i ≡ s) → Before (sizes index names) s i)
  one_first =
      let n = as_many in
      let k = passes.good.some in
      let h = position_inside rs 0 (omega arith) in (
        get_or ps 0 0,
        omega arith,
        λ j l b. let q = rank j l in let m = before_rank q.0 0 q.1 k (rw q.2 b) in absurd (omega arith),
        λ i l d. let q = rank i l in later q.0 q.1 i q.2 d,
      )
    where
      later : (r : ℕ) → r < length names → (i : ℕ) → get_or ps r 0 ≡ i → ¬ (i ≡ get_or ps 0 0) → Before (sizes index names) (get_or ps 0 0) i
      later zero l i e d = absurd (d (sym e))
      later (suc r) l i e d = rw e at (rank_before 0 (suc r) (omega arith) l)

  -- THE BOUNDS at a position
  module _ (i : ℕ) (l : i < length names) (s : Spent index names room i) where
    sound_there : record_fault u B (length (record_of index (get_or names i 0))) (record_of index (get_or names i 0)) ≡ 0
    sound_there = (looked index passes.looked).lists (get_or names i 0) (passes.good.below i l)

    walked : get_or (ask_answer index 1 names room).looks16 i 0 ≡ (walk_list (list_at index names i) 0 s.candidates).looks
    walked = s.looks ∙ sym (walk_seen (list_at index names i) 0 s.candidates)

    -- its looks are such as those of every walk are
    pub spent_looks : (R : ℕ → ℕ → ℕ → Type 0) → OfWalks R
        → R (get_or (ask_answer index 1 names room).looks16 i 0) (searches (list_at index names i) s.candidates) (list_at index names i).m
    spent_looks R h = rw walked (h (list_at index names i) s.candidates)

    -- and for each search what its digits allow
    pub spent_digits : get_or (ask_answer index 1 names room).looks16 i 0 ≤ allowed (list_at index names i) 0 s.candidates
    spent_digits = rw walked (walk_allowed (list_at index names i) 0 s.candidates)

    -- B − 1 codes for each search
    pub spent_codes : get_or (ask_answer index 1 names room).codes16 i 0 ≤ (B - 1) * searches (list_at index names i) s.candidates
    spent_codes =
        let r = record_of index (get_or names i 0) in
        let k = answer.some_b index names room ok in
        let e = s.codes ∙ sym (walk_read u B r k sound_there s.candidates 0) in
        rw e (walk_codes u B r k sound_there s.candidates 0)
