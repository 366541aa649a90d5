-- The candidates on their way through the lists named, list by list: what is left of them and what the lists to come keep of it is the answer.
use Prim.Native.Nat.{ℕ, zero, suc, ◌+◌, ◌-◌, ◌*◌, ◌≤◌, ◌<◌}
use mathlib.Core.Path.{◌≡◌, refl, sym, ap, ◌∙◌}
use mathlib.Core.List.{List, [], ◌∷◌, ◌++◌, map}
use native.Mathlib.Decide.{ℕ_discrete}
use native.Mathlib.Nat.{le_refl}
use native.Mathlib.Numerals.{add-one}
use native.Mathlib.Omega.{arith}
use lib.ListN.{length, get_or, take, drop, replicate, set, drop_of_length-le, length-set, length-append, get_or-replicate}
use lib.Seq.{drop-cons, get_or-take, length-take-le, take-append-le, get_or-set_same, get_or-set_other}
use Rattle.std.proofs.lemmas.List.{get_or-drop, length-drop}
use Rattle.paper.specs.Lists.{has, keep, total, up_from}
use Rattle.paper.specs.Record.{record_fault}
use Rattle.paper.specs.Held.{contents, count_of, listed}
use Rattle.paper.specs.Index.{u_of, block_length, k_of, record_of}
use Rattle.paper.specs.Walk.{Walk, walk_list, walks}
use Rattle.paper.specs.Question as question
use Rattle.paper.specs.Question.{Charge, positions, in_order, smallest, from_smallest, charged_at, places, charges, by_skips}
use Rattle.paper.specs.Ask.{named, answer_slots, costs}
use Rattle.laws.proofs.Frames.{Accepted, looked}
use Rattle.laws.proofs.Questions.{named_many, counts_many, named_at, count_at}
use Rattle.laws.proofs.Places.{charged_none, charged_here, charged_there, places_are}
use Rattle.meaning.proofs.Rising.{Ascends, rise_length}
use Rattle.meaning.proofs.Sound.{contents_rise}
use Rattle.meaning.proofs.Orders.{order_length}
use Rattle.meaning.proofs.Walking.{AllSound, passed, keep_rise, walk_keeps, named_sound}
use Rattle.meaning.proofs.Common.{position_inside, position_once, ordered_length, ordered_at, ordered_sound, from_the_smallest}
use Rattle.meaning.proofs.Charging.{charge, skips_charged, plain_costs}
use Rattle.record.specs.Front.{Front, Candidates}
use Rattle.skips.specs.declared.Walked.{Walked}
use Rattle.skips.specs.Walks.{Walks}
use Rattle.plain.specs.Sifted.{plainly}
use Rattle.plain.proofs.Meant.{plainly_keeps}
use Rattle.names.specs.Asked.{Asked}
use Rattle.question.specs.Answered.{Ordered, Gathered, Answers}

-- rising slots are candidates: none is 0, and there are at most u
module _ (u n : ℕ) (s : List ℕ) (few : n ≤ length s) (rise : Ascends u 0 (take n s)) where
  above : (a i : ℕ) (xs : List ℕ) → Ascends u a xs → i < length xs → 0 < get_or xs i 0
  above a zero [] r l = absurd (omega arith)
  above a (suc i) [] r l = absurd (omega arith)
  above a zero (x ∷ xs) r l = let h = r.0 in omega arith
  above a (suc i) (x ∷ xs) r l = above x i xs r.2 (omega arith)

  -- none of them is 0
  candidates : Candidates n s
  candidates =
      record {
        few = few;
        some = λ i l. let e = length-take-le n s few in rw (← get_or-take n s i 0 l) (above 0 i (take n s) rise (omega arith));
      }

  -- they are few
  few_slots : n ≤ u
  few_slots = let e = length-take-le n s few in let r = rise_length u 0 (take n s) (omega arith) rise in omega arith

-- the first n of them, taken alone
alone : (n : ℕ) (s : List ℕ) → Candidates n s → Candidates (length (take n s)) (take n s)
alone n s c =
    let e = length-take-le n s c.few in
    record { few = omega arith; some = λ i l. rw (get_or-take n s i 0 (omega arith)) (c.some i (omega arith)) }

-- slots that stand at the front of a part stand there before whatever comes behind it
front_before : (xs : List ℕ) (n : ℕ) (t d : List ℕ) → Front xs n t → Front xs n (t ++ d)
front_before xs n t d f = let b = f.few in record { few = omega (arith, length-append t d); are = take-append-le n t d b ∙ f.are }

-- and so do those that a walk leaves
before_others : (k : Walk) (w : Walked) (t d : List ℕ) → Walks k w t → Walks k w (t ++ d)
before_others k w t d f =
    record {
      slots = front_before k.kept w.count t d f.slots;
      looks = f.looks;
      codes = f.codes;
      few_looks = f.few_looks;
      few_codes = f.few_codes;
    }

-- An index and the names of a question: u, B and the records named
module _ (index names : List ℕ) where
  abbrev u : ℕ
  u = u_of index

  abbrev B : ℕ
  B = block_length index

  abbrev rs : List (List ℕ)
  rs = named index names

  -- r lists have been gone through, and the first n places of s hold the candidates that all of them hold
  pub record Left (s : List ℕ) (n r : ℕ) : Type 0 where
    pub begun : 1 ≤ r
    pub within : r ≤ length names
    pub few : n ≤ length s
    pub rise : Ascends u 0 (take n s)
    pub same : passed (map (contents u B) (drop r (in_order rs))) (take n s) ≡ answer_slots index names

  -- what the walks to come cost
  abbrev walks_left : List ℕ → ℕ → ℕ → List Walk
  walks_left s n r = walks (map (listed u B) (drop r (in_order rs))) (take n s)

  -- and to which positions they are charged
  abbrev charges_left : List ℕ → ℕ → ℕ → List Charge
  charges_left s n r = charges (drop r (positions rs)) (walks_left s n r)

  -- sixteen places l, of looks or of codes as f tells: what stands in a place and what is charged there by the lists to come is all; the places of
  -- the lists to come are empty
  pub record Placing (f : Charge → ℕ) (l s : List ℕ) (n r : ℕ) : Type 0 where
    pub sixteen : length l ≡ 16
    pub all : (i : ℕ) → i < 16 → get_or l i 0 + charged_at f (charges_left s n r) i ≡ charged_at f (costs index 1 names) i
    pub empty : (j : ℕ) → r ≤ j → j < length names → get_or l (get_or (positions rs) j 0) 0 ≡ 0

  -- by skips: and `looks` and `codes` are what the lists so far cost, and stand in their places
  pub record Costing (s : List ℕ) (n r looks codes : ℕ) (looks16 codes16 : List ℕ) : Type 0 where
    pub left : Left s n r
    pub looks_placed : Placing (λ c. c.looks) looks16 s n r
    pub codes_placed : Placing (λ c. c.codes) codes16 s n r
    pub all_looks : looks + total (map (λ (w : Walk). w.looks) (walks_left s n r)) ≡ total (map (λ (c : Charge). c.looks) (costs index 1 names))
    pub codes_of_all : codes + total (map (λ (w : Walk). w.codes) (walks_left s n r)) ≡ total (map (λ (c : Charge). c.codes) (costs index 1 names))
    pub few_looks : looks ≤ 4503599627370496 * r
    pub few_codes : codes ≤ 4503599627370496 * r

  module _ (a : Asked index names) where
    accepts : Accepted index
    accepts = looked index a.looked

    some_b : 1 ≤ B
    some_b = accepts.frame.some_b

    as_many : length rs ≡ length names
    as_many = named_many index names

    all_sound : AllSound u B rs
    all_sound = named_sound index names accepts a.below

    -- the position that comes r-th in the order
    module _ (r : ℕ) (l : r < length names) (at : ℕ) (is : at ≡ get_or (positions rs) r 0) where
      -- it is that of a name, and one of sixteen
      pub at_below : at < length names
      at_below = let e = as_many in rw is (let p = position_inside rs r (omega arith) in omega arith)

      pub at_sixteen : at < 16
      at_sixteen = let b = at_below in let f = a.few in omega arith

      -- the name there is one of the lists
      pub at_known : get_or names at 0 < k_of index
      at_known = a.below at at_below

      the_record : record_of index (get_or names at 0) ≡ get_or (in_order rs) r []
      the_record = let e = as_many in sym (named_at index names at at_below) ∙ rw is (sym (ordered_at rs r (omega arith)))

    -- where the positions stand in a list of their own, it is the one that comes r-th there
    at_is : (order : List ℕ) → Ordered index names order → (r : ℕ) → r < length names → get_or order r 0 ≡ get_or (positions rs) r 0
    at_is order o r l = sym (get_or-take (length names) order r 0 l) ∙ ap (λ (l : List ℕ). get_or l r 0) o

    positions_many : length (positions rs) ≡ length names
    positions_many = order_length (map count_of rs) ∙ counts_many index names

    -- every position is one of sixteen
    inside : (j : ℕ) → j < length names → get_or (positions rs) j 0 < 16
    inside j l = let e = as_many in let p = position_inside rs j (omega arith) in let f = a.few in omega arith

    ordered_many : length (in_order rs) ≡ length names
    ordered_many = ordered_length rs ∙ as_many

    all_gone : (r : ℕ) → length names ≤ r → drop r (in_order rs) ≡ []
    all_gone r l = let f : length (in_order rs) ≤ r = let e = ordered_many in omega arith in drop_of_length-le (in_order rs) f

    smallest_rise : Ascends u 0 (contents u B (get_or (in_order rs) 0 []))
    smallest_rise =
        let e = ordered_many in
        let s = a.some in
        contents_rise u B (get_or (in_order rs) 0 []) some_b (ordered_sound u B some_b rs all_sound 0 (omega arith))

    -- the smallest list is gathered
    pub left_begin : (s : List ℕ) (n : ℕ) → Gathered index names n s → Left s n 1
    unfolding answer_slots
    left_begin s n g =
        let e = as_many in
        let h = a.some in
        record {
          begun = omega arith;
          within = h;
          few = g.few;
          rise = rw g.are smallest_rise;
          same = rw g.are (from_the_smallest u B some_b rs all_sound (omega arith));
        }

    module _ (s : List ℕ) (n r : ℕ) (h : Left s n r) where
      -- what is left are candidates
      pub left_candidates : Candidates n s
      left_candidates = candidates u n s h.few h.rise

      -- and so they are alone
      pub left_alone : Candidates (length (take n s)) (take n s)
      left_alone = alone n s left_candidates

      -- they rise
      pub left_rise : Ascends u 0 (take n s)
      left_rise = h.rise

      -- not more than the largest u
      pub left_few : n ≤ 1048576
      left_few = let f = few_slots u n s h.few h.rise in let m = accepts.frame.most_u in omega arith

      pub alone_few : length (take n s) ≤ 1048576
      alone_few = let f = left_few in let e = length-take-le n s h.few in omega arith

      -- and so their number fits 32 bits
      pub left_told : n < 4294967296
      left_told = let f = left_few in omega arith

      -- no list is left: they are the answer
      pub left_end : length names ≤ r → Front (answer_slots index names) n s
      unfolding passed
      left_end l = record { few = h.few; are = rw (all_gone r l) at h.same }

      -- the next list
      module _ (l : r < length names) (at : ℕ) (is : at ≡ get_or (positions rs) r 0) where
        abbrev name : ℕ
        name = get_or names at 0

        next : drop r (in_order rs) ≡ record_of index name ∷ drop (r + 1) (in_order rs)
        next = let e = ordered_many in rw (the_record r l at is, add-one r) (drop-cons (in_order rs) r [] (omega arith))

        next_sound : record_fault u B (length (record_of index name)) (record_of index name) ≡ 0
        next_sound = accepts.lists name (at_known r l at is)

        -- those that it holds are left
        pub left_turn : (t : List ℕ) (m : ℕ) → Front (keep (λ x. has x (contents u B (record_of index name))) (take n s)) m t → Left t m (r + 1)
        unfolding passed
        left_turn t m f =
            record {
              begun = omega arith;
              within = omega arith;
              few = f.few;
              rise = rw f.are (keep_rise _ u 0 (take n s) h.rise);
              same = rw f.are (rw next at h.same);
            }

        walked : (walk_list (listed u B (record_of index name)) 0 (take n s)).kept
            ≡ keep (λ x. has x (contents u B (record_of index name))) (take n s)
        walked = walk_keeps u B _ some_b next_sound (take n s) h.rise

      -- a merge of any candidates
      module _ (order : List ℕ) (o : Ordered index names order) (l : r < length names) (name : ℕ) (is : name ≡ get_or names (get_or order r 0) 0) where
        pub left_merged : (t : List ℕ) (m : ℕ) → Front (plainly (listed u B (record_of index name)) (take n s)) m t → Left t m (r + 1)
        left_merged t m f =
            let e = at_is order o r l in
            let sound = next_sound l (get_or order r 0) e in
            left_turn l (get_or order r 0) e t m (rw (plainly_keeps u B _ some_b sound (take n s) h.rise) at (rw is at f))

    -- the walks from the smallest list on
    from_first : (os : List (List ℕ)) → from_smallest u B os ≡ walks (map (listed u B) (drop 1 os)) (contents u B (get_or os 0 []))
    unfolding from_smallest walks
    from_first [] = refl
    from_first (o ∷ os) = refl

    module _ (s : List ℕ) (n : ℕ) (g : Gathered index names n s) where
      sum_first : (f : Charge → ℕ) (g : Walk → ℕ) → ((i : ℕ) (w : Walk) → f (charge i w) ≡ g w)
          → total (map g (walks_left s n 1)) ≡ total (map f (costs index 1 names))
      unfolding costs
      sum_first f h same = ap total (rw g.are (sym (skips_charged u B rs f h same ∙ ap (map h) (from_first (in_order rs)))))

      all_to_come : charges_left s n 1 ≡ costs index 1 names
      unfolding costs by_skips
      all_to_come = rw g.are (ap (charges (drop 1 (positions rs))) (sym (from_first (in_order rs))))

      -- nothing stands in a place before the first walk
      place_begin : (f : Charge → ℕ) → Placing f (replicate 16 0) s n 1
      place_begin f =
          record {
            sixteen = refl;
            all = λ i l. let z : ◌≡◌ {A = ℕ} (get_or (replicate 16 0) i 0) 0 = get_or-replicate 16 i 0 0 l in rw (z, all_to_come) (omega arith);
            empty = λ j l h. let p = inside j h in get_or-replicate 16 (get_or (positions rs) j 0) 0 0 p;
          }

      -- nothing is spent before it
      pub cost_begin : Costing s n 1 0 0 (replicate 16 0) (replicate 16 0)
      cost_begin =
          let p = sum_first (λ (c : Charge). c.looks) (λ (w : Walk). w.looks) (λ i w. refl) in
          let q = sum_first (λ (c : Charge). c.codes) (λ (w : Walk). w.codes) (λ i w. refl) in
          record {
            left = left_begin s n g;
            looks_placed = place_begin (λ c. c.looks);
            codes_placed = place_begin (λ c. c.codes);
            all_looks = omega arith;
            codes_of_all = omega arith;
            few_looks = omega arith;
            few_codes = omega arith;
          }

    module _ (s : List ℕ) (n r looks codes : ℕ) (looks16 codes16 : List ℕ) (h : Costing s n r looks codes looks16 codes16) where
      none_left : length names ≤ r → walks_left s n r ≡ []
      unfolding walks
      none_left l = rw (all_gone r l)

      pub cost_looks : length names ≤ r → looks ≡ total (map (λ (c : Charge). c.looks) (costs index 1 names))
      unfolding total
      cost_looks l = let e = rw (none_left l) at h.all_looks in omega arith

      pub cost_codes : length names ≤ r → codes ≡ total (map (λ (c : Charge). c.codes) (costs index 1 names))
      unfolding total
      cost_codes l = let e = rw (none_left l) at h.codes_of_all in omega arith

      no_charge : length names ≤ r → charges_left s n r ≡ []
      unfolding charges
      no_charge l = let f : length (positions rs) ≤ r = let e = positions_many in omega arith in rw (drop_of_length-le (positions rs) f)

      -- no list is left: each place has what its position is charged
      placed_all : (f : Charge → ℕ) (l : List ℕ) → Placing f l s n r → length names ≤ r → l ≡ places f (costs index 1 names)
      placed_all f l p e =
          places_are f (costs index 1 names) l p.sixteen
          (λ i k. let a = p.all i k in let z : charged_at f (charges_left s n r) i ≡ 0 = rw (no_charge e) (charged_none f i) in omega arith)

      module _ (l : r < length names) (at : ℕ) (is : at ≡ get_or (positions rs) r 0) where
        abbrev name₁ : ℕ
        name₁ = get_or names at 0

        module _ (t : List ℕ) (w : Walked) (f : Walks (walk_list (listed u B (record_of index name₁)) 0 (take n s)) w t) where
          abbrev walk : Walk
          walk = walk_list (listed u B (record_of index name₁)) 0 (take n s)

          -- the list that comes next is charged, and then those behind it
          next_charged : charges_left s n r ≡ charge at walk ∷ charges_left t w.count (r + 1)
          unfolding walks charges
          next_charged =
              let e = positions_many in
              let d : drop r (positions rs) ≡ at ∷ drop (r + 1) (positions rs) = rw (is, add-one r) (drop-cons (positions rs) r 0 (omega arith)) in
              rw (d, next s n r h.left l at is, f.slots.are)

          -- what it costs is put to its place
          place_turn : (g : Charge → ℕ) (v : ℕ) (p : List ℕ) → g (charge at walk) ≡ v → Placing g p s n r → Placing g (set p at v) t w.count (r + 1)
          place_turn g v p e q =
              record {
                sixteen = length-set p at v ∙ q.sixteen;
                all = λ i k. one i k (ℕ_discrete i at);
                empty = λ j k m. get_or-set_other p at _ v 0 (away j k m) ∙ q.empty j (omega arith) m;
              }
            where
              away : (j : ℕ) → r + 1 ≤ j → j < length names → ¬ (get_or (positions rs) j 0 ≡ at)
              away j k m z = let e = as_many in position_once rs r j (omega arith) (omega arith) (sym (z ∙ is))

              one : (i : ℕ) → i < 16 → Dec (i ≡ at)
                  → get_or (set p at v) i 0 + charged_at g (charges_left t w.count (r + 1)) i ≡ charged_at g (costs index 1 names) i
              one i k (yes y) =
                  let a = rw next_charged at (q.all i k) in
                  let c = charged_here g (charge at walk) (charges_left t w.count (r + 1)) i (sym y) in
                  let z : get_or p i 0 ≡ 0 = rw (y, is) (q.empty r (le_refl r) l) in
                  let b : get_or (set p at v) i 0 ≡ v = rw (← y) (get_or-set_same p i v 0 (omega (arith, q.sixteen))) in
                  omega arith
              one i k (no y) =
                  let a = rw next_charged at (q.all i k) in
                  let c = charged_there g (charge at walk) (charges_left t w.count (r + 1)) i (λ z. y (sym z)) in
                  let b = get_or-set_other p at i v 0 y in
                  omega arith

          -- a walk
          pub cost_turn : Costing t w.count (r + 1) (looks + w.looks) (codes + w.codes) (set looks16 at w.looks) (set codes16 at w.codes)
          unfolding total walks
          cost_turn =
              let k = walked s n r h.left l at is in
              let x = next s n r h.left l at is in
              let p = rw x at h.all_looks in
              let q = rw x at h.codes_of_all in
              let a₁ = f.looks in
              let a₂ = f.codes in
              let b₁ = f.few_looks in
              let b₂ = f.few_codes in
              let c₁ = h.few_looks in
              let c₂ = h.few_codes in
              record {
                left = left_turn s n r h.left l at is t w.count (rw (← k) f.slots);
                looks_placed = place_turn (λ c. c.looks) w.looks looks16 (sym a₁) h.looks_placed;
                codes_placed = place_turn (λ c. c.codes) w.codes codes16 (sym a₂) h.codes_placed;
                all_looks = rw f.slots.are (omega arith);
                codes_of_all = rw f.slots.are (omega arith);
                few_looks = omega arith;
                few_codes = omega arith;
              }

    -- THE FURTHER LISTS, by their positions in order
    module _ (items : List ℕ) (isI : items ≡ drop 1 (positions rs)) (k : ℕ) (less : k < length items) where
      there : k + 1 < length names
      there = let e = positions_many in let f = ap length isI ∙ length-drop 1 (positions rs) in omega arith

      item : get_or items k 0 ≡ get_or (positions rs) (k + 1) 0
      item = let e : 1 + k ≡ k + 1 = omega arith in rw isI (get_or-drop 1 (positions rs) k 0 ∙ ap (λ (i : ℕ). get_or (positions rs) i 0) e)

      -- the position is that of a name, and one of sixteen; the name there is one of the lists
      pub next_below : get_or items k 0 < length names
      next_below = at_below (k + 1) there _ item

      pub next_sixteen : get_or items k 0 < 16
      next_sixteen = at_sixteen (k + 1) there _ item

      pub next_known : get_or names (get_or items k 0) 0 < k_of index
      next_known = at_known (k + 1) there _ item

      -- those that it holds are left
      pub left_next : (s : List ℕ) (n : ℕ) → Left s n (k + 1) → (t : List ℕ) (m : ℕ)
          → Front (keep (λ x. has x (contents u B (record_of index (get_or names (get_or items k 0) 0)))) (take n s)) m t → Left (t ++ drop n s) m (k + 1 + 1)
      left_next s n h t m f = left_turn s n (k + 1) h there _ item (t ++ drop n s) m (front_before _ m t (drop n s) f)

      -- what a walk costs is put to its place: the looks to the place p, and the codes to q
      pub cost_next : (s : List ℕ) (n looks codes : ℕ) (looks16 codes16 : List ℕ) → Costing s n (k + 1) looks codes looks16 codes16 → (t : List ℕ) (w : Walked)
          → Walks (walk_list (listed u B (record_of index (get_or names (get_or items k 0) 0))) 0 (take n s)) w t → (p q : ℕ) → p ≡ get_or items k 0
          → q ≡ get_or items k 0 → Costing (t ++ drop n s) w.count (k + 1 + 1) (looks + w.looks) (codes + w.codes) (set looks16 p w.looks) (set codes16 q w.codes)
      cost_next s n looks codes looks16 codes16 h t w f p q isP isQ =
          rw (isP, isQ) (cost_turn s n (k + 1) looks codes looks16 codes16 h there _ item (t ++ drop n s) w (before_others _ w t (drop n s) f))

    -- all are gone through
    pub none_further : (items : List ℕ) → items ≡ drop 1 (positions rs) → (k : ℕ) → length items ≤ k → length names ≤ k + 1
    none_further items isI k l = let e = positions_many in let f = ap length isI ∙ length-drop 1 (positions rs) in omega arith

    -- BEFORE THE WALK: the order and the room
    module _ (order : List ℕ) (o : Ordered index names order) where
      first : get_or order 0 0 ≡ get_or (positions rs) 0 0
      first = sym (get_or-take (length names) order 0 0 a.some) ∙ ap (λ (l : List ℕ). get_or l 0 0) o

      -- the first position is that of a name, and one of sixteen
      pub first_below : get_or order 0 0 < length names
      first_below = at_below 0 a.some _ first

      pub first_sixteen : get_or order 0 0 < 16
      first_sixteen = at_sixteen 0 a.some _ first

      -- the name there is one of the lists
      pub first_known : get_or names (get_or order 0 0) 0 < k_of index
      first_known = at_known 0 a.some _ first

      first_record : record_of index (get_or names (get_or order 0 0) 0) ≡ get_or (in_order rs) 0 []
      first_record = the_record 0 a.some _ first

      -- there is room for its slots
      pub room_there : (room n : ℕ) → room ≡ smallest rs → room ≤ n → count_of (record_of index (get_or names (get_or order 0 0) 0)) ≤ n
      unfolding smallest
      room_there room n e l = rw first_record (rw e at l)

      -- which are gathered
      pub gathered : (n : ℕ) (s : List ℕ) → Front (contents u B (record_of index (get_or names (get_or order 0 0) 0))) n s → Gathered index names n s
      gathered n s f = rw first_record at f

    -- the counts and the positions that were found
    module _ (counts order : List ℕ) (isC : take (length names) counts ≡ map count_of rs)
        (isO : take (length names) order ≡ question.order (take (length names) counts)) where
      -- they stand in order
      pub ranked : Ordered index names order
      ranked = isO ∙ ap question.order isC

      -- the count of the first of them is the room needed
      pub room_told : get_or counts (get_or order 0 0) 0 ≡ smallest rs
      unfolding smallest
      room_told =
          let l = first_below order ranked in
          sym (get_or-take (length names) counts (get_or order 0 0) 0 l)
          ∙ ap (λ (c : List ℕ). get_or c (get_or order 0 0) 0) isC
          ∙ count_at index names (get_or order 0 0) l
          ∙ ap count_of (first_record order ranked)

-- THE ANSWER: n slots at the front of s, which is cleared behind them
module _ (index names : List ℕ) (n : ℕ) (s : List ℕ) (f : Front (answer_slots index names) n s) (before after : List ℕ) (long : length s ≡ length before)
    (is : after ≡ take n s ++ replicate (length s - n) 0) where
  count_is : n ≡ length (answer_slots index names)
  count_is = sym (length-take-le n s f.few) ∙ ap length f.are

  slots_are : after ≡ answer_slots index names ++ replicate (length before - length (answer_slots index names)) 0
  slots_are = is ∙ rw (f.are, long, count_is)

  -- plainly: nothing is spent
  pub answered_plainly : Answers index 0 names before (record { number = 0; place = 0; count = n; looks = 0; codes = 0; looks16 = replicate 16 0; codes16 = replicate 16 0 }) after
  unfolding total places charged_at up_from
  answered_plainly =
      record {
        number = refl;
        place = refl;
        count = count_is;
        looks = rw plain_costs;
        codes = rw plain_costs;
        looks16 = rw plain_costs;
        codes16 = rw plain_costs;
        slots = slots_are;
      }

-- by skips: when all lists have been gone through
module _ (index names : List ℕ) (a : Asked index names) (s : List ℕ) (n r looks codes : ℕ) (looks16 codes16 : List ℕ)
    (h : Costing index names s n r looks codes looks16 codes16) (e : length names ≤ r) (before after : List ℕ) (long : length s ≡ length before)
    (is : after ≡ take n s ++ replicate (length s - n) 0) where
  front : Front (answer_slots index names) n s
  front = left_end index names a s n r h.left e

  -- what is left is the answer, with all its costs
  pub answered : Answers index 1 names before (record { number = 0; place = 0; count = n; looks = looks; codes = codes; looks16 = looks16; codes16 = codes16 }) after
  answered =
      record {
        number = refl;
        place = refl;
        count = count_is index names n s front before after long is;
        looks = cost_looks index names a s n r looks codes looks16 codes16 h e;
        codes = cost_codes index names a s n r looks codes looks16 codes16 h e;
        looks16 = placed_all index names a s n r looks codes looks16 codes16 h (λ c. c.looks) looks16 h.looks_placed e;
        codes16 = placed_all index names a s n r looks codes looks16 codes16 h (λ c. c.codes) codes16 h.codes_placed e;
        slots = slots_are index names n s front before after long is;
      }

-- what the code needs on its way: of the first position, of the positions behind it, and of the candidates
pub ruleset firsts = (first_below, first_sixteen, ranked, room_told, gathered)

pub ruleset others = (next_below, next_sixteen, next_known, left_candidates, left_alone, left_rise, left_few, alone_few, left_told)
