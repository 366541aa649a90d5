-- The doubling search, step by step and with no bound on the steps in sight. Each stage has one induction, by which every law about it goes.
use Prim.Native.Nat.{ℕ, zero, suc, ◌+◌, ◌-◌, ◌*◌, ◌≤◌, ◌<◌}
use mathlib.Core.Path.{◌≡◌, refl, sym, ap, ◌∙◌}
use mathlib.Core.List.{List}
use native.Mathlib.Nat.{le_refl}
use native.Mathlib.Omega.{arith}
use native.Mathlib.Decide.{dec_le}
use borrow.Author.Tests.{lt-ltb, le-ltb, le-leb, lt-leb}
use Rattle.paper.specs.Tail.{first_slot}
use Rattle.paper.specs.Held.{entry_of}
use Rattle.paper.specs.Search.{Sought, at, saw, looks_of, mid, halved_f, halved, galloped_f, galloped, searched}

-- an entry behind s(0) is the first slot of its block
pub entry_at : (c : ℕ) (es : List ℕ) (j : ℕ) → 1 ≤ j → entry_of c es j ≡ first_slot es (j - 1)
unfolding entry_of
entry_at c es zero h = absurd (omega arith)
entry_at c es (suc b) h = let e : b ≡ suc b - 1 = omega arith in ap (first_slot es) e

module _ (s : ℕ → ℕ) (x : ℕ) where
  -- Halving with f steps to spare: neighbours, and the middle on either side
  halve_f_one : (f lo hi : ℕ) → hi - lo ≤ 1 → halved_f s x f lo hi ≡ at lo
  unfolding halved_f
  halve_f_one zero lo hi h = refl
  halve_f_one (suc f) lo hi h = simp (le-ltb 1 (hi - lo) h)

  halve_f_up : (f lo hi : ℕ) → 1 < hi - lo → s (mid lo hi) ≤ x → halved_f s x (suc f) lo hi ≡ saw (mid lo hi) (halved_f s x f (mid lo hi) hi)
  unfolding halved_f
  halve_f_up f lo hi h g = simp (lt-ltb 1 (hi - lo) h, le-leb (s (mid lo hi)) x g)

  halve_f_down : (f lo hi : ℕ) → 1 < hi - lo → x < s (mid lo hi) → halved_f s x (suc f) lo hi ≡ saw (mid lo hi) (halved_f s x f lo (mid lo hi))
  unfolding halved_f
  halve_f_down f lo hi h g = simp (lt-ltb 1 (hi - lo) h, lt-leb (s (mid lo hi)) x g)

  -- what holds of neighbours and is kept by a look at the middle holds of every halving
  pub record Halving (P : ℕ → ℕ → Sought → Type 0) : Type 0 where
    pub one : (lo hi : ℕ) → hi - lo ≤ 1 → P lo hi (at lo)
    pub up : (lo hi : ℕ) (r : Sought) → 1 < hi - lo → s (mid lo hi) ≤ x → P (mid lo hi) hi r → P lo hi (saw (mid lo hi) r)
    pub down : (lo hi : ℕ) (r : Sought) → 1 < hi - lo → x < s (mid lo hi) → P lo (mid lo hi) r → P lo hi (saw (mid lo hi) r)

  halve_f_ind : {P : ℕ → ℕ → Sought → Type 0} → Halving P → (f lo hi : ℕ) → hi - lo ≤ suc f → P lo hi (halved_f s x f lo hi)
  halve_f_ind H zero lo hi h = rw halve_f_one (H.one lo hi h)
  halve_f_ind H (suc f) lo hi h =
      elim (dec_le (hi - lo) 1) [
        | yes a ↦ rw (halve_f_one (suc f) lo hi a) (H.one lo hi a)
        | no a ↦
            elim (dec_le (s (mid lo hi)) x) [
              | yes b ↦ rw (halve_f_up f lo hi (omega arith) b) (H.up lo hi _ (omega arith) b (halve_f_ind H f (mid lo hi) hi (omega arith)))
              | no b ↦ rw (halve_f_down f lo hi (omega arith) (omega arith)) (H.down lo hi _ (omega arith) (omega arith) (halve_f_ind H f lo (mid lo hi) (omega arith)))
            ]
      ]

  -- so it holds of halving with no number of steps in sight
  pub halve_ind : {P : ℕ → ℕ → Sought → Type 0} → Halving P → (lo hi : ℕ) → P lo hi (halved s x lo hi)
  unfolding halved
  halve_ind H lo hi = halve_f_ind H (hi - lo) lo hi (omega arith)

  -- any number of steps that is enough gives the same
  Same : ℕ → ℕ → Sought → Type 0
  Same lo hi r = (g : ℕ) → hi - lo ≤ suc g → halved_f s x g lo hi ≡ r

  same_up : (lo hi : ℕ) (r : Sought) → 1 < hi - lo → s (mid lo hi) ≤ x → Same (mid lo hi) hi r → Same lo hi (saw (mid lo hi) r)
  unfolding Same
  same_up lo hi r h b q zero e = absurd (omega arith)
  same_up lo hi r h b q (suc g) e = halve_f_up g lo hi h b ∙ ap (saw (mid lo hi)) (q g (omega arith))

  same_down : (lo hi : ℕ) (r : Sought) → 1 < hi - lo → x < s (mid lo hi) → Same lo (mid lo hi) r → Same lo hi (saw (mid lo hi) r)
  unfolding Same
  same_down lo hi r h b q zero e = absurd (omega arith)
  same_down lo hi r h b q (suc g) e = halve_f_down g lo hi h b ∙ ap (saw (mid lo hi)) (q g (omega arith))

  halve_enough : (lo hi g : ℕ) → hi - lo ≤ suc g → halved_f s x g lo hi ≡ halved s x lo hi
  unfolding Same
  halve_enough lo hi = halve_ind {P = Same} (record { one = λ lo hi h g e. halve_f_one g lo hi h; up = same_up; down = same_down }) lo hi

  -- the steps of halving
  module _ (lo hi : ℕ) where
    -- neighbours: lo is the answer
    pub halve_one : hi - lo ≤ 1 → halved s x lo hi ≡ at lo
    unfolding halved
    halve_one h = halve_f_one (hi - lo) lo hi h

    -- the entry in the middle is not above x
    pub halve_up : 1 < hi - lo → s (mid lo hi) ≤ x → halved s x lo hi ≡ saw (mid lo hi) (halved s x (mid lo hi) hi)
    halve_up h b =
        sym (halve_enough lo hi (suc (hi - lo)) (omega arith)) ∙ halve_f_up (hi - lo) lo hi h b
        ∙ ap (saw (mid lo hi)) (halve_enough (mid lo hi) hi (hi - lo) (omega arith))

    -- it is above x
    pub halve_down : 1 < hi - lo → x < s (mid lo hi) → halved s x lo hi ≡ saw (mid lo hi) (halved s x lo (mid lo hi))
    halve_down h b =
        sym (halve_enough lo hi (suc (hi - lo)) (omega arith)) ∙ halve_f_down (hi - lo) lo hi h b
        ∙ ap (saw (mid lo hi)) (halve_enough lo (mid lo hi) (hi - lo) (omega arith))

  -- Doubling from the finger p, with f steps to spare: past m, an entry above x, a good entry
  module _ (m p : ℕ) where
    gallop_f_past : (f d lo : ℕ) → m < p + d → galloped_f s x f m p d lo ≡ halved s x lo (m + 1)
    unfolding galloped_f
    gallop_f_past zero d lo h = refl
    gallop_f_past (suc f) d lo h = simp (lt-leb (p + d) m h)

    gallop_f_fail : (f d lo : ℕ) → p + d ≤ m → x < s (p + d) → galloped_f s x (suc f) m p d lo ≡ saw (p + d) (halved s x lo (p + d))
    unfolding galloped_f
    gallop_f_fail f d lo h g = simp (le-leb (p + d) m h, lt-leb (s (p + d)) x g)

    gallop_f_good : (f d lo : ℕ) → p + d ≤ m → s (p + d) ≤ x → galloped_f s x (suc f) m p d lo ≡ saw (p + d) (galloped_f s x f m p (2 * d) (p + d))
    unfolding galloped_f
    gallop_f_good f d lo h g = simp (le-leb (p + d) m h, le-leb (s (p + d)) x g)

    -- what holds of both ends and is kept by a good look holds of every doubling
    pub record Galloping (P : ℕ → ℕ → Sought → Type 0) : Type 0 where
      pub past : (d lo : ℕ) → 1 ≤ d → m < p + d → P d lo (halved s x lo (m + 1))
      pub fail : (d lo : ℕ) → 1 ≤ d → p + d ≤ m → x < s (p + d) → P d lo (saw (p + d) (halved s x lo (p + d)))
      pub good : (d lo : ℕ) (r : Sought) → 1 ≤ d → p + d ≤ m → s (p + d) ≤ x → P (2 * d) (p + d) r → P d lo (saw (p + d) r)

    gallop_f_ind : {P : ℕ → ℕ → Sought → Type 0} → Galloping P → (f d lo : ℕ) → 1 ≤ d → m < p + d + f → P d lo (galloped_f s x f m p d lo)
    gallop_f_ind G zero d lo h e = rw (gallop_f_past zero d lo (omega arith)) (G.past d lo h (omega arith))
    gallop_f_ind G (suc f) d lo h e =
        elim (dec_le (p + d) m) [
          | no a ↦ rw (gallop_f_past (suc f) d lo (omega arith)) (G.past d lo h (omega arith))
          | yes a ↦
              elim (dec_le (s (p + d)) x) [
                | yes b ↦ rw (gallop_f_good f d lo a b) (G.good d lo _ h a b (gallop_f_ind G f (2 * d) (p + d) (omega arith) (omega arith)))
                | no b ↦ rw (gallop_f_fail f d lo a (omega arith)) (G.fail d lo h a (omega arith))
              ]
        ]

    -- so it holds of doubling with no number of steps in sight
    pub gallop_ind : {P : ℕ → ℕ → Sought → Type 0} → Galloping P → (d lo : ℕ) → 1 ≤ d → P d lo (galloped s x m p d lo)
    unfolding galloped
    gallop_ind G d lo h = gallop_f_ind G m d lo h (omega arith)

    SameG : ℕ → ℕ → Sought → Type 0
    SameG d lo r = (g : ℕ) → m < p + d + g → galloped_f s x g m p d lo ≡ r

    same_fail : (d lo : ℕ) → 1 ≤ d → p + d ≤ m → x < s (p + d) → SameG d lo (saw (p + d) (halved s x lo (p + d)))
    unfolding SameG
    same_fail d lo h a b zero e = absurd (omega arith)
    same_fail d lo h a b (suc g) e = gallop_f_fail g d lo a b

    same_good : (d lo : ℕ) (r : Sought) → 1 ≤ d → p + d ≤ m → s (p + d) ≤ x → SameG (2 * d) (p + d) r → SameG d lo (saw (p + d) r)
    unfolding SameG
    same_good d lo r h a b q zero e = absurd (omega arith)
    same_good d lo r h a b q (suc g) e = gallop_f_good g d lo a b ∙ ap (saw (p + d)) (q g (omega arith))

    gallop_enough : (d lo : ℕ) → 1 ≤ d → (g : ℕ) → m < p + d + g → galloped_f s x g m p d lo ≡ galloped s x m p d lo
    unfolding SameG
    gallop_enough d lo h = gallop_ind {P = SameG} (record { past = λ d lo h a g e. gallop_f_past g d lo a; fail = same_fail; good = same_good }) d lo h

    -- the steps of doubling
    module _ (d lo : ℕ) (h : 1 ≤ d) where
      -- past m: the rest is halved
      pub gallop_past : m < p + d → galloped s x m p d lo ≡ halved s x lo (m + 1)
      unfolding galloped
      gallop_past a = gallop_f_past m d lo a

      -- an entry above x: what lies before it is halved
      pub gallop_fail : p + d ≤ m → x < s (p + d) → galloped s x m p d lo ≡ saw (p + d) (halved s x lo (p + d))
      gallop_fail a b = sym (gallop_enough d lo h (suc m) (omega arith)) ∙ gallop_f_fail m d lo a b

      -- a good entry: twice as far
      pub gallop_good : p + d ≤ m → s (p + d) ≤ x → galloped s x m p d lo ≡ saw (p + d) (galloped s x m p (2 * d) (p + d))
      gallop_good a b =
          sym (gallop_enough d lo h (suc m) (omega arith)) ∙ gallop_f_good m d lo a b ∙ ap (saw (p + d)) (gallop_enough (2 * d) (p + d) (omega arith) m (omega arith))

-- The paper's first case: where the first position lies past m, or fails, j is the finger
module _ (s : ℕ → ℕ) (x m p : ℕ) where
  -- past m
  pub search_past : m < p + 1 → searched s x m p ≡ at p
  unfolding searched
  search_past a = gallop_past s x m p 1 p (omega arith) a ∙ halve_one s x p (m + 1) (omega arith)

  -- above x
  pub search_fail : p + 1 ≤ m → x < s (p + 1) → searched s x m p ≡ saw (p + 1) (at p)
  unfolding searched
  search_fail a b = gallop_fail s x m p 1 p (omega arith) a b ∙ ap (saw (p + 1)) (halve_one s x p (p + 1) (omega arith))

  -- or it is good, and the doubling goes on
  pub search_good : p + 1 ≤ m → s (p + 1) ≤ x → searched s x m p ≡ saw (p + 1) (galloped s x m p 2 (p + 1))
  unfolding searched
  search_good a b = gallop_good s x m p 1 p (omega arith) a b

-- HOW FAR AND HOW LONG, whatever the entries are: j lies from the finger on and not past m, and halving makes few looks
module _ (s : ℕ → ℕ) (x : ℕ) where
  -- halving makes at most hi − lo looks
  pub halve_few : (lo hi : ℕ) → looks_of (halved s x lo hi) ≤ hi - lo
  halve_few =
      halve_ind s x {P = λ lo hi r. looks_of r ≤ hi - lo}
      (record { one = λ lo hi h. omega arith; up = λ lo hi r h b q. omega arith; down = λ lo hi r h b q. omega arith })

  -- it ends at lo or above it
  pub halve_from : (lo hi : ℕ) → lo ≤ (halved s x lo hi).j
  halve_from =
      halve_ind s x {P = λ lo hi r. lo ≤ r.j}
      (record { one = λ lo hi h. le_refl lo; up = λ lo hi r h b q. omega arith; down = λ lo hi r h b q. q })

  -- and below hi
  halve_below : (lo hi : ℕ) → lo < hi → (halved s x lo hi).j < hi
  halve_below =
      halve_ind s x {P = λ lo hi r. lo < hi → r.j < hi}
      (record { one = λ lo hi h l. l; up = λ lo hi r h b q l. q (omega arith); down = λ lo hi r h b q l. let z = q (omega arith) in omega arith })

  module _ (m p : ℕ) where
    -- doubling ends at lo or above it
    pub gallop_from : (d lo : ℕ) → 1 ≤ d → lo ≤ p + d → lo ≤ (galloped s x m p d lo).j
    gallop_from =
        gallop_ind s x m p {P = λ d lo r. lo ≤ p + d → lo ≤ r.j}
        (record {
          past = λ d lo h a l. halve_from lo (m + 1);
          fail = λ d lo h a b l. halve_from lo (p + d);
          good = λ d lo r h a b q l. let z = q (omega arith) in omega arith;
        })

    -- j is not below the finger
    pub search_from : p ≤ (searched s x m p).j
    unfolding searched
    search_from = gallop_from 1 p (omega arith) (omega arith)

    gallop_below : (d lo : ℕ) → 1 ≤ d → lo < p + d → lo ≤ m → (galloped s x m p d lo).j ≤ m
    gallop_below =
        gallop_ind s x m p {P = λ d lo r. lo < p + d → lo ≤ m → r.j ≤ m}
        (record {
          past = λ d lo h a l e. let z = halve_below lo (m + 1) (omega arith) in omega arith;
          fail = λ d lo h a b l e. let z = halve_below lo (p + d) l in omega arith;
          good = λ d lo r h a b q l e. q (omega arith) a;
        })

    -- and not past m
    pub search_below : p ≤ m → (searched s x m p).j ≤ m
    unfolding searched
    search_below h = gallop_below 1 p (omega arith) (omega arith) h

-- WHAT IT GOES BY: the search looks at no position below 1, so entries that agree from 1 on are searched alike
module _ (s t : ℕ → ℕ) (x : ℕ) (same : (i : ℕ) → 1 ≤ i → s i ≡ t i) where
  halve_alike : (lo hi : ℕ) → halved s x lo hi ≡ halved t x lo hi
  halve_alike =
      halve_ind s x {P = λ lo hi r. r ≡ halved t x lo hi}
      (record {
        one = λ lo hi h. sym (halve_one t x lo hi h);
        up = λ lo hi r h b q. ap (saw (mid lo hi)) q ∙ sym (halve_up t x lo hi h (rw (same (mid lo hi) (omega arith)) at b));
        down = λ lo hi r h b q. ap (saw (mid lo hi)) q ∙ sym (halve_down t x lo hi h (rw (same (mid lo hi) (omega arith)) at b));
      })

  module _ (m p : ℕ) where
    gallop_alike : (d lo : ℕ) → 1 ≤ d → galloped s x m p d lo ≡ galloped t x m p d lo
    gallop_alike =
        gallop_ind s x m p {P = λ d lo r. r ≡ galloped t x m p d lo}
        (record {
          past = λ d lo h a. halve_alike lo (m + 1) ∙ sym (gallop_past t x m p d lo h a);
          fail = λ d lo h a b. ap (saw (p + d)) (halve_alike lo (p + d)) ∙ sym (gallop_fail t x m p d lo h a (rw (same (p + d) (omega arith)) at b));
          good = λ d lo r h a b q. ap (saw (p + d)) q ∙ sym (gallop_good t x m p d lo h a (rw (same (p + d) (omega arith)) at b));
        })

    -- and so are whole searches
    pub search_alike : searched s x m p ≡ searched t x m p
    unfolding searched
    search_alike = gallop_alike 1 p (omega arith)
