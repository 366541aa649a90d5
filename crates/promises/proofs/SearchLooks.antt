-- The positions that a search looks at: it goes by no other entry, they lie behind the finger and not past m, and none is looked at twice.
use Prim.Native.Nat.{ℕ, ◌+◌, ◌≤◌, ◌<◌}
use mathlib.Core.Path.{◌≡◌, refl, ap, ◌∙◌}
use mathlib.Core.List.{List, [], ◌∷◌}
use native.Mathlib.Omega.{arith}
use Rattle.paper.specs.Search.{saw, mid, halved, galloped, searched}
use Rattle.laws.proofs.Lists.{In}
use Rattle.laws.proofs.Lists.In.{here, there}
use Rattle.laws.proofs.Searches.{halve_ind, halve_one, halve_up, halve_down, gallop_ind, gallop_past, gallop_fail, gallop_good}

-- entries s and t are the same at each of these positions
abbrev pub Agree : (ℕ → ℕ) → (ℕ → ℕ) → List ℕ → Type 0
Agree s t is = (i : ℕ) → In i is → s i ≡ t i

-- no number stands twice in the list
abbrev pub Once : List ℕ → Type 0
Once [] = Unit {0}
Once (i ∷ is) = (¬ (In i is)) × Once is

-- THE SAME SEARCH, where the entries looked at are the same
module _ (s t : ℕ → ℕ) (x : ℕ) where
  halve_same : (lo hi : ℕ) → Agree s t (halved s x lo hi).seen → halved t x lo hi ≡ halved s x lo hi
  halve_same =
      halve_ind s x {P = λ lo hi r. Agree s t r.seen → halved t x lo hi ≡ r}
      (record {
        one = λ lo hi h a. halve_one t x lo hi h;
        up = λ lo hi r h b q a. halve_up t x lo hi h (rw (a (mid lo hi) (here refl)) at b) ∙ ap (saw (mid lo hi)) (q (λ i k. a i (there k)));
        down = λ lo hi r h b q a. halve_down t x lo hi h (rw (a (mid lo hi) (here refl)) at b) ∙ ap (saw (mid lo hi)) (q (λ i k. a i (there k)));
      })

  module _ (m p : ℕ) where
    gallop_same : (d lo : ℕ) → 1 ≤ d → Agree s t (galloped s x m p d lo).seen → galloped t x m p d lo ≡ galloped s x m p d lo
    gallop_same =
        gallop_ind s x m p {P = λ d lo r. Agree s t r.seen → galloped t x m p d lo ≡ r}
        (record {
          past = λ d lo h g a. gallop_past t x m p d lo h g ∙ halve_same lo (m + 1) a;
          fail = λ d lo h g b a.
              gallop_fail t x m p d lo h g (rw (a (p + d) (here refl)) at b) ∙ ap (saw (p + d)) (halve_same lo (p + d) (λ i k. a i (there k)));
          good = λ d lo r h g b q a. gallop_good t x m p d lo h g (rw (a (p + d) (here refl)) at b) ∙ ap (saw (p + d)) (q (λ i k. a i (there k)));
        })

    -- j and the positions are those of s
    pub search_same : Agree s t (searched s x m p).seen → searched t x m p ≡ searched s x m p
    unfolding searched
    search_same = gallop_same 1 p (omega arith)

-- Positions that lie between lo and hi, each once
record Spread (lo hi : ℕ) (is : List ℕ) : Type 0 where
  inside : (i : ℕ) → In i is → (lo < i) × (i < hi)
  once : Once is

spread_none : (lo hi : ℕ) → Spread lo hi []
spread_none lo hi = record { inside = λ i k. elim k [ ]; once = tt }

-- a wider range
spread_wider : (a b lo hi : ℕ) (is : List ℕ) → a ≤ lo → hi ≤ b → Spread lo hi is → Spread a b is
spread_wider a b lo hi is l h t = record { inside = λ i k. let e = t.inside i k in (omega arith, omega arith); once = t.once }

-- a position outside goes before them
spread_more : (lo hi i : ℕ) (is : List ℕ) → lo < i → i < hi → ¬ (In i is) → Spread lo hi is → Spread lo hi (i ∷ is)
spread_more lo hi i is l h new t = record { inside = go; once = (new, t.once) }
  where
    go : (k : ℕ) → In k (i ∷ is) → (lo < k) × (k < hi)
    go k (here e) = rw e (l, h)
    go k (there n) = t.inside k n

-- one below them, one above them
spread_above : (lo mid hi : ℕ) (is : List ℕ) → lo < mid → mid < hi → Spread mid hi is → Spread lo hi (mid ∷ is)
spread_above lo mid hi is l h t =
    spread_more lo hi mid is l h (λ k. let e = t.inside mid k in absurd (omega arith)) (spread_wider lo hi mid hi is (omega arith) (omega arith) t)

spread_below : (lo mid hi : ℕ) (is : List ℕ) → lo < mid → mid < hi → Spread lo mid is → Spread lo hi (mid ∷ is)
spread_below lo mid hi is l h t =
    spread_more lo hi mid is l h (λ k. let e = t.inside mid k in absurd (omega arith)) (spread_wider lo hi lo mid is (omega arith) (omega arith) t)

-- WHERE IT LOOKS
module _ (s : ℕ → ℕ) (x : ℕ) where
  halve_spread : (lo hi : ℕ) → Spread lo hi (halved s x lo hi).seen
  halve_spread =
      halve_ind s x {P = λ lo hi r. Spread lo hi r.seen}
      (record {
        one = λ lo hi h. spread_none lo hi;
        up = λ lo hi r h b q. spread_above lo (mid lo hi) hi r.seen (omega arith) (omega arith) q;
        down = λ lo hi r h b q. spread_below lo (mid lo hi) hi r.seen (omega arith) (omega arith) q;
      })

  module _ (m p : ℕ) where
    gallop_spread : (d lo : ℕ) → 1 ≤ d → lo < p + d → Spread lo (m + 1) (galloped s x m p d lo).seen
    gallop_spread =
        gallop_ind s x m p {P = λ d lo r. lo < p + d → Spread lo (m + 1) r.seen}
        (record {
          past = λ d lo h a l. halve_spread lo (m + 1);
          fail = λ d lo h a b l. spread_below lo (p + d) (m + 1) (halved s x lo (p + d)).seen l (omega arith) (halve_spread lo (p + d));
          good = λ d lo r h a b q l. spread_above lo (p + d) (m + 1) r.seen l (omega arith) (q (omega arith));
        })

    search_spread : Spread p (m + 1) (searched s x m p).seen
    unfolding searched
    search_spread = gallop_spread 1 p (omega arith) (omega arith)

    -- behind the finger, and not past m
    pub search_inside : (i : ℕ) → In i (searched s x m p).seen → (p < i) × (i ≤ m)
    search_inside i k = let e = search_spread.inside i k in (e.0, omega arith)

    -- none of them twice
    pub search_once : Once (searched s x m p).seen
    search_once = search_spread.once
