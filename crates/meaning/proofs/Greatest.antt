-- The doubling search is right: over entries that rise it ends at the greatest position whose entry is not above x. And over any entries it ends before one
-- that is above x, or at the last.
use Prim.Native.Nat.{ℕ, suc, ◌+◌, ◌≤◌, ◌<◌}
use mathlib.Core.Path.{◌≡◌}
use native.Mathlib.Decide.{ℕ_discrete}
use native.Mathlib.Omega.{arith}
use Rattle.paper.specs.Search.{halved, galloped, searched}
use Rattle.laws.proofs.Searches.{halve_ind, gallop_ind, search_from, search_below}

-- of the positions from p to m, j is the greatest whose entry is not above x
pub record Greatest (s : ℕ → ℕ) (x m p j : ℕ) : Type 0 where
  pub from : p ≤ j
  pub below : j ≤ m
  pub good : s j ≤ x
  pub after : (k : ℕ) → j < k → k ≤ m → x < s k

-- where the search starts well (G), j is good; in any case the position behind it fails or lies past m
record Ends (s : ℕ → ℕ) (x m : ℕ) (G : Type 0) (j : ℕ) : Type 0 where
  good : G → s j ≤ x
  next : j < m → x < s (suc j)

-- lo is good where the search started well, and hi, above it, fails or lies past m
record Between (s : ℕ → ℕ) (x m : ℕ) (G : Type 0) (lo hi : ℕ) : Type 0 where
  wide : lo < hi
  good : G → s lo ≤ x
  fails : hi ≤ m → x < s hi

module _ (s : ℕ → ℕ) (x m : ℕ) (G : Type 0) where
  -- halving ends at such a position
  halve_ends : (lo hi : ℕ) → Between s x m G lo hi → Ends s x m G (halved s x lo hi).j
  halve_ends =
      halve_ind s x {P = λ lo hi r. Between s x m G lo hi → Ends s x m G r.j}
      (record {
        one = λ lo hi h b. record { good = b.good; next = let w = b.wide in let e : suc lo ≡ hi = omega arith in λ l. rw e (b.fails (omega arith)) };
        up = λ lo hi r h g q b. q (record { wide = omega arith; good = λ t. g; fails = b.fails });
        down = λ lo hi r h g q b. q (record { wide = omega arith; good = b.good; fails = λ l. g });
      })

  -- and so does doubling
  gallop_ends : (p d lo : ℕ) → 1 ≤ d → lo < p + d → lo ≤ m → (G → s lo ≤ x) → Ends s x m G (galloped s x m p d lo).j
  gallop_ends p =
      gallop_ind s x m p {P = λ d lo r. lo < p + d → lo ≤ m → (G → s lo ≤ x) → Ends s x m G r.j}
      (record {
        past = λ d lo h a b c g. halve_ends lo (m + 1) (record { wide = omega arith; good = g; fails = λ l. absurd (omega arith) });
        fail = λ d lo h a f b c g. halve_ends lo (p + d) (record { wide = b; good = g; fails = λ l. f });
        good = λ d lo r h a f q b c g. q (omega arith) a (λ t. f);
      })

module _ (s : ℕ → ℕ) (x m p : ℕ) where
  search_ends : p ≤ m → Ends s x m (s p ≤ x) (searched s x m p).j
  unfolding searched
  search_ends l = gallop_ends s x m (s p ≤ x) p 1 p (omega arith) (omega arith) l (λ t. t)

  -- the entry behind the one where it ends is above x, whatever the entries and the finger are
  pub search_stops : (searched s x m p).j < m → x < s (suc (searched s x m p).j)
  search_stops l = let f = search_from s x m p in (search_ends (omega arith)).next l

  -- THE SEARCH IS RIGHT
  pub search_right : p ≤ m → s p ≤ x → ((i k : ℕ) → i < k → k ≤ m → s i < s k) → Greatest s x m p (searched s x m p).j
  search_right l start rise =
      let j = (searched s x m p).j in
      let e = search_ends l in
      record {
        from = search_from s x m p;
        below = search_below s x m p l;
        good = e.good start;
        after =
            λ k a b.
            let n = search_stops (omega arith) in
            elim (ℕ_discrete (suc j) k) [
              | yes z ↦ rw z at n
              | no f ↦ let o = rise (suc j) k (omega arith) b in omega arith
            ];
      }
