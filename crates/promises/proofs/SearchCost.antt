-- What a search costs in looks, by the way that its finger goes.
use Prim.Native.Nat.{ℕ, zero, suc, ◌+◌, ◌-◌, ◌*◌, ◌/◌, ◌^◌, ◌≤◌, ◌<◌}
use mathlib.Core.Path.{◌≡◌, refl}
use native.Mathlib.Decide.{dec_le}
use native.Mathlib.Omega.{arith}
use Rattle.paper.specs.Search.{Sought, looks_of, mid, halved, galloped, searched}
use Rattle.laws.proofs.Searches.{halve_ind, gallop_ind, search_past, search_fail, search_good, search_from, search_below, halve_from, gallop_from}
use Rattle.promises.proofs.BinaryDigits.{digits, digits_over, digits_shift}

module _ (s : ℕ → ℕ) (x : ℕ) where
  -- halving a gap of at most 2 to the power of e costs at most e looks
  abbrev Halves : ℕ → ℕ → Sought → Type 0
  Halves lo hi r = (e : ℕ) → hi - lo ≤ 2 ^ e → looks_of r ≤ e

  -- one look, and a half that is not wider than the upper one
  half : (w v looks : ℕ) → 1 < w → 2 * v ≤ w + 1 → ((e : ℕ) → v ≤ 2 ^ e → looks ≤ e) → (e : ℕ) → w ≤ 2 ^ e → suc looks ≤ e
  half w v looks h l q zero g = absurd (omega arith)
  half w v looks h l q (suc e) g = let z = q e (omega arith) in omega arith

  halve_looks : (lo hi : ℕ) → Halves lo hi (halved s x lo hi)
  halve_looks =
      halve_ind s x {P = Halves}
      (record {
        one = λ lo hi h e g. omega arith;
        up = λ lo hi r h b q. half (hi - lo) (hi - mid lo hi) (looks_of r) h (omega arith) q;
        down = λ lo hi r h b q. half (hi - lo) (mid lo hi - lo) (looks_of r) h (omega arith) q;
      })

  module _ (m p : ℕ) where
    -- k + 1 looks were good, the last of them at 2 to the power of k: these and those to come
    abbrev Gallops : ℕ → ℕ → Sought → Type 0
    Gallops d lo r = (k : ℕ) → d ≡ 2 ^ suc k → lo ≡ p + 2 ^ k → looks_of r + suc k ≤ 2 * digits (r.j - p)

    -- where doubling ends, the last good position tells the digits
    ends : (lo hi k : ℕ) → lo ≡ p + 2 ^ k → hi - lo ≤ 2 ^ k → suc (looks_of (halved s x lo hi)) + suc k ≤ 2 * digits ((halved s x lo hi).j - p)
    ends lo hi k e g =
        let z = halve_looks lo hi k g in
        let f = halve_from s x lo hi in
        let o = digits_over k ((halved s x lo hi).j - p) (omega arith) in
        omega arith

    good_look : (looks k n : ℕ) → looks + suc (suc k) ≤ n → suc looks + suc k ≤ n
    good_look looks k n h = omega arith

    gallop_looks : (d lo : ℕ) → 1 ≤ d → Gallops d lo (galloped s x m p d lo)
    gallop_looks =
        gallop_ind s x m p {P = Gallops}
        (record {
          past = λ d lo h a k e l. let z = ends lo (m + 1) k l (omega arith) in omega arith;
          fail = λ d lo h a b k e l. ends lo (p + d) k l (omega arith);
          good = λ d lo r h a b q k e l. good_look (looks_of r) k _ (q (suc k) (omega arith) (omega arith));
        })

    -- [Order 14] the same against all that lies ahead of the finger, the last good position being within m: one look is left over
    abbrev Reaches : ℕ → ℕ → Sought → Type 0
    Reaches d lo r = (k : ℕ) → d ≡ 2 ^ suc k → lo ≡ p + 2 ^ k → lo ≤ m → looks_of r + suc (suc k) ≤ 2 * digits (m - p)

    pub gallop_reach : (d lo : ℕ) → 1 ≤ d → Reaches d lo (galloped s x m p d lo)
    gallop_reach =
        gallop_ind s x m p {P = Reaches}
        (record {
          past = λ d lo h a k e l t.
              let z = halve_looks lo (m + 1) k (omega arith) in
              let o = digits_over k (m - p) (omega arith) in
              omega arith;
          fail = λ d lo h a b k e l t.
              let z = halve_looks lo (p + d) k (omega arith) in
              let o = digits_over (suc k) (m - p) (omega arith) in
              omega arith;
          good = λ d lo r h a b q k e l t. good_look (looks_of r) (suc k) _ (q (suc k) (omega arith) (omega arith) (omega arith));
        })

-- what a search costs that brings the finger n positions on: two looks for each binary digit of n, and one where it stays
pub record Cost (n looks : ℕ) : Type 0 where
  pub moved : 0 < n → looks ≤ 2 * digits n
  pub stayed : n ≡ 0 → looks ≤ 1

-- [Order 14] a price for one search that is enough, whatever it finds: the look where the finger stays, and two looks for each of e digits. How many 2 to the
-- power of e the finger moves on is paid for beside it
pub record Enough (e w : ℕ) : Type 0 where
  pub one : 1 ≤ w
  pub twice : 2 * e ≤ w

-- such a price is the bill's, for one search
pub billed : (e : ℕ) → Enough e (1 + 2 * e)
billed e = record { one = omega arith; twice = omega arith }

-- so much costs a search no more
pub cost_priced : (e w : ℕ) → Enough e w → (n looks : ℕ) → Cost n looks → looks ≤ w + 2 * (n / 2 ^ e)
cost_priced e w h zero looks c = let s = c.stayed refl in let o = h.one in omega arith
cost_priced e w h (suc n) looks c = let l = c.moved (omega arith) in let f = digits_shift e (suc n) in let d = h.twice in omega arith

module _ (s : ℕ → ℕ) (x m p : ℕ) where
  -- so much does every search, whatever the entries are
  pub search_cost : Cost ((searched s x m p).j - p) (looks_of (searched s x m p))
  search_cost = go (dec_le (p + 1) m) (dec_le (s (p + 1)) x)
    where
      go : Dec (p + 1 ≤ m) → Dec (s (p + 1) ≤ x) → Cost ((searched s x m p).j - p) (looks_of (searched s x m p))
      go (no a) d = rw (search_past s x m p (omega arith)) (record { moved = λ h. omega arith; stayed = λ h. omega arith })
      go (yes a) (no b) =
          rw (search_fail s x m p a (omega arith)) (record { moved = λ h. absurd (omega arith); stayed = λ h. omega arith })
      go (yes a) (yes b) =
          let f = gallop_from s x m p 2 (p + 1) (omega arith) (omega arith) in
          let l = gallop_looks s x m p 2 (p + 1) (omega arith) 0 refl refl in
          rw (search_good s x m p a b) (record { moved = λ h. omega arith; stayed = λ h. absurd (omega arith) })

  -- what lies ahead of the finger before the search covers the way that it goes and what lies ahead then, also where it begins past m
  pub search_ahead : (searched s x m p).j - p + (m - (searched s x m p).j) ≤ m - p
  search_ahead = go (dec_le p m)
    where
      go : Dec (p ≤ m) → (searched s x m p).j - p + (m - (searched s x m p).j) ≤ m - p
      go (yes h) = let f = search_from s x m p in let b = search_below s x m p h in omega arith
      go (no h) = rw (search_past s x m p (omega arith)) (omega arith)
