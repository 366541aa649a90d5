-- [Order 14] What a search costs at most, by a price that is enough: against the way that its finger goes, and against all that lies ahead.
use Prim.Native.Nat.{ℕ, ◌+◌, ◌-◌, ◌*◌, ◌/◌, ◌^◌, ◌≤◌, ◌<◌}
use mathlib.Core.Path.{◌≡◌, refl}
use native.Mathlib.Decide.{dec_le}
use native.Mathlib.Omega.{arith}
use Rattle.paper.specs.Search.{looks_of, searched}
use Rattle.laws.proofs.Searches.{search_past, search_fail, search_good}
use Rattle.promises.proofs.BinaryDigits.{digits, digits_over, digits_shift}
use Rattle.promises.proofs.SearchCost.{Enough, cost_priced, search_cost, gallop_reach}

module _ (s : ℕ → ℕ) (x m p : ℕ) where
  -- [Order 14] and so at most its price, and two for each 2 to the power of e positions that the finger moves on
  pub search_priced : (e w : ℕ) → Enough e w → looks_of (searched s x m p) ≤ w + 2 * (((searched s x m p).j - p) / 2 ^ e)
  search_priced e w h = cost_priced e w h _ _ (search_cost s x m p)

  -- [Order 14] a search looks at nothing where nothing lies ahead, and else costs less than two looks for each binary digit of what lies ahead
  pub search_none : m ≤ p → looks_of (searched s x m p) ≡ 0
  search_none h = rw (search_past s x m p (omega arith))

  pub search_reach : p < m → looks_of (searched s x m p) < 2 * digits (m - p)
  search_reach h = go (dec_le (s (p + 1)) x)
    where
      go : Dec (s (p + 1) ≤ x) → looks_of (searched s x m p) < 2 * digits (m - p)
      go (no b) = let o = digits_over 0 (m - p) (omega arith) in rw (search_fail s x m p (omega arith) (omega arith)) (omega arith)
      go (yes b) =
          let r = gallop_reach s x m p 2 (p + 1) (omega arith) 0 refl refl (omega arith) in rw (search_good s x m p (omega arith) b) (omega arith)

  -- so any price that is enough leaves one look over, where all that lies ahead is paid for
  pub search_under : (e w : ℕ) → Enough e w → looks_of (searched s x m p) < w + 2 * ((m - p) / 2 ^ e)
  search_under e w h = go (dec_le m p)
    where
      go : Dec (m ≤ p) → looks_of (searched s x m p) < w + 2 * ((m - p) / 2 ^ e)
      go (yes l) = let z = search_none l in let o = h.one in omega arith
      go (no l) = let r = search_reach (omega arith) in let f = digits_shift e (m - p) in let d = h.twice in omega arith
