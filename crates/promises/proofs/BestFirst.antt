-- [Order 14] The best e is the first for which 2 to the power of e goes into m at most 2q times.
use Prim.Native.Nat.{ℕ, zero, suc, ◌+◌, ◌-◌, ◌*◌, ◌/◌, ◌^◌, ◌≤◌, ◌<◌}
use mathlib.Core.Path.{◌≡◌}
use native.Mathlib.Decide.{dec_le}
use native.Mathlib.Nat.{le_refl, le_trans, le_of_lt}
use native.Mathlib.Omega.{arith}
use Rattle.promises.proofs.BinaryDigits.{halves}
use Rattle.promises.proofs.Bills.{bill}
use Rattle.promises.proofs.BestBills.{bill_step}

module _ (q m : ℕ) where
  -- so from there on it does not fall
  ups : (k e : ℕ) → m / 2 ^ e ≤ 2 * q → bill e q m ≤ bill (e + k) q m
  ups zero e l = let z : e + 0 ≡ e = omega arith in rw z (le_refl _)
  ups (suc k) e l =
      let h = (halves e m).1 in
      let z : suc e + k ≡ e + suc k = omega arith in
      le_trans ((bill_step q m e).1 l) (rw z at (ups k (suc e) (omega arith)))

  -- and up to there it falls
  downs : (k e : ℕ) → ((f : ℕ) → f < e + k → 2 * q < m / 2 ^ f) → bill (e + k) q m ≤ bill e q m
  downs zero e l = let z : e + 0 ≡ e = omega arith in rw z (le_refl _)
  downs (suc k) e l =
      let z : suc e + k ≡ e + suc k = omega arith in
      le_trans (rw z at (downs k (suc e) (λ f h. l f (omega arith)))) (le_of_lt ((bill_step q m e).0 (l e (omega arith))))

  -- the first e from which on it does not fall is the best of all
  pub bill_first : (e : ℕ) → m / 2 ^ e ≤ 2 * q → ((f : ℕ) → f < e → 2 * q < m / 2 ^ f) → (f : ℕ) → bill e q m ≤ bill f q m
  bill_first e l n f =
      elim (dec_le e f) [
        | yes h ↦ let z : e + (f - e) ≡ f = omega arith in rw z at (ups (f - e) e l)
        | no h ↦ let z : f + (e - f) ≡ e = omega arith in rw z at (downs (e - f) f (λ g k. n g (omega arith)))
      ]
