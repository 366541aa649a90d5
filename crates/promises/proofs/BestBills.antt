-- [Order 14] Which e makes the bill for looks least.
use Prim.Native.Nat.{ℕ, suc, ◌*◌, ◌/◌, ◌^◌, ◌≤◌, ◌<◌, min}
use native.Mathlib.Decide.{dec_le}
use native.Mathlib.Nat.{le_refl, mul-le-mul_left, min-eq_left, min-eq_right, div-eq_of_lt}
use native.Mathlib.Omega.{arith}
use Rattle.promises.proofs.BinaryDigits.{digits, digits_below, halves}
use Rattle.promises.proofs.Bills.{bill}

-- One e more makes the bill smaller exactly where 2 to the power of e goes into m more than 2q times
module _ (q m : ℕ) where
  pub bill_step : (e : ℕ) → (2 * q < m / 2 ^ e → bill (suc e) q m < bill e q m) × (m / 2 ^ e ≤ 2 * q → bill e q m ≤ bill (suc e) q m)
  bill_step e = let h = (halves e m).1 in (λ l. omega arith, λ l. omega arith)

-- an e above the digits of m only adds to it, for there 2 to the power of e does not go into m
pub bill_capped : (e q m : ℕ) → bill (min e (digits m)) q m ≤ bill e q m
bill_capped e q m =
    elim (dec_le e (digits m)) [
      | yes h ↦ rw (min-eq_left h) (le_refl _)
      | no h ↦
          let l : digits m ≤ e = omega arith in
          let z = div-eq_of_lt (digits_below m) in
          let g : 2 * q * digits m ≤ 2 * q * e = mul-le-mul_left (2 * q) l in
          rw (min-eq_right l, z) (omega arith)
    ]
