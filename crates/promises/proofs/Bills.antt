-- [Order 14] The bill for looks: what q searches in a list of m blocks may cost, by any e that is chosen.
use Prim.Native.Nat.{ℕ, ◌+◌, ◌*◌, ◌/◌, ◌^◌, ◌≤◌}
use mathlib.Core.Path.{◌≡◌}
use native.Mathlib.Nat.{mul-le-mul_right, div-one, div-eq_of_lt, div-mul-le_self, le-div_iff_mul-le}
use native.Mathlib.Omega.{arith}
use lib.Pow.{pow_pos}
use Rattle.promises.proofs.BinaryDigits.{digits, digits_below}

-- one look for each search and two for each of e binary digits, and two looks for each time that 2 to the power of e goes into the blocks
abbrev pub bill : ℕ → ℕ → ℕ → ℕ
bill e q m = q + 2 * q * e + 2 * (m / 2 ^ e)

-- with an e that is chosen for each q and m
abbrev pub bill_by : (ℕ → ℕ → ℕ) → ℕ → ℕ → ℕ
bill_by e q m = bill (e q m) q m

-- the bound of demand 3
abbrev pub old_bill : ℕ → ℕ → ℕ
old_bill q m = q + 2 * m

-- which is the bill with e = 0
pub bill_old : (q m : ℕ) → bill 0 q m ≡ old_bill q m
bill_old q m = rw div-one (omega arith)

-- how often 2 to the power of e goes into two numbers: taken together they have it at least as often
pub floors_add : (e a b c : ℕ) → a + b ≤ c → a / 2 ^ e + b / 2 ^ e ≤ c / 2 ^ e
floors_add e a b c h = (le-div_iff_mul-le (pow_pos e)).1 (omega (arith, div-mul-le_self a (2 ^ e), div-mul-le_self b (2 ^ e)))

-- more searches and more blocks do not make it smaller
pub bill_grows : (e q n m k : ℕ) → q ≤ n → m ≤ k → bill e q m ≤ bill e n k
bill_grows e q n m k h l =
    let f = floors_add e m 0 k (omega arith) in
    let g : 2 * q * e ≤ 2 * n * e = mul-le-mul_right e (omega arith) in
    omega arith

-- without a search nothing is billed, where e is the digits of m
pub bill_none : (m : ℕ) → bill (digits m) 0 m ≡ 0
bill_none m = rw (div-eq_of_lt (digits_below m)) (omega arith)
