-- How many binary digits a number has, and that powers of two tell it.
use Prim.Native.Nat.{ℕ, zero, suc, ◌+◌, ◌-◌, ◌*◌, ◌/◌, ◌^◌, ◌≤◌, ◌<◌}
use mathlib.Core.Path.{◌≡◌, refl, sym, ap, ◌∙◌}
use native.Mathlib.Decide.{dec_le}
use native.Mathlib.Nat.{le_refl, pow-le-pow_right, div-one, div-div-eq-div-mul}
use native.Mathlib.Numerals.{sub-one}
use native.Mathlib.Omega.{arith}
use lib.Dec.{ltb}
use borrow.Author.Tests.{lt-ltb, le-ltb}
use Rattle.paper.specs.Lists.{pick}

-- halvings of n, rounded down, until nothing is left of it; at most f of them
unfoldable pub digits_f : ℕ → ℕ → ℕ
digits_f zero n = 0
digits_f (suc f) n = let on = suc (digits_f f (n / 2)) in pick (ltb 0 n) on 0

-- the binary digits of n, each halving taking one off: 0 has none, 1 has one, 2 and 3 have two. n halvings are always enough
unfoldable pub digits : ℕ → ℕ
digits n = digits_f n n

digits_f_none : (f n : ℕ) → n ≤ 0 → digits_f f n ≡ 0
unfolding digits_f
digits_f_none zero n h = refl
digits_f_none (suc f) n h = simp (le-ltb 0 n h)

digits_f_some : (f n : ℕ) → 0 < n → digits_f (suc f) n ≡ suc (digits_f f (n / 2))
unfolding digits_f
digits_f_some f n h = simp (lt-ltb 0 n h)

-- what is proved of all digits: n is below the power of two that has so many zeros, and not below the one before it
record Told (n k : ℕ) : Type 0 where
  below : n < 2 ^ k
  from : 0 < n → 2 ^ k ≤ 2 * n
  few : k ≤ n

told_none : (n : ℕ) → n ≤ 0 → Told n 0
told_none n h = record { below = omega arith; from = λ l. absurd (omega arith); few = omega arith }

told_more : (n k : ℕ) → 0 < n → Told (n / 2) k → Told n (suc k)
told_more n k h t = record { below = omega arith; from = λ l. go (dec_le n 1); few = omega arith }
  where
    go : Dec (n ≤ 1) → 2 ^ suc k ≤ 2 * n
    go (yes l) = let z : k ≡ 0 = omega arith in rw z (omega arith)
    go (no g) = let f = t.from (omega arith) in omega arith

digits_f_told : (f n : ℕ) → n ≤ f → Told n (digits_f f n)
digits_f_told zero n h = rw (digits_f_none zero n h) (told_none n h)
digits_f_told (suc f) n h =
    elim (dec_le n 0) [
      | yes z ↦ rw (digits_f_none (suc f) n z) (told_none n z)
      | no g ↦ rw (digits_f_some f n (omega arith)) (told_more n (digits_f f (n / 2)) (omega arith) (digits_f_told f (n / 2) (omega arith)))
    ]

digits_told : (n : ℕ) → Told n (digits n)
unfolding digits
digits_told n = digits_f_told n n (le_refl n)

-- 0 has none
pub digits_none : digits 0 ≡ 0
unfolding digits digits_f
digits_none = refl

-- n is below 2 to the power of its digits
pub digits_below : (n : ℕ) → n < 2 ^ digits n
digits_below n = (digits_told n).below

-- and not below the power before
pub digits_from : (n : ℕ) → 0 < n → 2 ^ (digits n - 1) ≤ n
digits_from n h = let t = digits_told n in go (digits n) t
  where
    go : (k : ℕ) → Told n k → 2 ^ (k - 1) ≤ n
    go zero t = let b = t.below in absurd (omega arith)
    go (suc k) t = let f = t.from h in rw sub-one (omega arith)

-- so the power tells the digits: from 2 to the power of k on there are more than k
pub digits_over : (k n : ℕ) → 2 ^ k ≤ n → k < digits n
digits_over k n h = go (dec_le (digits n) k)
  where
    go : Dec (digits n ≤ k) → k < digits n
    go (yes l) = let p : 2 ^ digits n ≤ 2 ^ k = pow-le-pow_right (omega arith) l in let b = digits_below n in absurd (omega arith)
    go (no g) = omega arith

-- [Order 14] the next power of 2 goes into n as often as this one into the half of n, and half as often as this one into n
pub halves : (e n : ℕ) → (n / 2 ^ suc e ≡ n / 2 / 2 ^ e) × (n / 2 ^ suc e ≡ n / 2 ^ e / 2)
halves e n = (go 2 (2 ^ e) (omega arith), go (2 ^ e) 2 (omega arith))
  where
    go : (a b : ℕ) → a * b ≡ 2 ^ suc e → n / 2 ^ suc e ≡ n / a / b
    go a b z = sym (div-div-eq-div-mul n a b ∙ ap (λ (k : ℕ). n / k) z)

digits_f_shift : (e f n : ℕ) → n ≤ f → digits_f f n ≤ e + n / 2 ^ e
digits_f_shift zero f n h = let t = digits_f_told f n h in rw div-one (omega arith)
digits_f_shift (suc e) zero n h = rw (digits_f_none zero n h) (omega arith)
digits_f_shift (suc e) (suc f) n h =
    elim (dec_le n 0) [
      | yes z ↦ rw (digits_f_none (suc f) n z) (omega arith)
      | no g ↦
          let i = digits_f_shift e f (n / 2) (omega arith) in
          let q = (halves e n).0 in
          rw (digits_f_some f n (omega arith)) (omega arith)
    ]

-- n has at most e + floor(n / 2^e) digits
pub digits_shift : (e n : ℕ) → digits n ≤ e + n / 2 ^ e
unfolding digits
digits_shift e n = digits_f_shift e n n (le_refl n)
