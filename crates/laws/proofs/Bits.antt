-- The slots up to a cut, one bit after the other; and the bits beyond it, whether one of them is set.
use Prim.Native.Nat.{ℕ, zero, suc, ◌+◌, ◌-◌, ◌*◌, ◌/◌, ◌%◌, ◌^◌, ◌≤◌, ◌<◌}
use mathlib.Core.Path.{◌≡◌, refl, sym, ap, ◌∙◌}
use mathlib.Core.Bool.{Bool, true, false}
use mathlib.Core.List.{List, [], ◌∷◌, ◌++◌}
use native.Mathlib.Decide.{ℕ_discrete}
use native.Mathlib.Nat.{add-zero, zero-add}
use native.Mathlib.Omega.{arith}
use lib.Dec.{ltb, eqb}
use lib.ListN.{length, length-append}
use lib.Pow.{suc_ones, mod-pow-add}
use borrow.Author.Tests.{lt-ltb}
use Rattle.paper.specs.Lists.{pick, keep, up_from}
use Rattle.paper.specs.Bytes.{byte_at, ceil_div}
use Rattle.paper.specs.Record.{digit, bit_at, next_bit, unused, slots_to_cut}
use Rattle.laws.proofs.Lists.{up_join, keep_join}

-- the slots up to the cut, and then those up to a greater one
pub cut_on : (c k : ℕ) (bits : List ℕ) → slots_to_cut (c + k) bits ≡ slots_to_cut c bits ++ keep (bit_at bits) (up_from (1 + c) k)
unfolding slots_to_cut
cut_on c k bits = ap (keep (bit_at bits)) (up_join 1 c k) ∙ keep_join (bit_at bits) (up_from 1 c) (up_from (1 + c) k)

-- a test of a digit, as a count
tested : (d x : ℕ) → d < 2 → length (pick (eqb d 1) (x ∷ []) []) ≡ d
tested zero x h = refl
tested (suc zero) x h = refl
tested (suc (suc d)) x h = absurd (omega arith)

-- the bit behind c
bit_beyond : (c : ℕ) (bits : List ℕ) → length (keep (bit_at bits) (up_from (1 + c) 1)) ≡ digit (byte_at bits (c / 8)) (7 - c % 8)
unfolding bit_at keep up_from
bit_beyond c bits = let o : 1 + c - 1 ≡ c = omega arith in rw o (tested (digit (byte_at bits (c / 8)) (7 - c % 8)) (1 + c) (omega arith))

-- one bit more
pub one_more : (c : ℕ) (bits : List ℕ) → length (slots_to_cut (suc c) bits) ≡ length (slots_to_cut c bits) + digit (byte_at bits (c / 8)) (7 - c % 8)
one_more c bits =
    let e : suc c ≡ c + 1 = omega arith in
    rw (e, cut_on c 1 bits, length-append) (ap (λ (m : ℕ). length (slots_to_cut c bits) + m) (bit_beyond c bits))

-- Of the k bits from x on, one that is set or none
module _ (bits : List ℕ) where
  -- the first of them
  pub next_hit : (x k : ℕ) → bit_at bits x ≡ true → next_bit bits x (suc k) ≡ x
  unfolding next_bit
  next_hit x k e = rw e

  pub next_miss : (x k : ℕ) → bit_at bits x ≡ false → next_bit bits x (suc k) ≡ next_bit bits (x + 1) k
  unfolding next_bit
  next_miss x k e = rw e

  -- none is set where each is not
  pub next_none : (x k : ℕ) → ((y : ℕ) → x ≤ y → y < x + k → bit_at bits y ≡ false) → next_bit bits x k ≡ 0
  unfolding next_bit
  next_none x zero m = refl
  next_none x (suc k) m = next_miss x k (m x (omega arith) (omega arith)) ∙ next_none (x + 1) k (λ y u v. m y (omega arith) (omega arith))

  -- and only there
  pub none_next : (x k : ℕ) → 0 < x → next_bit bits x k ≡ 0 → (y : ℕ) → x ≤ y → y < x + k → bit_at bits y ≡ false
  none_next x zero l z y u v = absurd (omega arith)
  none_next x (suc k) l z y u v = go (bit_at bits x) refl (none_next (x + 1) k (omega arith))
    where
      go : (t : Bool) → bit_at bits x ≡ t → (next_bit bits (x + 1) k ≡ 0 → (y : ℕ) → x + 1 ≤ y → y < x + 1 + k → bit_at bits y ≡ false)
          → bit_at bits y ≡ false
      go true e r = let h = next_hit x k e in absurd (omega arith)
      go false e r = elim (ℕ_discrete x y) [
        | yes i ↦ rw (← i) e
        | no n ↦ r (sym (next_miss x k e) ∙ z) y (omega arith) (omega arith)
      ]

  -- i bits that are not set are passed over
  pub next_over : (i x k : ℕ) → ((y : ℕ) → x ≤ y → y < x + i → bit_at bits y ≡ false) → next_bit bits x (i + k) ≡ next_bit bits (x + i) k
  next_over zero x k m = rw (zero-add, add-zero)
  next_over (suc i) x k m =
      let e : x + 1 + i ≡ x + suc i = omega arith in
      let n : suc i + k ≡ suc (i + k) = omega arith in
      rw n
      (next_miss x (i + k) (m x (omega arith) (omega arith)) ∙ next_over i (x + 1) k (λ y u v. m y (omega arith) (omega arith)) ∙ rw e)

  -- one that is found is among them, and set
  pub next_found : (x k : ℕ) → 0 < next_bit bits x k → (x ≤ next_bit bits x k) × (next_bit bits x k < x + k) × (bit_at bits (next_bit bits x k) ≡ true)
  unfolding next_bit
  next_found x zero l = absurd (omega arith)
  next_found x (suc k) l = go (bit_at bits x) refl (next_found (x + 1) k)
    where
      Found : ℕ → ℕ → ℕ → Type 0
      Found a n y = (a ≤ y) × (y < a + n) × (bit_at bits y ≡ true)

      go : (t : Bool) → bit_at bits x ≡ t → (0 < next_bit bits (x + 1) k → Found (x + 1) k (next_bit bits (x + 1) k)) → Found x (suc k) (next_bit bits x (suc k))
      go true e r = rw (next_hit x k e) (omega arith, omega arith, e)
      go false e r =
          let m = next_miss x k e in
          let f = r (rw m at l) in
          let lo = f.0 in
          let hi = f.1 in
          rw m (omega arith, omega arith, f.2)

  -- digit k of byte j, and the k digits below it
  module _ (j k : ℕ) (h : k < 8) where
    abbrev b : ℕ
    b = byte_at bits j

    -- the slot of its bit
    abbrev x : ℕ
    x = 8 * j + 9 - suc k

    bit_is : bit_at bits x ≡ eqb (digit b k) 1
    unfolding bit_at
    bit_is =
        let i₁ : (8 * j + 9 - suc k - 1) / 8 ≡ j = omega arith in
        let i₂ : 7 - (8 * j + 9 - suc k - 1) % 8 ≡ k = omega arith in
        rw (i₁, i₂)

    low_is : b % 2 ^ suc k ≡ digit b k * 2 ^ k + b % 2 ^ k
    low_is = let e : 1 + k ≡ suc k = omega arith in rw e at (mod-pow-add b 1 k)

    low_more : (d : ℕ) → digit b k ≡ d → d < 2 → ltb 0 (b % 2 ^ k) ≡ ltb 0 (next_bit bits (8 * j + 9 - k) k)
        → ltb 0 (b % 2 ^ suc k) ≡ ltb 0 (next_bit bits x (suc k))
    low_more zero e l r =
        let i : x + 1 ≡ 8 * j + 9 - k = omega arith in
        let s : b % 2 ^ suc k ≡ b % 2 ^ k = low_is ∙ rw e (omega arith) in
        rw (s, next_miss x k (rw e at bit_is), i) r
    low_more (suc zero) e l r =
        let p = suc_ones k in
        let s : b % 2 ^ suc k ≡ 1 * 2 ^ k + b % 2 ^ k = low_is ∙ rw e refl in
        lt-ltb 0 (b % 2 ^ suc k) (omega arith) ∙ sym (rw (next_hit x k (rw e at bit_is)) (lt-ltb 0 x (omega arith)))
    low_more (suc (suc d)) e l r = absurd (omega arith)

  -- the low k bits of a byte are the last before its end: one is set where they make more than 0
  low_bits : (j k : ℕ) → k ≤ 8 → ltb 0 (byte_at bits j % 2 ^ k) ≡ ltb 0 (next_bit bits (8 * j + 9 - k) k)
  unfolding next_bit
  low_bits j zero h = let e : byte_at bits j % 1 ≡ 0 = omega arith in rw e refl
  low_bits j (suc k) h = low_more j k (omega arith) (digit (byte_at bits j) k) refl (omega arith) (low_bits j k (omega arith))

-- a cut's unused bits are the low ones of the byte that its own bit stands in
pub unused_low : (bits : List ℕ) (c : ℕ) → 0 < c → ltb 0 (byte_at bits ((c - 1) / 8) % 2 ^ (7 - (c - 1) % 8)) ≡ ltb 0 (next_bit bits (c + 1) (unused c))
unfolding ceil_div
unused_low bits c l =
    let j = (c - 1) / 8 in
    let i₁ : 8 * j + 9 - (7 - (c - 1) % 8) ≡ c + 1 = omega arith in
    let i₂ : 7 - (c - 1) % 8 ≡ unused c = omega arith in
    low_bits bits j (7 - (c - 1) % 8) (omega arith) ∙ rw (i₁, i₂) refl
