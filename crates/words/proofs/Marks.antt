-- A bit that is set in bytes of bits: the machine's or, and which bits are then set.
use Prim.Native.Nat.{ℕ, zero, suc, ◌+◌, ◌-◌, ◌*◌, ◌%◌, ◌^◌, ◌≤◌, ◌<◌}
use mathlib.Core.Path.{◌≡◌, refl, sym, ap, ◌∙◌}
use mathlib.Core.Bool.{Bool, true}
use native.Mathlib.Decide.{ℕ_discrete}
use native.Mathlib.Nat.{add-zero}
use native.Mathlib.Omega.{arith}
use lib.Bits.{bit_or, and_high, or_add_and}
use lib.Dec.{eqb}
use lib.ListN.{get_or, set, length-set}
use lib.Seq.{ext_get_or, get_or-set_same, get_or-set_other}
use borrow.Author.Tests.{eq-eqb, ne_eqb}
use Rattle.paper.specs.Lists.{bit_of, pick}
use Rattle.paper.specs.Record.{byte_of, digit_of, digit}
use Rattle.paper.specs.Write.{octet, bit_bytes}
use Rattle.laws.proofs.Octets.{bits_length, bits_get, bit_le, octet_digit, octet_same}
use Rattle.words.specs.Marks.{with_digit, with_bit}

-- what holds of each number below 8, case by case: the powers of 2 are numerals then
eight : (P : ℕ → Type 0) → P 0 × P 1 × P 2 × P 3 × P 4 × P 5 × P 6 × P 7 → (s : ℕ) → s < 8 → P s
eight P p zero h = p.0
eight P p (suc zero) h = p.1
eight P p (suc (suc zero)) h = p.2
eight P p (suc (suc (suc zero))) h = p.3
eight P p (suc (suc (suc (suc zero)))) h = p.4
eight P p (suc (suc (suc (suc (suc zero))))) h = p.5
eight P p (suc (suc (suc (suc (suc (suc zero)))))) h = p.6
eight P p (suc (suc (suc (suc (suc (suc (suc zero))))))) h = p.7
eight P p (suc (suc (suc (suc (suc (suc (suc (suc s)))))))) h = absurd (omega arith)

-- the machine's or with one digit sets it
pub or_digit : (b s : ℕ) → s < 8 → bit_or b (1 * 2 ^ s % 256) ≡ with_digit b s
unfolding with_digit
or_digit b s h =
    eight (λ (k : ℕ). bit_or b (1 * 2 ^ k % 256) ≡ b + (1 - digit b k) * 2 ^ k) (
      omega (arith, or_add_and b 1, and_high b 1 0),
      omega (arith, or_add_and b 2, and_high b 1 1),
      omega (arith, or_add_and b 4, and_high b 1 2),
      omega (arith, or_add_and b 8, and_high b 1 3),
      omega (arith, or_add_and b 16, and_high b 1 4),
      omega (arith, or_add_and b 32, and_high b 1 5),
      omega (arith, or_add_and b 64, and_high b 1 6),
      omega (arith, or_add_and b 128, and_high b 1 7),
    ) s h

-- eight numbers with the weights of the bits of a byte, the first on top
abbrev weighed : (ℕ → ℕ) → ℕ
weighed b = 128 * b 0 + 64 * b 1 + 32 * b 2 + 16 * b 3 + 8 * b 4 + 4 * b 5 + 2 * b 6 + b 7

-- where number r becomes d more and the others stay, its weight is added d times
more_weight : (b c : ℕ → ℕ) (d r : ℕ) → r < 8 → ((i : ℕ) → c i ≡ b i + pick (eqb i r) d 0) → weighed c ≡ weighed b + d * 2 ^ (7 - r)
more_weight b c d r h e =
    rw (e 0, e 1, e 2, e 3, e 4, e 5, e 6, e 7)
    (eight (λ (r : ℕ). weighed (λ i. b i + pick (eqb i r) d 0) ≡ weighed b + d * 2 ^ (7 - r))
    (omega arith, omega arith, omega arith, omega arith, omega arith, omega arith, omega arith, omega arith) r h)

-- Of two tests that agree but for bit x, the second passes it
module _ (t s : ℕ → Bool) (x : ℕ) (passes : s x ≡ true) (agree : (y : ℕ) → ¬ (y ≡ x) → s y ≡ t y) where
  -- the byte from z on, in which x is the bit r
  module _ (z r : ℕ) (h : r < 8) (at : z + r ≡ x) where
    each_bit : (i : ℕ) → bit_of (s (z + i)) ≡ bit_of (t (z + i)) + pick (eqb i r) (1 - bit_of (t (z + r))) 0
    each_bit i =
        elim (ℕ_discrete i r) [
          | yes e ↦ let l = bit_le (t x) in rw (e, eq-eqb r r refl, at, passes) (omega arith)
          | no n ↦ rw (agree (z + i) (λ e. n (omega arith)), ne_eqb i r n) (omega arith)
        ]

    one_set : octet s z ≡ with_digit (octet t z) (7 - r)
    unfolding octet with_digit
    one_set =
        let m = more_weight (λ i. bit_of (t (z + i))) (λ i. bit_of (s (z + i))) (1 - bit_of (t (z + r))) r h each_bit in
        rw (octet_digit t z r h) (rw add-zero at m)

  -- bytes of bits with x set are those of the second test
  pub bits_marked : (k : ℕ) → 0 < x → x ≤ 8 * k → with_bit (bit_bytes t 1 k) x ≡ bit_bytes s 1 k
  unfolding with_bit
  bits_marked k l h =
      ext_get_or 0 _ (bit_bytes s 1 k) (length-set (bit_bytes t 1 k) (byte_of x) _ ∙ bits_length t k 1 ∙ sym (bits_length s k 1))
      (λ j m. at_byte j (rw (length-set, bits_length) at m))
    where
      v : ℕ
      v = with_digit (get_or (bit_bytes t 1 k) (byte_of x) 0) (digit_of x)

      at_byte : (j : ℕ) → j < k → get_or (set (bit_bytes t 1 k) (byte_of x) v) j 0 ≡ get_or (bit_bytes s 1 k) j 0
      at_byte j m = go (ℕ_discrete j (byte_of x))
        where
          go : Dec (j ≡ byte_of x) → get_or (set (bit_bytes t 1 k) (byte_of x) v) j 0 ≡ get_or (bit_bytes s 1 k) j 0
          go (yes e) =
              let r = (x - 1) % 8 in
              rw (e, get_or-set_same (bit_bytes t 1 k) (byte_of x) v 0 (rw bits_length (omega arith)), bits_get s k 1 (byte_of x) (omega arith))
              (sym (one_set (1 + 8 * byte_of x) r (omega arith) (omega arith)
              ∙ ap (λ (b : ℕ). with_digit b (7 - r)) (sym (bits_get t k 1 (byte_of x) (omega arith)))))
          go (no n) =
              rw (get_or-set_other (bit_bytes t 1 k) (byte_of x) j v 0 n, bits_get t k 1 j m, bits_get s k 1 j m)
              (octet_same t s (1 + 8 * j) (λ y lo hi. sym (agree y (λ q. n (omega arith)))))
