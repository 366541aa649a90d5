-- Bytes of bits, bit 1 on top of the first: a bit that was put there is found there, and bytes are those of their bits.
use Prim.Native.Nat.{ℕ, zero, suc, ◌+◌, ◌-◌, ◌*◌, ◌/◌, ◌%◌, ◌^◌, ◌≤◌, ◌<◌}
use mathlib.Core.Path.{◌≡◌, refl, sym, ap, ◌∙◌}
use mathlib.Core.Bool.{Bool, true, false}
use mathlib.Core.List.{List}
use native.Mathlib.Nat.{add-zero}
use native.Mathlib.Omega.{arith}
use lib.ListN.{length, get_or}
use lib.Seq.{ext_get_or}
use lib.Dec.{eqb}
use Rattle.paper.specs.Lists.{bit_of}
use Rattle.paper.specs.Bytes.{byte_at}
use Rattle.paper.specs.Record.{digit, bit_at}
use Rattle.paper.specs.Write.{octet, bit_bytes}
use Rattle.laws.proofs.Parts.{AllBytes, all_none, all_more}

-- as many bytes as asked
pub bits_length : (t : ℕ → Bool) (k x : ℕ) → length (bit_bytes t x k) ≡ k
unfolding bit_bytes
bits_length t zero x = refl
bits_length t (suc k) x = ap suc (bits_length t k (x + 8))

-- byte j of them
pub bits_get : (t : ℕ → Bool) (k x j : ℕ) → j < k → get_or (bit_bytes t x k) j 0 ≡ octet t (x + 8 * j)
unfolding bit_bytes
bits_get t zero x j l = absurd (omega arith)
bits_get t (suc k) x zero l = ap (octet t) (omega arith)
bits_get t (suc k) x (suc j) l = bits_get t k (x + 8) j (omega arith) ∙ ap (octet t) (omega arith)

-- a test as a number is at most 1
pub bit_le : (b : Bool) → bit_of b ≤ 1
bit_le true = omega arith
bit_le false = omega arith

bit_is : (b : Bool) → eqb (bit_of b) 1 ≡ b
bit_is true = refl
bit_is false = refl

octet_byte : (t : ℕ → Bool) (x : ℕ) → octet t x < 256
unfolding octet
octet_byte t x =
    omega (
      arith,
      bit_le (t x),
      bit_le (t (x + 1)),
      bit_le (t (x + 2)),
      bit_le (t (x + 3)),
      bit_le (t (x + 4)),
      bit_le (t (x + 5)),
      bit_le (t (x + 6)),
      bit_le (t (x + 7)),
    )

-- bytes of bits are bytes
pub all_bits : (t : ℕ → Bool) (k x : ℕ) → AllBytes (bit_bytes t x k)
unfolding bit_bytes
all_bits t zero x = all_none
all_bits t (suc k) x = all_more (octet t x) (bit_bytes t (x + 8) k) (octet_byte t x) (all_bits t k (x + 8))

-- a number made of eight bits has these as its digits, the first on top
module _ (b : ℕ → ℕ) (le : (i : ℕ) → b i ≤ 1) (n : ℕ)
    (is : n ≡ 128 * b 0 + 64 * b 1 + 32 * b 2 + 16 * b 3 + 8 * b 4 + 4 * b 5 + 2 * b 6 + b 7) where
  digits : (r : ℕ) → r < 8 → digit n (7 - r) ≡ b r
  digits zero l =
      let d : n / 128 ≡ b 0 = omega (arith, le 0, le 1, le 2, le 3, le 4, le 5, le 6, le 7) in rw d (omega (arith, le 0))
  digits (suc zero) l =
      let d : n / 64 ≡ 2 * b 0 + b 1 = omega (arith, le 0, le 1, le 2, le 3, le 4, le 5, le 6, le 7) in rw d (omega (arith, le 1))
  digits (suc (suc zero)) l =
      let d : n / 32 ≡ 4 * b 0 + 2 * b 1 + b 2 = omega (arith, le 0, le 1, le 2, le 3, le 4, le 5, le 6, le 7) in rw d (omega (arith, le 2))
  digits (suc (suc (suc zero))) l =
      let d : n / 16 ≡ 8 * b 0 + 4 * b 1 + 2 * b 2 + b 3 = omega (arith, le 0, le 1, le 2, le 3, le 4, le 5, le 6, le 7) in rw d (omega (arith, le 3))
  digits (suc (suc (suc (suc zero)))) l =
      let d : n / 8 ≡ 16 * b 0 + 8 * b 1 + 4 * b 2 + 2 * b 3 + b 4 = omega (arith, le 0, le 1, le 2, le 3, le 4, le 5, le 6, le 7) in
      rw d (omega (arith, le 4))
  digits (suc (suc (suc (suc (suc zero))))) l =
      let d : n / 4 ≡ 32 * b 0 + 16 * b 1 + 8 * b 2 + 4 * b 3 + 2 * b 4 + b 5 = omega (arith, le 0, le 1, le 2, le 3, le 4, le 5, le 6, le 7) in
      rw d (omega (arith, le 5))
  digits (suc (suc (suc (suc (suc (suc zero)))))) l =
      let d : n / 2 ≡ 64 * b 0 + 32 * b 1 + 16 * b 2 + 8 * b 3 + 4 * b 4 + 2 * b 5 + b 6 = omega (arith, le 6, le 7) in rw d (omega (arith, le 6))
  digits (suc (suc (suc (suc (suc (suc (suc zero))))))) l =
      let d : n / 1 ≡ n = omega arith in rw d (omega (arith, le 7))
  digits (suc (suc (suc (suc (suc (suc (suc (suc r)))))))) l = absurd (omega arith)

-- the digits of a byte of bits are these bits, the first on top
pub octet_digit : (t : ℕ → Bool) (x r : ℕ) → r < 8 → digit (octet t x) (7 - r) ≡ bit_of (t (x + r))
unfolding octet
octet_digit t x r l =
    let e : octet t x ≡ 128 * bit_of (t (x + 0)) + 64 * bit_of (t (x + 1)) + 32 * bit_of (t (x + 2)) + 16 * bit_of (t (x + 3)) + 8 * bit_of (t (x + 4))
    + 4 * bit_of (t (x + 5)) + 2 * bit_of (t (x + 6)) + bit_of (t (x + 7)) = rw (add-zero x) in
    digits (λ i. bit_of (t (x + i))) (λ i. bit_le (t (x + i))) (octet t x) e r l

-- a bit of the bytes is the bit that was put there
pub bits_at : (t : ℕ → Bool) (k y : ℕ) → 0 < y → y ≤ 8 * k → bit_at (bit_bytes t 1 k) y ≡ t y
unfolding bit_at
bits_at t k y l h =
    let j = (y - 1) / 8 in
    let r = (y - 1) % 8 in
    let y-is : 1 + 8 * j + r ≡ y = omega arith in
    rw (bits_get t k 1 j (omega arith), octet_digit t (1 + 8 * j) r (omega arith)) (bit_is (t (1 + 8 * j + r)) ∙ ap t y-is)

-- a byte is made of its digits
half_bit : (m : ℕ) → bit_of (eqb (m % 2) 1) ≡ m % 2
half_bit m = go (m % 2) (omega arith)
  where
    go : (b : ℕ) → b < 2 → bit_of (eqb b 1) ≡ b
    go zero l = refl
    go (suc zero) l = refl
    go (suc (suc b)) l = absurd (omega arith)

byte_sum : (b : ℕ) → b < 256
    → b
    ≡ 128 * (b / 128 % 2) + 64 * (b / 64 % 2) + 32 * (b / 32 % 2) + 16 * (b / 16 % 2) + 8 * (b / 8 % 2) + 4 * (b / 4 % 2) + 2 * (b / 2 % 2) + b / 1 % 2
byte_sum b l =
    let h₁ : b / 2 / 2 ≡ b / 4 = omega arith in
    let h₂ : b / 4 / 2 ≡ b / 8 = omega arith in
    let h₃ : b / 8 / 2 ≡ b / 16 = omega arith in
    let h₄ : b / 16 / 2 ≡ b / 32 = omega arith in
    let h₅ : b / 32 / 2 ≡ b / 64 = omega arith in
    let h₆ : b / 64 / 2 ≡ b / 128 = omega arith in
    let k₇ : b / 128 % 2 ≡ b / 128 = omega arith in
    let k₆ : 2 * (b / 128) + b / 64 % 2 ≡ b / 64 = rw (← h₆) (omega arith) in
    let k₅ : 2 * (b / 64) + b / 32 % 2 ≡ b / 32 = rw (← h₅) (omega arith) in
    let k₄ : 2 * (b / 32) + b / 16 % 2 ≡ b / 16 = rw (← h₄) (omega arith) in
    let k₃ : 2 * (b / 16) + b / 8 % 2 ≡ b / 8 = rw (← h₃) (omega arith) in
    let k₂ : 2 * (b / 8) + b / 4 % 2 ≡ b / 4 = rw (← h₂) (omega arith) in
    let k₁ : 2 * (b / 4) + b / 2 % 2 ≡ b / 2 = rw (← h₁) (omega arith) in
    let k₀ : 2 * (b / 2) + b / 1 % 2 ≡ b = omega arith in
    sums b (b / 2) (b / 4) (b / 8) (b / 16) (b / 32) (b / 64) (b / 128) (b / 1 % 2) (b / 2 % 2) (b / 4 % 2) (b / 8 % 2) (b / 16 % 2) (b / 32 % 2) (b / 64 % 2)
    (b / 128 % 2) k₀ k₁ k₂ k₃ k₄ k₅ k₆ k₇
  where
    sums : (a₀ a₁ a₂ a₃ a₄ a₅ a₆ a₇ c₀ c₁ c₂ c₃ c₄ c₅ c₆ c₇ : ℕ) → 2 * a₁ + c₀ ≡ a₀ → 2 * a₂ + c₁ ≡ a₁ → 2 * a₃ + c₂ ≡ a₂ → 2 * a₄ + c₃ ≡ a₃
        → 2 * a₅ + c₄ ≡ a₄ → 2 * a₆ + c₅ ≡ a₅ → 2 * a₇ + c₆ ≡ a₆ → c₇ ≡ a₇
        → a₀ ≡ 128 * c₇ + 64 * c₆ + 32 * c₅ + 16 * c₄ + 8 * c₃ + 4 * c₂ + 2 * c₁ + c₀
    sums a₀ a₁ a₂ a₃ a₄ a₅ a₆ a₇ c₀ c₁ c₂ c₃ c₄ c₅ c₆ c₇ e₀ e₁ e₂ e₃ e₄ e₅ e₆ e₇ = omega arith

bit_of_byte : (bits : List ℕ) (j r : ℕ) → r < 8 → bit_of (bit_at bits (1 + 8 * j + r)) ≡ digit (byte_at bits j) (7 - r)
unfolding bit_at
bit_of_byte bits j r l =
    let i₁ : (1 + 8 * j + r - 1) / 8 ≡ j = omega arith in
    let i₂ : (1 + 8 * j + r - 1) % 8 ≡ r = omega arith in
    rw (i₁, i₂) (half_bit (byte_at bits j / 2 ^ (7 - r)))

byte_back : (bits : List ℕ) (j : ℕ) → AllBytes bits → byte_at bits j ≡ octet (bit_at bits) (1 + 8 * j)
unfolding octet
byte_back bits j all =
    let z : 1 + 8 * j + 0 ≡ 1 + 8 * j = omega arith in
    rw (
      rw z at (bit_of_byte bits j 0 (omega arith)),
      bit_of_byte bits j 1 (omega arith),
      bit_of_byte bits j 2 (omega arith),
      bit_of_byte bits j 3 (omega arith),
      bit_of_byte bits j 4 (omega arith),
      bit_of_byte bits j 5 (omega arith),
      bit_of_byte bits j 6 (omega arith),
      bit_of_byte bits j 7 (omega arith),
    )
    (byte_sum (byte_at bits j) (all j))

-- bytes are those of their bits
pub bits_same : (bits : List ℕ) → AllBytes bits → bits ≡ bit_bytes (bit_at bits) 1 (length bits)
bits_same bits all =
    ext_get_or 0 bits (bit_bytes (bit_at bits) 1 (length bits)) (sym (bits_length (bit_at bits) (length bits) 1))
    (λ j l. byte_back bits j all ∙ sym (bits_get (bit_at bits) (length bits) 1 j l))

-- and go by them alone: one byte
pub octet_same : (t s : ℕ → Bool) (x : ℕ) → ((y : ℕ) → x ≤ y → y < x + 8 → t y ≡ s y) → octet t x ≡ octet s x
unfolding octet
octet_same t s x m =
    rw (
      m x (omega arith) (omega arith),
      m (x + 1) (omega arith) (omega arith),
      m (x + 2) (omega arith) (omega arith),
      m (x + 3) (omega arith) (omega arith),
      m (x + 4) (omega arith) (omega arith),
      m (x + 5) (omega arith) (omega arith),
      m (x + 6) (omega arith) (omega arith),
      m (x + 7) (omega arith) (omega arith),
    )

-- and so do k bytes
pub bytes_same : (t s : ℕ → Bool) (k x : ℕ) → ((y : ℕ) → x ≤ y → y < x + 8 * k → t y ≡ s y) → bit_bytes t x k ≡ bit_bytes s x k
unfolding bit_bytes
bytes_same t s zero x m = refl
bytes_same t s (suc k) x m =
    let h = octet_same t s x (λ y u v. m y u (omega arith)) in
    let r = bytes_same t s k (x + 8) (λ y u v. m y (omega arith) (omega arith)) in
    rw (h, r)
