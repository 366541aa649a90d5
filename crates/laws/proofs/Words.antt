-- A number and its four bytes: its bound, where it stands behind other bytes, and that each determines the other.
use Prim.Native.Nat.{ℕ, zero, suc, ◌+◌, ◌*◌, ◌-◌, ◌/◌, ◌%◌, ◌≤◌, ◌<◌}
use mathlib.Core.Path.{◌≡◌, refl, sym, ap, ◌∙◌}
use mathlib.Core.List.{List, [], ◌∷◌, ◌++◌, map, flatten}
use native.Mathlib.Nat.{add-zero}
use native.Mathlib.Omega.{arith}
use lib.Dec.{lit<}
use lib.ListN.{length, take, drop, length-append}
use lib.Seq.{get_or-take, get_or-drop, get_or-append-add}
use Rattle.paper.specs.Bytes.{byte_at, u32_at, part, u32_bytes}
use Rattle.laws.proofs.Parts.{AllBytes}

-- four bytes spell a number below 2 to the power of 32
pub word_bound : (bs : List ℕ) (i : ℕ) → AllBytes bs → u32_at bs i < 4294967296
unfolding u32_at
word_bound bs i all = omega (arith, all i, all (i + 1), all (i + 2), all (i + 3))

-- Two lists whose bytes agree at four positions spell the same number there
word_same : (xs ys : List ℕ) (i j : ℕ) → ((d : ℕ) → d < 4 → byte_at xs (i + d) ≡ byte_at ys (j + d)) → u32_at xs i ≡ u32_at ys j
unfolding u32_at
word_same xs ys i j h =
    let e₀ : byte_at xs i ≡ byte_at ys j = rw (add-zero i, add-zero j) at (h 0 (lit< tt)) in
    rw (e₀, h 1 (lit< tt), h 2 (lit< tt), h 3 (lit< tt))

-- a number of which all four bytes stand at the front
word_take : (n : ℕ) (bs : List ℕ) (i : ℕ) → i + 4 ≤ n → u32_at (take n bs) i ≡ u32_at bs i
word_take n bs i l = word_same (take n bs) bs i i λ d h. get_or-take n bs (i + d) 0 (omega arith)

-- behind n bytes
pub word_drop : (n : ℕ) (bs : List ℕ) (i : ℕ) → u32_at (drop n bs) i ≡ u32_at bs (n + i)
word_drop n bs i = word_same (drop n bs) bs i (n + i) λ d h. get_or-drop n bs (i + d) 0 ∙ ap (byte_at bs) (omega arith)

-- and in a part of them
pub word_part : (bs : List ℕ) (a e i : ℕ) → a + i + 4 ≤ e → u32_at (part bs a e) i ≡ u32_at bs (a + i)
word_part bs a e i l = word_take (e - a) (drop a bs) i (omega arith) ∙ word_drop a bs i

-- behind another list
pub word_behind : (xs ys : List ℕ) (i : ℕ) → u32_at (xs ++ ys) (length xs + i) ≡ u32_at ys i
word_behind xs ys i = word_same (xs ++ ys) ys (length xs + i) i λ d h. ap (byte_at (xs ++ ys)) (omega arith) ∙ get_or-append-add xs ys (i + d) 0

-- the four bytes of a number
pub length_word : (x : ℕ) → length (u32_bytes x) ≡ 4
unfolding u32_bytes
length_word x = refl

-- those of several numbers
pub length_words : (xs : List ℕ) → length (flatten (map u32_bytes xs)) ≡ 4 * length xs
unfolding flatten
length_words [] = refl
length_words (x ∷ xs) = rw (length-append, length_word, length_words xs) (omega arith)

-- all of them bytes
pub all_word : (x : ℕ) → AllBytes (u32_bytes x)
unfolding u32_bytes
all_word x zero = omega arith
all_word x (suc zero) = omega arith
all_word x (suc (suc zero)) = omega arith
all_word x (suc (suc (suc zero))) = omega arith
all_word x (suc (suc (suc (suc i)))) = omega arith

together : (x : ℕ) → x < 4294967296 → x % 256 + 256 * (x / 256 % 256) + 65536 * (x / 65536 % 256) + 16777216 * (x / 16777216 % 256) ≡ x
together x small =
    let h₁ : x / 256 / 256 ≡ x / 65536 = omega arith in
    let h₂ : x / 65536 / 256 ≡ x / 16777216 = omega arith in
    let h₃ : x / 16777216 % 256 ≡ x / 16777216 = omega arith in
    let k₁ : x / 256 % 256 + 256 * (x / 65536) ≡ x / 256 = rw (← h₁) (omega arith) in
    let k₂ : x / 65536 % 256 + 256 * (x / 16777216) ≡ x / 65536 = rw (← h₂) (omega arith) in
    let k₀ : x % 256 + 256 * (x / 256) ≡ x = omega arith in
    sums (x % 256) (x / 256 % 256) (x / 65536 % 256) (x / 16777216 % 256) (x / 16777216) (x / 65536) (x / 256) x k₀ k₁ k₂ h₃
  where
    sums : (a b c d t s r x : ℕ) → a + 256 * r ≡ x → b + 256 * s ≡ r → c + 256 * t ≡ s → d ≡ t → a + 256 * b + 65536 * c + 16777216 * d ≡ x
    sums a b c d t s r x p q w z = omega arith

-- the bytes of a number spell it
pub word_read : (x : ℕ) (r : List ℕ) → x < 4294967296 → u32_at (u32_bytes x ++ r) 0 ≡ x
unfolding u32_at u32_bytes
word_read x r small = together x small

-- four bytes are those of the number that they spell
module _ (b₀ b₁ b₂ b₃ : ℕ) (l₀ : b₀ < 256) (l₁ : b₁ < 256) (l₂ : b₂ < 256) (l₃ : b₃ < 256) where
  spelt : (x : ℕ) → x ≡ b₀ + 256 * b₁ + 65536 * b₂ + 16777216 * b₃ → u32_bytes x ≡ b₀ ∷ b₁ ∷ b₂ ∷ b₃ ∷ []
  unfolding u32_bytes
  spelt x e =
      let d₁ : x / 256 ≡ b₁ + 256 * b₂ + 65536 * b₃ = omega arith in
      let d₂ : x / 65536 ≡ b₂ + 256 * b₃ = omega arith in
      let d₃ : x / 16777216 ≡ b₃ = omega arith in
      let i₀ : x % 256 ≡ b₀ = omega arith in
      let i₁ : x / 256 % 256 ≡ b₁ = rw d₁ (omega arith) in
      let i₂ : x / 65536 % 256 ≡ b₂ = rw d₂ (omega arith) in
      let i₃ : x / 16777216 % 256 ≡ b₃ = rw d₃ (omega arith) in
      rw (i₀, i₁, i₂, i₃)

-- bytes begin with those of the number that they spell
pub word_is : (bs : List ℕ) → AllBytes bs → 4 ≤ length bs → bs ≡ u32_bytes (u32_at bs 0) ++ drop 4 bs
unfolding u32_at
word_is [] all h = absurd (omega arith)
word_is (a ∷ []) all h = absurd (omega arith)
word_is (a ∷ b ∷ []) all h = absurd (omega arith)
word_is (a ∷ b ∷ c ∷ []) all h = absurd (omega arith)
word_is (a ∷ b ∷ c ∷ d ∷ r) all h = ap (λ (l : List ℕ). l ++ r) (sym (spelt a b c d (all 0) (all 1) (all 2) (all 3) (u32_at (a ∷ b ∷ c ∷ d ∷ r) 0) refl))
