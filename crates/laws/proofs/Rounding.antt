-- Rounding up: said by a product, and by the division of the definitions; and how many blocks of B slots are left after one.
use Prim.Native.Nat.{ℕ, zero, suc, ◌+◌, ◌-◌, ◌*◌, ◌≤◌, ◌<◌}
use mathlib.Core.Path.{◌≡◌, refl, subst}
use native.Mathlib.Nat.{div-add-mod', mod-lt, mul-le-mul_left, mul-le-mul_right, suc-mul, zero-mul}
use native.Mathlib.Decide.{dec_lt, dec_le}
use native.Mathlib.Omega.{arith}
use Rattle.paper.specs.Bytes.{ceil_div}

-- m is x / y, rounded up
abbrev pub RoundsUp : ℕ → ℕ → ℕ → Type 0
RoundsUp x y m = (x ≤ m * y) × (m * y < x + y)

-- the division rounds up
pub rounds_ceil : (x y : ℕ) → 1 ≤ y → RoundsUp x y (ceil_div x y)
unfolding ceil_div
rounds_ceil x y h =
    let n = x + (y - 1) in
    let d = div-add-mod' n y in
    let m = mod-lt n h in
    (omega arith, omega arith)

-- only one number is it
module _ (x y : ℕ) where
  not_two : (m k : ℕ) → RoundsUp x y m → RoundsUp x y k → m < k → ⊥
  not_two m k a b l =
      let p = mul-le-mul_right y l in
      let s = suc-mul m y in
      omega arith

  -- two that round up are the same
  pub rounds_one : (m k : ℕ) → RoundsUp x y m → RoundsUp x y k → m ≡ k
  rounds_one m k a b = go (dec_lt m k) (dec_lt k m)
    where
      go : Dec (m < k) → Dec (k < m) → m ≡ k
      go (yes l) d = absurd (not_two m k a b l)
      go (no g) (yes l) = absurd (not_two k m b a l)
      go (no g) (no g₂) = omega arith

-- k blocks of B for n slots: none for none, some for some, and one less for B less
module _ (n B : ℕ) where
  -- no block, no slot
  pub rounds_zero : RoundsUp n B 0 → n ≡ 0
  rounds_zero r = let z = zero-mul B in omega arith

  module _ (k : ℕ) (r : RoundsUp n B (suc k)) where
    -- a block has a slot
    pub rounds_some : 1 ≤ n
    rounds_some = let s = suc-mul k B in omega arith

    -- a block less for B slots less
    pub rounds_less : RoundsUp (n - B) B k
    rounds_less = let s = suc-mul k B in (omega arith, omega arith)

  -- a slot needs a block
  pub rounds_more : (k : ℕ) → 1 ≤ n → RoundsUp n B k → k ≡ suc (k - 1)
  rounds_more zero h r = absurd (let z = rounds_zero r in omega arith)
  rounds_more (suc k) h r = omega arith

  -- no slot, no block
  pub rounds_none : (k : ℕ) → n ≡ 0 → RoundsUp n B k → k ≡ 0
  rounds_none zero h r = refl
  rounds_none (suc k) h r = absurd (let s = rounds_some k r in omega arith)

  module _ (k : ℕ) (r : RoundsUp n B k) where
    -- B is not 0
    pub rounds_pos : 1 ≤ B
    rounds_pos = omega arith

    -- block b has a slot
    pub rounds_left : (b : ℕ) → b < k → 1 ≤ n - b * B
    rounds_left b l =
        let p : suc b * B ≤ k * B = mul-le-mul_right B l in
        let s = suc-mul b B in
        omega arith

    -- there are no more blocks than slots
    rounds_few : k ≤ n
    rounds_few = go (dec_le k n)
      where
        go : Dec (k ≤ n) → k ≤ n
        go (yes l) = l
        go (no g) =
            let h : suc n ≤ k = omega arith in
            let p : suc n * B ≤ k * B = mul-le-mul_right B h in
            let q : n * 1 ≤ n * B = mul-le-mul_left n rounds_pos in
            let s = suc-mul n B in
            absurd (omega arith)

  -- behind block b come the slots that are left less B
  pub behind_block : (b : ℕ) → n - (b + 1) * B ≡ n - b * B - B
  behind_block b = let s = suc-mul b B in omega arith

-- the same of the division
module _ (B : ℕ) (pos : 0 < B) where
  -- no more blocks than slots
  pub ceil_few : (n : ℕ) → ceil_div n B ≤ n
  ceil_few n = rounds_few n B (ceil_div n B) (rounds_ceil n B pos)

  module _ (n k : ℕ) (e : k ≡ ceil_div n B) (h : 0 < k) where
    next : RoundsUp n B (suc (k - 1))
    next = let i : ceil_div n B ≡ suc (k - 1) = omega arith in subst (RoundsUp n B) i (rounds_ceil n B pos)

    -- some slots are there where some blocks are
    pub ceil_some : 0 < n
    ceil_some = rounds_some n B (k - 1) next

    -- and one block less behind the first
    pub ceil_next : k - 1 ≡ ceil_div (n - B) B
    ceil_next = rounds_one (n - B) B (k - 1) (ceil_div (n - B) B) (rounds_less n B (k - 1) next) (rounds_ceil (n - B) B pos)

-- eight bits to a byte
pub bytes_hold : (c : ℕ) → c ≤ 8 * ceil_div c 8
unfolding ceil_div
bytes_hold c = omega arith
