-- The codes of a block that is known to have no fault: k of them are left behind the slot y, from position p on. One stands there, its slot is not above u, and
-- what is left behind it has no fault either.
use Prim.Native.Nat.{ℕ, zero, suc, ◌+◌, ◌-◌, ◌≤◌, ◌<◌}
use mathlib.Core.Path.{◌≡◌, refl, sym, ap, ◌∙◌}
use mathlib.Core.List.{List, ◌∷◌}
use native.Mathlib.Decide.{dec_lt, dec_le}
use native.Mathlib.Omega.{arith}
use lib.ListN.{length, drop}
use Rattle.paper.specs.Bytes.{byte_at}
use Rattle.paper.specs.Code.{code_of}
use Rattle.paper.specs.Code.Code.{code}
use Rattle.paper.specs.Block.{Block, halt, cons, read_codes}
use Rattle.laws.proofs.Codes as codes
use Rattle.laws.proofs.Blocks as blocks
use Rattle.codes.specs.Got.{Stands}
use Rattle.codes.proofs.Standing.{there, there_2, there_3, known_one, known_two, known_three}

module _ (u k y : ℕ) (bs : List ℕ) (p : ℕ) (sound : (read_codes u k y (drop p bs)).fault ≡ 0) (some : 0 < k) where
  -- it does not end in a fault
  never : (n : ℕ) → read_codes u k y (drop p bs) ≡ halt (suc n) → ⊥
  never n e = let z : suc n ≡ 0 = sym (ap (λ (b : Block). b.fault) e) ∙ sound in omega arith

  -- a code stands there
  pub stands : Stands bs p
  stands = record { sound = λ e. never 7 (blocks.turn_bad u y k bs p some (sym e)) }

  -- and so a byte does
  pub inside : p < length bs
  inside = there bs p stands

  module _ (v q : ℕ) (is : code v (drop q bs) ≡ code_of (drop p bs)) where
    -- its slot is not above u
    pub below : y + v + 1 ≤ u
    below = elim (dec_le (y + v + 1) u) [ yes l ↦ l | no n ↦ absurd (never 8 (blocks.turn_above u y k bs p some v q is (omega arith))) ]

    -- and is the next one
    next : read_codes u k y (drop p bs) ≡ cons (y + v + 1) (read_codes u (k - 1) (y + v + 1) (drop q bs))
    next = blocks.turn_next u y k bs p some v q is below

    -- what is left behind it has no fault
    pub rest_sound : (read_codes u (k - 1) (y + v + 1) (drop q bs)).fault ≡ 0
    rest_sound = sym (ap (λ (b : Block). b.fault) next) ∙ sound

    -- and gives the slots behind it
    pub rest_slots : (read_codes u k y (drop p bs)).slots ≡ (y + v + 1) ∷ (read_codes u (k - 1) (y + v + 1) (drop q bs)).slots
    rest_slots = ap (λ (b : Block). b.slots) next

-- where the code that stands at p ends: one byte behind p, or further where the first byte leads on
record Ends (bs : List ℕ) (p : ℕ) : Type 0 where
  v : ℕ
  q : ℕ
  is : code v (drop q bs) ≡ code_of (drop p bs)
  on : p < q
  far : 128 ≤ byte_at bs p → p + 2 ≤ q
  within : q ≤ length bs

-- every code that stands ends somewhere
ends : (bs : List ℕ) (p : ℕ) → Stands bs p → Ends bs p
ends bs p t = go (dec_lt (byte_at bs p) 128) (dec_lt (byte_at bs (p + 1)) 128)
  where
    go : Dec (byte_at bs p < 128) → Dec (byte_at bs (p + 1) < 128) → Ends bs p
    go (yes l) d = record { v = _; q = p + 1; is = known_one bs p t _ refl l; on = omega arith; far = λ m. absurd (omega arith); within = omega (arith, there bs p t) }
    go (no m) (yes l) =
        let i = there_2 bs p t _ refl (omega arith) in
        record { v = _; q = p + 2; is = known_two bs p t _ refl (omega arith) _ refl l; on = omega arith; far = λ m. omega arith; within = omega arith }
    go (no m) (no n) =
        let i = there_3 bs p t _ refl (omega arith) _ refl (omega arith) in
        record { v = _; q = p + 3; is = known_three bs p t _ refl (omega arith) _ refl (omega arith) _ refl; on = omega arith; far = λ m. omega arith; within = omega arith }

-- there are as many bytes as codes, or more
enough : (u k y : ℕ) (bs : List ℕ) (p : ℕ) → p ≤ length bs → (read_codes u k y (drop p bs)).fault ≡ 0 → p + k ≤ length bs
enough u zero y bs p l f = omega arith
enough u (suc k) y bs p l f =
    let c = ends bs p (stands u (suc k) y bs p f (omega arith)) in
    let e : suc k - 1 ≡ k = omega arith in
    let r = rw e at (rest_sound u (suc k) y bs p f (omega arith) c.v c.q c.is) in
    omega (arith, c.on, enough u k (y + c.v + 1) bs c.q c.within r)

-- where there are no more bytes than codes, each byte is a code of its own
module _ (u k y : ℕ) (bs : List ℕ) (p : ℕ) (sound : (read_codes u k y (drop p bs)).fault ≡ 0) (some : 0 < k) (all : length bs ≡ p + k) where
  pub alone : byte_at bs p < 128
  alone =
      let c = ends bs p (stands u k y bs p sound some) in
      let r = enough u (k - 1) (y + c.v + 1) bs c.q c.within (rest_sound u k y bs p sound some c.v c.q c.is) in
      elim (dec_lt (byte_at bs p) 128) [ yes l ↦ l | no n ↦ absurd (omega (arith, r, c.far (omega arith))) ]

  -- the code that it is
  pub alone_is : (b : ℕ) → b ≡ byte_at bs p → code b (drop (p + 1) bs) ≡ code_of (drop p bs)
  alone_is b e = codes.one bs p b (inside u k y bs p sound some) e (let l = alone in omega arith)
