-- The codes of one block, step by step: what is left to read after one code. First over `suc k`, for theorems; then over `0 < k` and a
-- position, as a loop that counts down has it.
use Prim.Native.Nat.{ℕ, zero, suc, ◌+◌, ◌-◌, ◌≤◌, ◌<◌}
use mathlib.Core.Path.{◌≡◌, refl, sym, ap, ◌∙◌}
use mathlib.Core.List.{List, [], ◌∷◌}
use native.Mathlib.Decide.{dec_le}
use native.Mathlib.Omega.{arith}
use lib.ListN.{length, drop}
use borrow.Author.Tests.{lt-ltb, le-ltb}
use Rattle.paper.specs.Bytes.{byte_at}
use Rattle.paper.specs.Code.{Code, code_of}
use Rattle.paper.specs.Code.Code.{code, bad}
use Rattle.paper.specs.Block.{Block, halt, cons, read_codes}
use Rattle.laws.proofs.Parts.{front, nothing}

module _ (u prev : ℕ) where
  -- no code is to be read, and no byte is left
  pub codes_end : read_codes u 0 prev [] ≡ halt 0
  unfolding read_codes
  codes_end = refl

  -- no code is to be read, but a byte is left
  pub codes_left : (b : ℕ) (r : List ℕ) → read_codes u 0 prev (b ∷ r) ≡ halt 8
  unfolding read_codes
  codes_left b r = refl

  -- no code is to be read, and so no slot is found, whatever stands there
  pub slots_none : (k : ℕ) → k ≤ 0 → (r : List ℕ) → (read_codes u k prev r).slots ≡ []
  slots_none (suc k) l r = absurd (omega arith)
  slots_none zero l [] = ap (λ (b : Block). b.slots) codes_end
  slots_none zero l (b ∷ r) = ap (λ (b : Block). b.slots) (codes_left b r)

  module _ (k : ℕ) (bs : List ℕ) where
    -- no code stands there
    pub codes_bad : code_of bs ≡ bad → read_codes u (suc k) prev bs ≡ halt 8
    unfolding read_codes
    codes_bad is = simp is

    module _ (v : ℕ) (r : List ℕ) (is : code_of bs ≡ code v r) where
      -- a code stands there, but its slot is above u
      pub codes_above : u < prev + v + 1 → read_codes u (suc k) prev bs ≡ halt 9
      unfolding read_codes
      codes_above l = simp (is, lt-ltb _ _ l)

      -- its slot is the next one
      pub codes_next : prev + v + 1 ≤ u → read_codes u (suc k) prev bs ≡ cons (prev + v + 1) (read_codes u k (prev + v + 1) r)
      unfolding read_codes
      codes_next l = simp (is, le-ltb _ _ l)

-- one code of several, each way that it can go
pub data CodeStep (u k prev : ℕ) (bs : List ℕ) : Block → Type 0 where
  no_code : code_of bs ≡ bad → CodeStep u k prev bs (halt 8)
  code_above : (v : ℕ) (r : List ℕ) → code_of bs ≡ code v r → u < prev + v + 1 → CodeStep u k prev bs (halt 9)
  code_next : (v : ℕ) (r : List ℕ) → code_of bs ≡ code v r → prev + v + 1 ≤ u → CodeStep u k prev bs (cons (prev + v + 1) (read_codes u k (prev + v + 1) r))

-- it goes one of these ways
pub code_step : (u k prev : ℕ) (bs : List ℕ) → CodeStep u k prev bs (read_codes u (suc k) prev bs)
code_step u k prev bs = go (code_of bs) refl
  where
    go : (c : Code) → code_of bs ≡ c → CodeStep u k prev bs (read_codes u (suc k) prev bs)
    go bad e = rw (codes_bad u prev k bs e) (no_code e)
    go (code v r) e =
        elim (dec_le (prev + v + 1) u) [
          | yes l ↦ rw (codes_next u prev k bs v r e l) (code_next v r e l)
          | no g ↦ rw (codes_above u prev k bs v r e (omega arith)) (code_above v r e (omega arith))
        ]

-- k codes are left, from position p on
module _ (u prev k : ℕ) (bs : List ℕ) (p : ℕ) where
  abbrev left : ℕ → Block
  left m = read_codes u m prev (drop p bs)

  module _ (h : k ≤ 0) where
    none : left k ≡ left 0
    none = ap left (omega arith)

    -- none is left, nor a byte
    pub turn_end : p ≡ length bs → left k ≡ halt 0
    turn_end e = none ∙ rw (nothing bs p (omega arith)) (codes_end u prev)

    -- none is left, but a byte is
    pub turn_left : p < length bs → left k ≡ halt 8
    turn_left l = none ∙ rw (front bs p (byte_at bs p) l refl) (codes_left u prev _ _)

  module _ (h : 0 < k) where
    some : left k ≡ left (suc (k - 1))
    some = ap left (omega arith)

    -- no code stands there
    pub turn_bad : bad ≡ code_of (drop p bs) → left k ≡ halt 8
    turn_bad is = some ∙ codes_bad u prev _ _ (sym is)

    module _ (v q : ℕ) (is : code v (drop q bs) ≡ code_of (drop p bs)) where
      -- the slot is above u
      pub turn_above : u < prev + v + 1 → left k ≡ halt 9
      turn_above l = some ∙ codes_above u prev _ _ v _ (sym is) l

      -- the slot is the next one
      pub turn_next : prev + v + 1 ≤ u → left k ≡ cons (prev + v + 1) (read_codes u (k - 1) (prev + v + 1) (drop q bs))
      turn_next l = some ∙ codes_next u prev _ _ v _ (sym is) l
