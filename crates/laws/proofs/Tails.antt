-- The blocks of a tail, step by step: what is left to read after one block, over `suc k`; then over `0 < k` and positions, as a loop that
-- counts down has it: entries are left from byte e on, code bytes from offset a on.
use Prim.Native.Nat.{ℕ, suc, ◌+◌, ◌-◌, ◌≤◌, ◌<◌, min}
use mathlib.Core.Path.{◌≡◌, refl, sym, ap, ◌∙◌}
use mathlib.Core.List.{List, ◌∷◌}
use native.Mathlib.Decide.{dec_le, dec_lt, ℕ_discrete}
use native.Mathlib.Omega.{arith}
use lib.ListN.{take, drop}
use lib.Seq.{drop-drop}
use borrow.Author.Tests.{lt-ltb, le-ltb, le-leb, lt-leb, eq-eqb, ne_eqb}
use Rattle.paper.specs.Lists.{last_of}
use Rattle.paper.specs.Bytes.{u32_at, part}
use Rattle.paper.specs.Block.{Block, read_codes}
use Rattle.paper.specs.Tail.{Tail, stop, join, block_count, first_slot, offset_of, end_of, read_blocks, read_tail}
use Rattle.laws.proofs.Words.{word_drop}

module _ (u B L : ℕ) where
  pub blocks_end : (n prev a : ℕ) (es cs : List ℕ) → read_blocks u B L 0 n prev a es cs ≡ stop 0
  unfolding read_blocks
  blocks_end n prev a es cs = refl

  module _ (k n prev a : ℕ) (es cs : List ℕ) (first z : ℕ) (is_f : first ≡ first_slot es 0) (is_z : z ≡ end_of L es k) where
    -- the codes of the block at the front
    abbrev inner : Block
    inner = read_codes u (min B n - 1) first (take (z - a) cs)

    pub blocks_back : z < a → read_blocks u B L (suc k) n prev a es cs ≡ stop 7
    unfolding read_blocks
    blocks_back l = simp (← is_z, lt-ltb _ _ l)

    module _ (l₁ : a ≤ z) where
      pub blocks_beyond : L < z → read_blocks u B L (suc k) n prev a es cs ≡ stop 7
      unfolding read_blocks
      blocks_beyond l = simp (← is_z, le-ltb _ _ l₁, lt-ltb _ _ l)

      module _ (l₂ : z ≤ L) where
        pub blocks_low : first ≤ prev → read_blocks u B L (suc k) n prev a es cs ≡ stop 9
        unfolding read_blocks
        blocks_low l = simp (← is_f, ← is_z, le-ltb _ _ l₁, le-ltb _ _ l₂, le-leb _ _ l)

        module _ (l₃ : prev < first) where
          pub blocks_high : u < first → read_blocks u B L (suc k) n prev a es cs ≡ stop 9
          unfolding read_blocks
          blocks_high l = simp (← is_f, ← is_z, le-ltb _ _ l₁, le-ltb _ _ l₂, lt-leb _ _ l₃, lt-ltb _ _ l)

          module _ (l₄ : first ≤ u) where
            pub blocks_bad : ¬ (inner.fault ≡ 0) → read_blocks u B L (suc k) n prev a es cs ≡ stop inner.fault
            unfolding read_blocks
            blocks_bad f = simp (← is_f, ← is_z, le-ltb _ _ l₁, le-ltb _ _ l₂, lt-leb _ _ l₃, le-ltb _ _ l₄, ne_eqb _ _ f)

            pub blocks_next : inner.fault ≡ 0
                → read_blocks u B L (suc k) n prev a es cs
                ≡ join (first ∷ inner.slots) (read_blocks u B L k (n - B) (last_of first inner.slots) z (drop 8 es) (drop (z - a) cs))
            unfolding read_blocks
            blocks_next f = simp (← is_f, ← is_z, le-ltb _ _ l₁, le-ltb _ _ l₂, lt-leb _ _ l₃, le-ltb _ _ l₄, eq-eqb _ _ f)

-- one block of several, each way that it can go: it begins with the slot first, and its codes end at z
pub data BlockStep (u B L k n prev a : ℕ) (es cs : List ℕ) (first z : ℕ) : Tail → Type 0 where
  step_back : z < a → BlockStep u B L k n prev a es cs first z (stop 7)
  step_beyond : a ≤ z → L < z → BlockStep u B L k n prev a es cs first z (stop 7)
  step_low : a ≤ z → z ≤ L → first ≤ prev → BlockStep u B L k n prev a es cs first z (stop 9)
  step_high : a ≤ z → z ≤ L → prev < first → u < first → BlockStep u B L k n prev a es cs first z (stop 9)
  step_bad : a ≤ z → z ≤ L → prev < first → first ≤ u → ¬ ((read_codes u (min B n - 1) first (take (z - a) cs)).fault ≡ 0)
      → BlockStep u B L k n prev a es cs first z (stop (read_codes u (min B n - 1) first (take (z - a) cs)).fault)
  step_next : a ≤ z → z ≤ L → prev < first → first ≤ u → (read_codes u (min B n - 1) first (take (z - a) cs)).fault ≡ 0
      → BlockStep u B L k n prev a es cs first z
      (join (first ∷ (read_codes u (min B n - 1) first (take (z - a) cs)).slots)
      (read_blocks u B L k (n - B) (last_of first (read_codes u (min B n - 1) first (take (z - a) cs)).slots) z (drop 8 es) (drop (z - a) cs)))

-- it goes one of these ways
pub block_step : (u B L k n prev a : ℕ) (es cs : List ℕ) (first z : ℕ) → first ≡ first_slot es 0 → z ≡ end_of L es k
    → BlockStep u B L k n prev a es cs first z (read_blocks u B L (suc k) n prev a es cs)
block_step u B L k n prev a es cs first z is_f is_z =
    go (dec_le a z) (dec_le z L) (dec_lt prev first) (dec_le first u) (ℕ_discrete (read_codes u (min B n - 1) first (take (z - a) cs)).fault 0)
  where
    go : Dec (a ≤ z) → Dec (z ≤ L) → Dec (prev < first) → Dec (first ≤ u) → Dec ((read_codes u (min B n - 1) first (take (z - a) cs)).fault ≡ 0)
        → BlockStep u B L k n prev a es cs first z (read_blocks u B L (suc k) n prev a es cs)
    go (no g) d₂ d₃ d₄ d₅ = rw (blocks_back u B L k n prev a es cs first z is_f is_z (omega arith)) (step_back (omega arith))
    go (yes l₁) (no g) d₃ d₄ d₅ = rw (blocks_beyond u B L k n prev a es cs first z is_f is_z l₁ (omega arith)) (step_beyond l₁ (omega arith))
    go (yes l₁) (yes l₂) (no g) d₄ d₅ = rw (blocks_low u B L k n prev a es cs first z is_f is_z l₁ l₂ (omega arith)) (step_low l₁ l₂ (omega arith))
    go (yes l₁) (yes l₂) (yes l₃) (no g) d₅ = rw (blocks_high u B L k n prev a es cs first z is_f is_z l₁ l₂ l₃ (omega arith)) (step_high l₁ l₂ l₃ (omega arith))
    go (yes l₁) (yes l₂) (yes l₃) (yes l₄) (no g) = rw (blocks_bad u B L k n prev a es cs first z is_f is_z l₁ l₂ l₃ l₄ g) (step_bad l₁ l₂ l₃ l₄ g)
    go (yes l₁) (yes l₂) (yes l₃) (yes l₄) (yes f) = rw (blocks_next u B L k n prev a es cs first z is_f is_z l₁ l₂ l₃ l₄ f) (step_next l₁ l₂ l₃ l₄ f)

-- the entry at byte e of the entries
pub first_at : (es : List ℕ) (e : ℕ) → first_slot (drop e es) 0 ≡ u32_at es e
first_at es e = word_drop e es 0 ∙ ap (u32_at es) (omega arith)

-- k blocks with n slots are left: their entries from byte e on, their codes from offset a on
module _ (u B L k n prev e a : ℕ) (es cs : List ℕ) where
  abbrev left : ℕ → Tail
  left m = read_blocks u B L m n prev a (drop e es) (drop a cs)

  pub turn_end : k ≤ 0 → left k ≡ stop 0
  turn_end h = let z : k ≡ 0 = omega arith in ap left z ∙ blocks_end u B L n prev a _ _

  module _ (h : 0 < k) (first z : ℕ) (is_f : first ≡ u32_at es e) (is_z : z ≡ end_of L (drop e es) (k - 1)) where
    some : left k ≡ left (suc (k - 1))
    some = ap left (omega arith)

    is_f' : first ≡ first_slot (drop e es) 0
    is_f' = is_f ∙ sym (first_at es e)

    -- the codes of that block
    abbrev block_read : Block
    block_read = read_codes u (min B n - 1) first (part cs a z)

    pub turn_back : z < a → left k ≡ stop 7
    turn_back l = some ∙ blocks_back u B L _ n prev a _ _ first z is_f' is_z l

    module _ (l₁ : a ≤ z) where
      pub turn_beyond : L < z → left k ≡ stop 7
      turn_beyond l = some ∙ blocks_beyond u B L _ n prev a _ _ first z is_f' is_z l₁ l

      module _ (l₂ : z ≤ L) where
        pub turn_low : first ≤ prev → left k ≡ stop 9
        turn_low l = some ∙ blocks_low u B L _ n prev a _ _ first z is_f' is_z l₁ l₂ l

        module _ (l₃ : prev < first) where
          pub turn_high : u < first → left k ≡ stop 9
          turn_high l = some ∙ blocks_high u B L _ n prev a _ _ first z is_f' is_z l₁ l₂ l₃ l

          module _ (l₄ : first ≤ u) where
            pub turn_bad : ¬ (block_read.fault ≡ 0) → left k ≡ stop block_read.fault
            turn_bad f = some ∙ blocks_bad u B L _ n prev a _ _ first z is_f' is_z l₁ l₂ l₃ l₄ f

            codes_on : drop (z - a) (drop a cs) ≡ drop z cs
            codes_on = let on : a + (z - a) ≡ z = omega arith in drop-drop (z - a) a cs ∙ ap (λ (i : ℕ). drop i cs) on

            pub turn_next : block_read.fault ≡ 0
                → left k ≡ join (first ∷ block_read.slots) (read_blocks u B L (k - 1) (n - B) (last_of first block_read.slots) z (drop (e + 8) es) (drop z cs))
            turn_next f = some ∙ blocks_next u B L _ n prev a _ _ first z is_f' is_z l₁ l₂ l₃ l₄ f ∙ rw (drop-drop 8 e es, codes_on)

-- the whole tail: its first offset, then its blocks
module _ (u B c n L : ℕ) (es cs : List ℕ) where
  pub tail_offset : ¬ (offset_of es 0 ≡ 0) → read_tail u B c n L es cs ≡ stop 7
  unfolding read_tail
  tail_offset f = simp (ne_eqb _ _ f)

  pub tail_blocks : offset_of es 0 ≡ 0 → read_tail u B c n L es cs ≡ read_blocks u B L (block_count B n) n c 0 es cs
  unfolding read_tail
  tail_blocks e = simp (eq-eqb _ _ e)
