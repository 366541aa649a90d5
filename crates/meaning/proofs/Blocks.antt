-- The codes of a block and the blocks of a tail that are read without a fault: what each block is, by its number.
use Prim.Native.Nat.{ℕ, zero, suc, ◌+◌, ◌-◌, ◌*◌, ◌≤◌, ◌<◌, min}
use mathlib.Core.Path.{◌≡◌, refl, sym, ap, ◌∙◌}
use mathlib.Core.List.{List, [], ◌∷◌}
use native.Mathlib.Omega.{arith}
use lib.ListN.{length, drop}
use lib.Dec.{eqb, eqb-suc-zero}
use lib.Seq.{drop-drop}
use borrow.Author.Tests.{eq-eqb, ne_eqb}
use Rattle.paper.specs.Lists.{pick, last_of}
use Rattle.paper.specs.Bytes.{u32_at, part}
use Rattle.paper.specs.Block.{Block, read_codes}
use Rattle.paper.specs.Tail.{Tail, join, first_slot, offset_of, end_of, read_blocks}
use Rattle.laws.proofs.Words.{word_drop}
use Rattle.laws.proofs.Rounding.{behind_block}
use Rattle.laws.proofs.Blocks.{codes_end, codes_left, CodeStep, code_step}
use Rattle.laws.proofs.Blocks.CodeStep.{no_code, code_above, code_next}
use Rattle.laws.proofs.Tails.{blocks_end, BlockStep, block_step, first_at}
use Rattle.laws.proofs.Tails.BlockStep.{step_back, step_beyond, step_low, step_high, step_bad, step_next}
use Rattle.meaning.proofs.Rising.{Ascends}

-- the slots of a sound block behind its first: as many as there are codes, ascending from the first
pub codes_count : (u k prev : ℕ) (bs : List ℕ) → (read_codes u k prev bs).fault ≡ 0 → length (read_codes u k prev bs).slots ≡ k
codes_count u zero prev [] ok = rw (codes_end u prev)
codes_count u zero prev (b ∷ r) ok = absurd (let f = rw (codes_left u prev b r) at ok in omega arith)
codes_count u (suc k) prev bs ok = go _ (code_step u k prev bs) ok (λ p r f. codes_count u k p r f)
  where
    go : (b : Block) → CodeStep u k prev bs b → b.fault ≡ 0
        → ((p : ℕ) (r : List ℕ) → (read_codes u k p r).fault ≡ 0 → length (read_codes u k p r).slots ≡ k) → length b.slots ≡ suc k
    go b (no_code e) ok rec = absurd (omega arith)
    go b (code_above v r e l) ok rec = absurd (omega arith)
    go b (code_next v r e l) ok rec = ap suc (rec _ _ ok)

-- they ascend
pub codes_rise : (u k prev : ℕ) (bs : List ℕ) → (read_codes u k prev bs).fault ≡ 0 → Ascends u prev (read_codes u k prev bs).slots
codes_rise u zero prev [] ok = rw (codes_end u prev) tt
codes_rise u zero prev (b ∷ r) ok = absurd (let f = rw (codes_left u prev b r) at ok in omega arith)
codes_rise u (suc k) prev bs ok = go _ (code_step u k prev bs) ok (λ p r f. codes_rise u k p r f)
  where
    go : (b : Block) → CodeStep u k prev bs b → b.fault ≡ 0
        → ((p : ℕ) (r : List ℕ) → (read_codes u k p r).fault ≡ 0 → Ascends u p (read_codes u k p r).slots) → Ascends u prev b.slots
    go b (no_code e) ok rec = absurd (omega arith)
    go b (code_above v r e l) ok rec = absurd (omega arith)
    go b (code_next v r e l) ok rec = (omega arith, l, rec _ _ ok)

-- Where the codes of block b end, of m blocks: at the next block's offset, or at L
abbrev pub block_end : ℕ → ℕ → List ℕ → ℕ → ℕ
block_end L m es b = pick (eqb (b + 1) m) L (offset_of es (b + 1))

-- those of the last block
pub end_last : (L m : ℕ) (es : List ℕ) (b : ℕ) → b + 1 ≡ m → block_end L m es b ≡ L
end_last L m es b e = simp (eq-eqb _ _ e)

-- those of a block that is not the last
pub end_next : (L m : ℕ) (es : List ℕ) (b : ℕ) → b + 1 < m → block_end L m es b ≡ offset_of es (b + 1)
end_next L m es b l = let n : ¬ (b + 1 ≡ m) = omega arith in simp (ne_eqb _ _ n)

-- the reader's own word for it
end_is : (L m : ℕ) (es : List ℕ) (b k : ℕ) → b + suc k ≡ m → block_end L m es b ≡ end_of L (drop (8 * b) es) k
end_is L m es b zero e = end_last L m es b (omega arith)
end_is L m es b (suc k) e =
    let on : 8 * (b + 1) + 4 ≡ 8 * b + 12 = omega arith in
    rw (eqb-suc-zero k) (end_next L m es b (omega arith) ∙ ap (u32_at es) on ∙ sym (word_drop (8 * b) es 12))

-- the codes of block b, of n slots in blocks of B
abbrev pub codes_read : (u B L m n : ℕ) (es cs : List ℕ) → ℕ → Block
codes_read u B L m n es cs b = read_codes u (min B (n - b * B) - 1) (first_slot es b) (part cs (offset_of es b) (block_end L m es b))

-- block b is xs: its codes lie in order and within L, its first slot is within u, and its codes give the others
pub record BlockIs (u B L m n : ℕ) (es cs : List ℕ) (b : ℕ) (xs : List ℕ) : Type 0 where
  pub number : b < m
  pub forward : offset_of es b ≤ block_end L m es b
  pub within : block_end L m es b ≤ L
  pub low : first_slot es b ≤ u
  pub sound : (codes_read u B L m n es cs b).fault ≡ 0
  pub is : xs ≡ first_slot es b ∷ (codes_read u B L m n es cs b).slots

module _ (u B L m n : ℕ) (es cs : List ℕ) (pos : 1 ≤ B) where
  -- the blocks from block b on, up to the last of m, each above all that stands before it
  abbrev pub Chain : ℕ → ℕ → List (List ℕ) → Type 0
  Chain b prev [] = b ≡ m
  Chain b prev (xs ∷ bl) = BlockIs u B L m n es cs b xs × (prev < first_slot es b) × Chain (b + 1) (last_of prev xs) bl

  -- reading them, k being left
  abbrev left : ℕ → ℕ → ℕ → ℕ → Tail
  left k b prev a = read_blocks u B L k (n - b * B) prev a (drop (8 * b) es) (drop a cs)

  -- One block of several that are read without a fault
  record NextBlock (k b prev : ℕ) : Type 0 where
    one : BlockIs u B L m n es cs b (first_slot es b ∷ (codes_read u B L m n es cs b).slots)
    above : prev < first_slot es b
    is : left (suc k) b prev (offset_of es b)
        ≡ join (first_slot es b ∷ (codes_read u B L m n es cs b).slots)
        (left k (b + 1) (last_of (first_slot es b) (codes_read u B L m n es cs b).slots) (block_end L m es b))

  module _ (k b prev : ℕ) (here : b + suc k ≡ m) where
    abbrev all : Tail
    all = left (suc k) b prev (offset_of es b)

    abbrev first : ℕ
    first = first_slot es b

    abbrev a : ℕ
    a = offset_of es b

    abbrev z : ℕ
    z = block_end L m es b

    is_f : first ≡ first_slot (drop (8 * b) es) 0
    is_f = sym (first_at es (8 * b))

    is_z : z ≡ end_of L (drop (8 * b) es) k
    is_z = end_is L m es b k here

    entries_on : drop 8 (drop (8 * b) es) ≡ drop (8 * (b + 1)) es
    entries_on = let on : 8 * b + 8 ≡ 8 * (b + 1) = omega arith in drop-drop 8 (8 * b) es ∙ ap (λ (i : ℕ). drop i es) on

    codes_on : a ≤ z → drop (z - a) (drop a cs) ≡ drop z cs
    codes_on l = let on : a + (z - a) ≡ z = omega arith in drop-drop (z - a) a cs ∙ ap (λ (i : ℕ). drop i cs) on

    -- none of the tests of the block has failed
    next_block : all.fault ≡ 0 → NextBlock k b prev
    next_block ok = go _ (block_step u B L k (n - b * B) prev a _ _ first z is_f is_z) refl ok
      where
        go : (t : Tail) → BlockStep u B L k (n - b * B) prev a (drop (8 * b) es) (drop a cs) first z t → all ≡ t → t.fault ≡ 0 → NextBlock k b prev
        go t (step_back l) e ok = absurd (omega arith)
        go t (step_beyond l₁ l) e ok = absurd (omega arith)
        go t (step_low l₁ l₂ l) e ok = absurd (omega arith)
        go t (step_high l₁ l₂ l₃ l) e ok = absurd (omega arith)
        go t (step_bad l₁ l₂ l₃ l₄ g) e ok = absurd (g ok)
        go t (step_next l₁ l₂ l₃ l₄ f) e ok =
            record {
              one = record { number = omega arith; forward = l₁; within = l₂; low = l₄; sound = f; is = refl };
              above = l₃;
              is = e ∙ rw (entries_on, codes_on l₁, behind_block n B b);
            }

  -- THE BLOCKS: read without a fault, they are the chain
  pub blocks_sound : (k b prev a : ℕ) → b + k ≡ m → (0 < k → a ≡ offset_of es b) → (left k b prev a).fault ≡ 0 → Chain b prev (left k b prev a).blocks
  blocks_sound zero b prev a e h ok = rw (blocks_end u B L (n - b * B) prev a _ _) (omega arith)
  blocks_sound (suc k) b prev a e h ok =
      let at : a ≡ offset_of es b = h (omega arith) in
      let t = next_block k b prev e (rw at at ok) in
      let later : (left k (b + 1) (last_of (first_slot es b) (codes_read u B L m n es cs b).slots) (block_end L m es b)).fault ≡ 0
      = sym (ap (λ (t : Tail). t.fault) t.is) ∙ (rw at at ok) in
      rw (at, t.is) (t.one, t.above, blocks_sound k (b + 1) _ _ (omega arith) (λ l. end_next L m es b (omega arith)) later)
