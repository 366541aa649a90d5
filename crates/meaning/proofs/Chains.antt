-- A chain of sound blocks: how many slots, that they ascend, the next slot from one on, and that the blocks' first slots rise.
use Prim.Native.Nat.{ℕ, zero, suc, ◌+◌, ◌-◌, ◌*◌, ◌≤◌, ◌<◌, min}
use mathlib.Core.Path.{◌≡◌, refl, ap, ◌∙◌}
use mathlib.Core.List.{List, [], ◌∷◌, ◌++◌, flatten}
use native.Mathlib.Omega.{arith}
use lib.Dec.{ltb, eqb}
use lib.ListN.{length, get_or, length-append}
use borrow.Author.Tests.{lt-ltb, le-ltb}
use Rattle.paper.specs.Lists.{pick, first_from, last_of}
use Rattle.paper.specs.Tail.{block_count, first_slot}
use Rattle.laws.proofs.Lists.{first_none, first_here, first_joined, first_behind}
use Rattle.laws.proofs.Rounding.{rounds_ceil, rounds_left, behind_block}
use Rattle.meaning.proofs.Rising.{Ascends, rise_join, last_most, first_after}
use Rattle.meaning.proofs.Blocks.{BlockIs, Chain, codes_read, codes_count, codes_rise}

-- block b of a list of blocks, and nothing past the last
abbrev pub block_at : List (List ℕ) → ℕ → List ℕ
block_at bl b = get_or bl b []

-- all slots of the blocks, one block at a time
slots_none : flatten {A = ℕ} [] ≡ []
unfolding flatten
slots_none = refl

-- a block, and then the others
slots_next : (xs : List ℕ) (bl : List (List ℕ)) → flatten (xs ∷ bl) ≡ xs ++ flatten bl
unfolding flatten
slots_next xs bl = refl

module _ (u B L m n : ℕ) (es cs : List ℕ) where
  -- one block: it ascends within u, from its first slot, and has as many slots as are left to it
  module _ (b : ℕ) (xs : List ℕ) (t : BlockIs u B L m n es cs b xs) where
    -- it ascends
    block_rise : (prev : ℕ) → prev < first_slot es b → Ascends u prev xs
    block_rise prev l = rw t.is (l, t.low, codes_rise u _ _ _ t.sound)

    -- it has B slots, or as many as are left
    pub count_of_block : 1 ≤ B → 1 ≤ n - b * B → length xs ≡ min B (n - b * B)
    count_of_block pos l =
        let e = codes_count u _ _ _ t.sound in
        let s : suc (min B (n - b * B) - 1) ≡ min B (n - b * B) = omega arith in
        ap length t.is ∙ ap suc e ∙ s

module _ (u B L m n : ℕ) (es cs : List ℕ) (pos : 1 ≤ B) where
  abbrev From : ℕ → ℕ → List (List ℕ) → Type 0
  From b prev bl = Chain u B L m n es cs pos b prev bl

  -- how many there are
  pub chain_length : (bl : List (List ℕ)) (b prev : ℕ) → From b prev bl → b + length bl ≡ m
  chain_length [] b prev c = omega arith
  chain_length (xs ∷ bl) b prev c = let r = chain_length bl (b + 1) (last_of prev xs) c.2 in omega arith

  -- their slots ascend
  pub chain_rise : (bl : List (List ℕ)) (b prev : ℕ) → From b prev bl → Ascends u prev (flatten bl)
  chain_rise [] b prev c = rw slots_none tt
  chain_rise (xs ∷ bl) b prev c =
      rw slots_next
      (rise_join u prev xs (flatten bl) (block_rise u B L m n es cs b xs c.0 prev c.1) (chain_rise bl (b + 1) (last_of prev xs) c.2))

  -- each by its number
  pub chain_block : (bl : List (List ℕ)) (b prev i : ℕ) → From b prev bl → b + i < m → BlockIs u B L m n es cs (b + i) (block_at bl i)
  chain_block [] b prev i c l = absurd (omega arith)
  chain_block (xs ∷ bl) b prev zero c l = let e : b + 0 ≡ b = omega arith in rw e c.0
  chain_block (xs ∷ bl) b prev (suc i) c l =
      let e : b + suc i ≡ b + 1 + i = omega arith in
      rw e (chain_block bl (b + 1) (last_of prev xs) i c.2 (omega arith))

  -- all first slots are above what stands before
  pub chain_above : (bl : List (List ℕ)) (b prev i : ℕ) → From b prev bl → b + i < m → prev < first_slot es (b + i)
  chain_above [] b prev i c l = absurd (omega arith)
  chain_above (xs ∷ bl) b prev zero c l = let e : b + 0 ≡ b = omega arith in rw e c.1
  chain_above (xs ∷ bl) b prev (suc i) c l =
      let e : b + suc i ≡ b + 1 + i = omega arith in
      let r = chain_above bl (b + 1) (last_of prev xs) i c.2 (omega arith) in
      let p = last_most u prev xs (block_rise u B L m n es cs b xs c.0 prev c.1) in
      rw e (omega arith)

  -- as many slots as were said
  pub chain_count : m ≡ block_count B n → (bl : List (List ℕ)) (b prev : ℕ) → From b prev bl → length (flatten bl) ≡ n - b * B
  chain_count e [] b prev c =
      let h = (rounds_ceil n B pos).0 in
      let bm : b * B ≡ block_count B n * B = ap (λ (i : ℕ). i * B) (c ∙ e) in
      rw slots_none (omega arith)
  chain_count e (xs ∷ bl) b prev c =
      let some = rounds_left n B (block_count B n) (rounds_ceil n B pos) b (let l = c.0.number in omega arith) in
      let one = count_of_block u B L m n es cs b xs c.0 pos some in
      let rest = chain_count e bl (b + 1) (last_of prev xs) c.2 in
      let on = behind_block n B b in
      rw (slots_next, length-append) (omega arith)

  -- from x on, where block b and those behind it begin no lower: the first slot of block b, where there is one
  pub chain_next : (x : ℕ) (bl : List (List ℕ)) (b prev : ℕ) → From b prev bl → (b < m → x ≤ first_slot es b)
      → first_from x (flatten bl) ≡ pick (ltb b m) (first_slot es b) 0
  chain_next x [] b prev c l = rw (slots_none, le-ltb b m (omega arith)) (first_none x)
  chain_next x (xs ∷ bl) b prev c l =
      let i = c.0.is in
      rw (slots_next, i, lt-ltb b m c.0.number) (first_here x (first_slot es b) _ (l c.0.number))

  -- and where block b + i begins no higher than x, and the next block above it: that of block b + i, or else the first slot of the next block
  pub chain_from : (x : ℕ) → 0 < x → (bl : List (List ℕ)) (b prev i : ℕ) → From b prev bl → b + i < m → first_slot es (b + i) ≤ x
      → (b + i + 1 < m → x ≤ first_slot es (b + i + 1))
      → first_from x (flatten bl) ≡ pick (eqb (first_from x (block_at bl i)) 0) (pick (ltb (b + i + 1) m) (first_slot es (b + i + 1)) 0) (first_from x (block_at bl i))
  chain_from x p [] b prev i c l f h = absurd (omega arith)
  chain_from x p (xs ∷ bl) b prev zero c l f h =
      let e : b + 0 + 1 ≡ b + 1 = omega arith in
      rw (slots_next, e) (first_joined x p xs (flatten bl) ∙ rw (chain_next x bl (b + 1) (last_of prev xs) c.2 (rw e at h)))
  chain_from x p (xs ∷ bl) b prev (suc i) c l f h =
      let e : b + suc i ≡ b + 1 + i = omega arith in
      let r = block_rise u B L m n es cs b xs c.0 prev c.1 in
      let a = chain_above bl (b + 1) (last_of prev xs) i c.2 (omega arith) in
      let f' = rw e at f in
      rw (slots_next, e)
      (first_behind x p xs (flatten bl) (first_after u prev x xs r (omega arith)) ∙ chain_from x p bl (b + 1) (last_of prev xs) i c.2 (omega arith) f' (rw e at h))

  -- a block begins with its first slot, and ends below the next block's
  chain_gap : (bl : List (List ℕ)) (b prev i : ℕ) → From b prev bl → b + i + 1 < m → last_of 0 (block_at bl i) < first_slot es (b + i + 1)
  chain_gap [] b prev i c l = absurd (omega arith)
  chain_gap (xs ∷ bl) b prev zero c l =
      let a = chain_above bl (b + 1) (last_of prev xs) 0 c.2 (omega arith) in
      let e : b + 1 + 0 ≡ b + 0 + 1 = omega arith in
      let i = c.0.is in
      rw i (rw (i, e) at a)
  chain_gap (xs ∷ bl) b prev (suc i) c l =
      let e : b + suc i ≡ b + 1 + i = omega arith in
      rw e (chain_gap bl (b + 1) (last_of prev xs) i c.2 (omega arith))

  -- so first slots rise
  pub chain_first : (bl : List (List ℕ)) (b prev i : ℕ) → From b prev bl → b + i + 1 < m → first_slot es (b + i) < first_slot es (b + i + 1)
  chain_first bl b prev i c l =
      let g = chain_gap bl b prev i c l in
      let t = chain_block bl b prev i c (omega arith) in
      let slots = (codes_read u B L m n es cs (b + i)).slots in
      let h : last_of (first_slot es (b + i)) slots < first_slot es (b + i + 1) = rw t.is at g in
      let s : first_slot es (b + i) ≤ last_of (first_slot es (b + i)) slots = last_most u _ slots (codes_rise u _ _ _ t.sound) in
      omega arith
