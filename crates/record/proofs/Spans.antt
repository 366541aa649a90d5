-- The tests before the blocks: those of the head and of the sum of the parts, that of the bits beyond the cut, then the first offset. One law for
-- each way out.
use Prim.Native.Nat.{ℕ, ◌+◌, ◌*◌, ◌-◌, ◌≤◌, ◌<◌}
use mathlib.Core.Path.{◌≡◌, refl, sym, ap, ◌∙◌}
use mathlib.Core.Bool.{Bool, true, false, ◌&&◌}
use mathlib.Core.List.{List, [], ◌∷◌}
use native.Mathlib.Omega.{arith}
use lib.Dec.{ltb, eqb}
use lib.ListN.{length, drop}
use borrow.Author.Tests.{lt-ltb, le-ltb, eq-eqb, ne_eqb, ltb-true, ltb-false}
use Rattle.paper.specs.Bytes.{u32_at, part, ceil_div}
use Rattle.paper.specs.Tail.{Tail, read_blocks, read_tail}
use Rattle.paper.specs.Record.{cut_of, bit_length, bits_of, next_bit, unused, tail_in, tail_of, fault6, fault17, record_fault}
use Rattle.laws.proofs.Parts.{length_part}
use Rattle.laws.proofs.Rounding.{bytes_hold}
use Rattle.laws.proofs.Records.{bits_part, entries_part, codes_part, pass_17, set_17}
use Rattle.laws.proofs.Tails.{tail_offset, tail_blocks, blocks_end}

fault : {s t : Tail} → s ≡ t → s.fault ≡ t.fault
fault e = ap (λ (x : Tail). x.fault) e

no_entry : (es : List ℕ) → length es ≡ 0 → u32_at es 4 ≡ 0
unfolding u32_at
no_entry [] z = refl
no_entry (e ∷ es) z = absurd (omega arith)

module _ (u B c n : ℕ) (es cs : List ℕ) (k : ℕ) (isK : k ≡ ceil_div n B) where
  -- no block: no fault
  pub no_blocks : length es ≡ 8 * k → k ≡ 0 → 0 ≡ (read_tail u B c n (length cs) es cs).fault
  no_blocks h z =
      let o = no_entry es (omega arith) in
      sym (fault (tail_blocks u B c n (length cs) es cs o ∙ ap (λ (m : ℕ). read_blocks u B (length cs) m n c 0 es cs) (sym isK ∙ z) ∙ blocks_end u B (length cs) n c 0 es cs))

  module _ (x : ℕ) (is : x ≡ u32_at es 4) where
    -- the first offset is not 0
    pub offset : ¬ (x ≡ 0) → 7 ≡ (read_tail u B c n (length cs) es cs).fault
    offset f = sym (fault (tail_offset u B c n (length cs) es cs (λ z. f (is ∙ z))))

    -- it is, and the blocks tell
    pub in_its_blocks : x ≡ 0 → (r : ℕ) → r ≡ (read_blocks u B (length cs) k n c 0 es cs).fault → r ≡ (read_tail u B c n (length cs) es cs).fault
    in_its_blocks z r e =
        e ∙ ap (λ (m : ℕ). (read_blocks u B (length cs) m n c 0 es cs).fault) isK ∙ sym (fault (tail_blocks u B c n (length cs) es cs (sym is ∙ z)))

-- all of these
pub ruleset tails = (no_blocks, offset, in_its_blocks)

-- where the parts make up the record, its bytes of bits reach up to the cut
pub bits_reach : (r : List ℕ) (c w m L : ℕ) → w ≡ ceil_div c 8 → 12 + w + 8 * m + L ≡ length r → c ≤ 8 * length (part r 12 (12 + w))
bits_reach r c w m L isW s =
    let n = length_part r 12 (12 + w) (omega arith) in
    let b = bytes_hold c in
    rw n (omega arith)

-- a record whose head says c, n and L
module _ (u B : ℕ) (r : List ℕ) (c n L : ℕ) (isC : c ≡ u32_at r 0) (isN : n ≡ u32_at r 4) (isL : L ≡ u32_at r 8) where
  abbrev tail : ℕ
  tail = (tail_in u B c n L (drop (bit_length c) (drop 12 r))).fault

  -- what stands behind 6
  abbrev behind : ℕ
  behind = fault17 c (bits_of r) tail

  chain : fault6 u B (length r) c n L behind ≡ record_fault u B (length r) r
  unfolding record_fault tail_of
  chain = rw (isC, isN, isL)

  -- the cut is above u
  pub cut_above : u < c → 6 ≡ record_fault u B (length r) r
  unfolding fault6
  cut_above l = let e : 6 ≡ fault6 u B (length r) c n L behind = simp (lt-ltb _ _ l) in e ∙ chain

  module _ (l₁ : c ≤ u) where
    -- there are more slots than places
    pub count_above : u - c < n → 6 ≡ record_fault u B (length r) r
    unfolding fault6
    count_above l = let e : 6 ≡ fault6 u B (length r) c n L behind = simp (le-ltb _ _ l₁, lt-ltb _ _ l) in e ∙ chain

    module _ (l₂ : n ≤ u - c) (t : Bool) (isT : t ≡ (eqb n 0 && ltb 0 L)) where
      -- codes without a slot
      pub stray : t ≡ true → 6 ≡ record_fault u B (length r) r
      unfolding fault6
      stray e = let e : 6 ≡ fault6 u B (length r) c n L behind = simp (le-ltb _ _ l₁, le-ltb _ _ l₂, sym isT ∙ e) in e ∙ chain

      module _ (f : t ≡ false) (w m : ℕ) (isW : w ≡ ceil_div c 8) (isM : m ≡ ceil_div n B) where
        -- the parts do not make up the record
        pub sum_wrong : ¬ (12 + w + 8 * m + L ≡ length r) → 6 ≡ record_fault u B (length r) r
        unfolding fault6
        sum_wrong d =
            let e : 6 ≡ fault6 u B (length r) c n L behind = simp (le-ltb _ _ l₁, le-ltb _ _ l₂, sym isT ∙ f, ← isW, ← isM, ne_eqb _ _ d) in
            e ∙ chain

        module _ (s : 12 + w + 8 * m + L ≡ length r) where
          through : record_fault u B (length r) r ≡ behind
          unfolding fault6
          through = sym chain ∙ simp (le-ltb _ _ l₁, le-ltb _ _ l₂, sym isT ∙ f, ← isW, ← isM, eq-eqb _ _ s)

          bytes_are : w ≡ bit_length (cut_of r)
          bytes_are = isW ∙ ap bit_length isC

          code_count : length (part r (12 + w + 8 * m) (length r)) ≡ L
          code_count = rw (length_part r (12 + w + 8 * m) (length r) (omega arith)) (omega arith)

          -- whether a bit beyond the cut is set
          module _ (e : Bool) (isE : e ≡ ltb 0 (next_bit (part r 12 (12 + w)) (c + 1) (unused c))) where
            told : e ≡ ltb 0 (next_bit (bits_of r) (c + 1) (unused c))
            told = isE ∙ ap (λ (bits : List ℕ). ltb 0 (next_bit bits (c + 1) (unused c))) (bits_part r w m bytes_are)

            -- one is
            pub stained : e ≡ true → 17 ≡ record_fault u B (length r) r
            stained y = sym (through ∙ set_17 c (bits_of r) tail (λ z. let l = ltb-true 0 (next_bit (bits_of r) (c + 1) (unused c)) (sym told ∙ y) in omega arith))

            spotless : e ≡ false → record_fault u B (length r) r ≡ tail
            spotless y = through ∙ pass_17 c (bits_of r) tail (let l = ltb-false 0 (next_bit (bits_of r) (c + 1) (unused c)) (sym told ∙ y) in omega arith)

            -- none is, and the tail tells
            pub rest : e ≡ false → (x : ℕ)
                → x
                ≡ (read_tail u B c n (length (part r (12 + w + 8 * m) (length r))) (part r (12 + w) (12 + w + 8 * m)) (part r (12 + w + 8 * m) (length r))).fault
                → x ≡ record_fault u B (length r) r
            unfolding tail_in
            rest y x i =
                rw (code_count, entries_part r w m bytes_are, codes_part r w m bytes_are, isM) at i
                ∙ sym (spotless y ∙ ap (λ (k : ℕ). (tail_in u B c n L (drop (bit_length k) (drop 12 r))).fault) isC)

-- all of these
pub ruleset heads = (cut_above, count_above, stray, sum_wrong, stained, rest)

-- both of two tests, the second one being tried only where the first passes
module _ (n : ℕ) (t : Bool) where
  -- the first passes
  pub first_passes : n ≡ 0 → t ≡ (eqb n 0 && t)
  first_passes z = rw (eq-eqb n 0 z)

  -- the first fails
  pub first_fails : ¬ (n ≡ 0) → eqb n 0 ≡ (eqb n 0 && t)
  first_fails f = rw (ne_eqb n 0 f)
