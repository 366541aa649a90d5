-- Set bits counted in several bytes at once: they are the ones of the number that the bytes spell.
use Prim.Native.Nat.{ℕ, ◌+◌, ◌-◌, ◌*◌, ◌/◌, ◌%◌, ◌^◌, ◌≤◌, ◌<◌}
use mathlib.Core.Path.{◌≡◌, refl, sym, ap, ◌∙◌}
use mathlib.Core.List.{List}
use native.Mathlib.Omega.{arith}
use lib.ListN.{length}
use lib.Count.{ones, ones_cat, ones-le}
use Rattle.paper.specs.Bytes.{byte_at, u32_at}
use Rattle.paper.specs.Lists.{keep, up_from}
use Rattle.paper.specs.Record.{slots_to_cut}
use Rattle.laws.proofs.Parts.{AllBytes}
use Rattle.laws.proofs.Words.{word_bound}
use Rattle.words.proofs.Ones.{turn, byte_ones}

module _ (bits : List ℕ) where
  -- the w bytes from i on have as many set bits as the number v has ones
  abbrev AsMany : ℕ → ℕ → ℕ → Type 0
  AsMany i w v = length (slots_to_cut (8 * (i + w)) bits) ≡ length (slots_to_cut (8 * i) bits) + ones v

  -- bytes, and those behind them: the number of the first has w bytes, and the second number stands above it
  join : (i w k v x : ℕ) → v < 2 ^ (8 * w) → AsMany i w v → AsMany (i + w) k x → AsMany i (w + k) (x * 2 ^ (8 * w) + v)
  join i w k v x l p q =
      let e : i + (w + k) ≡ i + w + k = omega arith in
      rw (e, ones_cat (8 * w) x v l) (omega arith)

  module _ (all : AllBytes bits) where
    one : (i : ℕ) → AsMany i 1 (byte_at bits i)
    one i = sym (turn bits i _ (ones (byte_at bits i)) refl (byte_ones (byte_at bits i) (all i)))

    four : (i : ℕ) → AsMany i 4 (u32_at bits i)
    unfolding u32_at
    four i =
        let b₀ = byte_at bits i in
        let b₁ = byte_at bits (i + 1) in
        let b₂ = byte_at bits (i + 2) in
        let b₃ = byte_at bits (i + 3) in
        let l₀ = all i in
        let l₁ = all (i + 1) in
        let l₂ = all (i + 2) in
        let two = join i 1 1 b₀ b₁ l₀ (one i) (one (i + 1)) in
        let three = join i 2 1 (b₁ * 256 + b₀) b₂ (omega arith) two (one (i + 2)) in
        let all-four = join i 3 1 (b₂ * 65536 + (b₁ * 256 + b₀)) b₃ (omega arith) three (one (i + 3)) in
        let e : b₃ * 16777216 + (b₂ * 65536 + (b₁ * 256 + b₀)) ≡ b₀ + 256 * b₁ + 65536 * b₂ + 16777216 * b₃ = omega arith in
        rw e at all-four

    pub eight : (i : ℕ) → AsMany i 8 (u32_at bits i + 4294967296 * u32_at bits (i + 4))
    eight i =
        let e : u32_at bits (i + 4) * 4294967296 + u32_at bits i ≡ u32_at bits i + 4294967296 * u32_at bits (i + 4) = omega arith in
        rw e at (join i 4 4 (u32_at bits i) (u32_at bits (i + 4)) (word_bound bits i all) (four i) (four (i + 4)))

-- what holds where `turn` eights have been counted
pub record Eighths (bits : List ℕ) (turn n : ℕ) : Type 0 where
  pub so : n ≡ length (slots_to_cut (64 * turn) bits)
  pub few : n ≤ 64 * turn

pub eights_begin : (bits : List ℕ) → Eighths bits 0 0
unfolding slots_to_cut keep up_from
eights_begin bits = record { so = refl; few = omega arith }

module _ (bits : List ℕ) (turn n : ℕ) (h : Eighths bits turn n) where
  -- eight bytes more
  pub eights_on : AllBytes bits → (v r : ℕ) → v < 18446744073709551616 → v ≡ u32_at bits (8 * turn) + 4294967296 * u32_at bits (8 * turn + 4) → r ≡ ones v
      → Eighths bits (turn + 1) (n + r)
  eights_on all v r small spells counts =
      let c = eight bits all (8 * turn) in
      let k : r ≡ ones (u32_at bits (8 * turn) + 4294967296 * u32_at bits (8 * turn + 4)) = counts ∙ ap ones spells in
      let e : 8 * (8 * turn) ≡ 64 * turn = omega arith in
      let f : 8 * (8 * turn + 8) ≡ 64 * (turn + 1) = omega arith in
      let d : length (slots_to_cut (64 * (turn + 1)) bits) ≡ length (slots_to_cut (64 * turn) bits) + ones (u32_at bits (8 * turn) + 4294967296 * u32_at bits (8 * turn + 4)) = rw (e, f) at c in
      record { so = omega (arith, h.so, k, d); few = omega (arith, h.few, ones-le 64 v (omega arith), counts) }

  -- all whose last byte lies before `to` are counted
  pub eights_end : (to : ℕ) → to / 8 ≤ turn → turn ≤ to / 8 → (n ≡ length (slots_to_cut (8 * (to - to % 8)) bits)) × (n ≤ 8 * (to - to % 8))
  eights_end to a b = let e : 64 * turn ≡ 8 * (to - to % 8) = omega arith in (rw e at h.so, rw e at h.few)

-- what the goals of `ones_by_eights` go by
pub ruleset steps = (eights_begin, eights_end)
