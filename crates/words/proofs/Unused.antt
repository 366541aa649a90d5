-- The bits beyond a cut, by the mask that has a 1 for each of them.
use Prim.Native.Nat.{ℕ, ◌+◌, ◌-◌, ◌*◌, ◌/◌, ◌%◌, ◌^◌, ◌≤◌, ◌<◌}
use mathlib.Core.Path.{◌≡◌, refl, ap, ◌∙◌}
use mathlib.Core.Bool.{false}
use mathlib.Core.List.{List}
use native.Mathlib.Omega.{arith}
use lib.Bits.{bit_and, and_mask}
use lib.Dec.{ltb}
use lib.Pow.{suc_ones, shl_exact}
use Rattle.paper.specs.Bytes.{byte_at, ceil_div}
use Rattle.paper.specs.Record.{next_bit, unused}
use Rattle.laws.proofs.Bits.{unused_low}

-- a 1 moved up by s places of a byte
moved : (s : ℕ) → s < 8 → 1 * 2 ^ s % 256 ≡ 2 ^ s
moved s l = shl_exact 1 s 8 (omega arith) (omega arith) ∙ omega arith

-- it is there still, so that the mask can be made of it
pub moved_some : (s : ℕ) → s < 8 → 1 ≤ 1 * 2 ^ s % 256
moved_some s l = let p = suc_ones s in rw (moved s l) (omega arith)

module _ (bits : List ℕ) (c : ℕ) where
  -- without bytes of bits there is none
  pub none_beyond : c ≡ 0 → false ≡ ltb 0 (next_bit bits (c + 1) (unused c))
  unfolding next_bit ceil_div
  none_beyond z = rw z refl

  -- else those that the mask leaves of the cut's own byte
  pub masked : 0 < c
      → ltb 0 (bit_and (byte_at bits ((c - 1) / 8)) (1 * 2 ^ (7 - (c - 1) % 8) % 256 - 1)) ≡ ltb 0 (next_bit bits (c + 1) (unused c))
  masked l =
      let s = 7 - (c - 1) % 8 in
      let b = byte_at bits ((c - 1) / 8) in
      ap (λ (m : ℕ). ltb 0 (bit_and b (m - 1))) (moved s (omega arith)) ∙ ap (ltb 0) (and_mask b s) ∙ unused_low bits c l

-- what the goals of `rubbish` go by
pub ruleset unused_bits = (moved_some, none_beyond, masked)
