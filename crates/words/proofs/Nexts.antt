-- The next set bit, as code looks for it: runs of bits that are not set, and the turns of the loop.
use Prim.Native.Nat.{ℕ, zero, suc, ◌+◌, ◌-◌, ◌*◌, ◌/◌, ◌≤◌, ◌<◌}
use mathlib.Core.Path.{◌≡◌, refl, sym, ap, subst, ◌∙◌}
use mathlib.Core.Bool.{Bool, true, false}
use mathlib.Core.List.{List}
use lib.ListN.{length, drop}
use lib.Seq.{get_or-take, get_or-drop}
use Rattle.std.specs.Prelude.{Option, Some, None, MatchOption}
use Rattle.std.specs.List.{AllWithin, HoldsAt}
use Rattle.std.specs.Option.{unwrap_or}
use Rattle.std.specs.Simd.{first_chunks}
use native.Mathlib.Nat.{zero-div}
use native.Mathlib.Omega.{arith}
use Rattle.paper.specs.Lists.{some_slot}
use Rattle.paper.specs.Bytes.{byte_at, part}
use Rattle.paper.specs.Record.{byte_of, digit_of, bit_at, next_bit}
use Rattle.laws.proofs.Bits.{next_hit, next_over}
use Rattle.laws.proofs.Parts.{length_part}
use Rattle.words.specs.Runs.{Clear, ClearTo}
use Rattle.words.proofs.Chunks.{Empty, empty_to}

-- a slot is a number above 0, and told as itself
some_is : (s : ℕ) → 0 < s → Some s ≡ some_slot s
some_is zero h = absurd (omega arith)
some_is (suc s) h = refl

-- the test of a bit says that it is not set
pub told_clear : (t b : Bool) → t ≡ b → t ≡ false → b ≡ false
told_clear t b is h = sym is ∙ h

module _ (bits : List ℕ) (x : ℕ) where
  -- one bit by itself
  pub clear_one : bit_at bits x ≡ false → Clear bits x 1
  clear_one e y l h = let i : x ≡ y = omega arith in rw (← i) e

  -- an empty byte, from x to its end
  pub clear_byte : 0 < x → (j d : ℕ) → j ≡ byte_of x → d ≡ digit_of x → byte_at bits j ≡ 0 → Clear bits x (d + 1)
  unfolding bit_at
  clear_byte s j d isJ isD e y l h = let i : (y - 1) / 8 ≡ j = omega arith in rw (i, e, zero-div)

  -- where x is the first of its byte, the whole of it
  pub clear_whole : 0 < x → (j d : ℕ) → j ≡ byte_of x → d ≡ digit_of x → byte_at bits j ≡ 0 → 8 ≤ d + 1 → Clear bits x 8
  clear_whole s j d isJ isD e w y l h = clear_byte s j d isJ isD e y l (omega arith)

-- bytes, none of which has a bit set
clear_bytes : (bits : List ℕ) (at n : ℕ) → ((i : ℕ) → at ≤ i → i < at + n → byte_at bits i ≡ 0) → Clear bits (8 * at + 1) (8 * n)
clear_bytes bits at n z y l h = clear_byte bits y (omega arith) (byte_of y) (digit_of y) refl refl (z (byte_of y) (omega arith) (omega arith)) y (omega arith) (omega arith)

-- of the eights of bytes from `at` on, those before the first that is not empty are passed over
module _ (bits : List ℕ) (at to : ℕ) (low : at ≤ to) (high : to ≤ length bits) (eights : List (List ℕ))
    (is : eights ≡ first_chunks 8 (length (part bits at to) / 8) (part bits at to)) (many : length eights ≡ length (part bits at to) / 8) where
  zero_at : (k : ℕ) → k ≤ length eights → AllWithin Empty eights 0 k → (i : ℕ) → at ≤ i → i < at + 8 * k → byte_at bits i ≡ 0
  zero_at k l all i a b =
      let w = length_part bits at to high in
      let e : at + (i - at) ≡ i = omega arith in
      let z = empty_to (part bits at to) (length (part bits at to) / 8) k (omega arith) (subst (λ xs. AllWithin Empty xs 0 k) is all) (i - at) (omega arith) in
      let j = get_or-take (to - at) (drop at bits) (i - at) 0 (omega arith) ∙ get_or-drop at bits (i - at) 0 in
      rw e at (sym j ∙ z)

  passed : (k : ℕ) → k ≤ length eights → AllWithin Empty eights 0 k → ClearTo bits at to (at + 8 * k)
  passed k l all =
      let w = length_part bits at to high in
      let e : 8 * (at + 8 * k - at) ≡ 8 * (8 * k) = omega arith in
      record { low = omega arith; high = omega arith; clear = rw e (clear_bytes bits at (8 * k) (zero_at k l all)) }

  pub eights_passed : (r : Option ℕ)
      → MatchOption r (AllWithin Empty eights 0 (length eights)) (λ i. (i < length eights) × HoldsAt (λ xs. ¬ (Empty xs)) eights i × AllWithin Empty eights 0 i)
      → ClearTo bits at to (at + 8 * unwrap_or r (length eights))
  eights_passed None all = passed (length eights) (omega arith) all
  eights_passed (Some i) h = passed i (omega (arith, h.0)) h.2

-- they begin with the first bit x of byte `at`
pub eights_clear : (bits : List ℕ) (at to k : ℕ) → ClearTo bits at to (at + 8 * k) → (x : ℕ) → 0 < x → at ≡ byte_of x → 8 ≤ digit_of x + 1 → Clear bits x (64 * k)
eights_clear bits at to k h x s e w y a b = h.clear y (omega arith) (omega arith)

-- the k bits from x on, of which those from `at` on are left
module _ (bits : List ℕ) (x k at left : ℕ) (e : next_bit bits at left ≡ next_bit bits x k) where
  -- none is left
  pub bits_out : left ≤ 0 → None ≡ some_slot (next_bit bits x k)
  unfolding next_bit
  bits_out h = let z : left ≡ 0 = omega arith in ap some_slot (rw z at e)

  -- the next one is set, as its test says
  pub bit_set : (t : Bool) → t ≡ bit_at bits at → t ≡ true → 0 < at → 0 < left → Some at ≡ some_slot (next_bit bits x k)
  bit_set t is h s l =
      let n : left ≡ suc (left - 1) = omega arith in
      some_is at s ∙ ap some_slot (sym (rw n (next_hit bits at (left - 1) (sym is ∙ h))) ∙ e)

  -- n of them are passed over
  pub bits_over : (n : ℕ) → n ≤ left → Clear bits at n → next_bit bits (at + n) (left - n) ≡ next_bit bits x k
  bits_over n l c = let i : n + (left - n) ≡ left = omega arith in sym (next_over bits n at (left - n) c) ∙ rw i e

-- what the goals of `clear_run` go by, and those of `next_bit`
pub ruleset runs = (clear_one, clear_byte, clear_whole, eights_clear)

pub ruleset turns = (told_clear, bits_out, bit_set, bits_over)
