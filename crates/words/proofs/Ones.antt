-- Set bits counted byte by byte.
use Prim.Native.Nat.{ℕ, zero, suc, ◌+◌, ◌-◌, ◌*◌, ◌/◌, ◌%◌, ◌^◌, ◌≤◌, ◌<◌}
use mathlib.Core.Path.{◌≡◌, sym, ap, ◌∙◌}
use mathlib.Core.List.{List}
use native.Mathlib.Omega.{arith}
use lib.ListN.{length, drop}
use lib.Pow.{shr-shr}
use lib.Count.{ones, ones_in, ones_step, ones-le}
use lib.Seq.{get_or-take, get_or-drop}
use Rattle.paper.specs.Bytes.{byte_at, part}
use Rattle.paper.specs.Record.{slots_to_cut}
use Rattle.laws.proofs.Bits.{one_more}
use Rattle.laws.proofs.Parts.{AllBytes, length_part}
use Rattle.words.specs.Ones.{top_ones}

-- the machine's count of what a shift leaves is the count of the top bits, and at most p
ones_on_top : (b p : ℕ) → b < 256 → p ≤ 8 → ones (b / 2 ^ (8 - p)) ≡ top_ones b p
unfolding top_ones ones ones_in
ones_on_top b zero h l = let e : b / 256 ≡ 0 = omega arith in ap ones e
ones_on_top b (suc p) h l =
    let e : 8 - suc p ≡ 7 - p = omega arith in
    let f : 7 - p + 1 ≡ 8 - p = omega arith in
    let s = ones_step (b / 2 ^ (7 - p)) in
    rw e (s ∙ rw (shr-shr b (7 - p) 1, f, ones_on_top b p h (omega arith)) (omega arith))

top_few : (b p : ℕ) → top_ones b p ≤ p
unfolding top_ones
top_few b zero = omega arith
top_few b (suc p) = omega (arith, top_few b p)

module _ (b p : ℕ) (h : b < 256) (l : p ≤ 8) where
  pub counted : ones (b / 2 ^ (8 - p)) ≡ top_ones b p
  counted = ones_on_top b p h l

  pub few : ones (b / 2 ^ (8 - p)) ≤ p
  few = rw counted (top_few b p)

-- p bits behind i whole bytes are those of byte i
in_byte : (bits : List ℕ) (i p : ℕ) → p ≤ 8
    → length (slots_to_cut (8 * i + p) bits) ≡ length (slots_to_cut (8 * i) bits) + top_ones (byte_at bits i) p
unfolding top_ones
in_byte bits i zero h = let e : 8 * i + 0 ≡ 8 * i = omega arith in rw e (omega arith)
in_byte bits i (suc p) h =
    let e : 8 * i + suc p ≡ suc (8 * i + p) = omega arith in
    let d : (8 * i + p) / 8 ≡ i = omega arith in
    let r : (8 * i + p) % 8 ≡ p = omega arith in
    rw e (omega (arith, rw (d, r) at (one_more (8 * i + p) bits), in_byte bits i p (omega arith)))

-- one byte more
pub turn : (bits : List ℕ) (i n r : ℕ) → n ≡ length (slots_to_cut (8 * i) bits) → r ≡ top_ones (byte_at bits i) 8 → n + r ≡ length (slots_to_cut (8 * (i + 1)) bits)
turn bits i n r so is =
    let e : 8 * (i + 1) ≡ 8 * i + 8 = omega arith in
    let b = in_byte bits i 8 (omega arith) in
    rw (e, so, is) (sym b)

-- all ones of a byte. `top_ones` stays shut: at the numeral 8 it would compute
pub byte_ones : (b : ℕ) → b < 256 → ones b ≡ top_ones b 8
byte_ones b h = let d : b / 1 ≡ b = omega arith in rw d at (counted b 8 h (omega arith))

-- what holds where the bytes of a part, which begins at byte `from`, have been counted up to its byte k
pub record CountedTo (bits : List ℕ) (from k n : ℕ) : Type 0 where
  pub so : n ≡ length (slots_to_cut (8 * (from + k)) bits)
  pub few : n ≤ 8 * (from + k)

pub counted_none : (bits : List ℕ) (from n : ℕ) → n ≡ length (slots_to_cut (8 * from) bits) → n ≤ 8 * from → CountedTo bits from 0 n
counted_none bits from n e l = let z : from + 0 ≡ from = omega arith in record { so = rw z e; few = omega arith }

module _ (bits : List ℕ) (all : AllBytes bits) (from to k n : ℕ) (h : CountedTo bits from k n) (l : to ≤ length bits) (f : from ≤ to) where
  -- one byte more
  pub counted_more : k < length (part bits from to) → CountedTo bits from (k + 1) (n + ones (byte_at (part bits from to) k))
  counted_more i =
      let w = length_part bits from to l in
      let e : byte_at (part bits from to) k ≡ byte_at bits (from + k) = get_or-take (to - from) (drop from bits) k 0 (omega arith) ∙ get_or-drop from bits k 0 in
      let o = all (from + k) in
      let c : ones (byte_at bits (from + k)) ≡ top_ones (byte_at bits (from + k)) 8 = byte_ones (byte_at bits (from + k)) o in
      let t = turn bits (from + k) n (ones (byte_at bits (from + k))) h.so c in
      let j : from + (k + 1) ≡ from + k + 1 = omega arith in
      rw e (record { so = rw j t; few = omega (arith, h.few, ones-le 8 (byte_at bits (from + k)) o) })

  -- which fits, as the bits do
  pub counted_fits : k < length (part bits from to) → n + ones (byte_at (part bits from to) k) ≤ 8 * to
  counted_fits i = let c = counted_more i in omega (arith, c.few, length_part bits from to l)

  -- all of them
  pub counted_all : length (part bits from to) ≤ k → k ≤ length (part bits from to) → CountedTo bits to 0 n
  counted_all i j =
      let w = length_part bits from to l in
      let e : from + k ≡ to + 0 = omega arith in
      record { so = rw (← e) h.so; few = rw (← e) h.few }

-- the byte that the cut lies in, behind i whole bytes
module _ (bits : List ℕ) (cut n r : ℕ) (h : CountedTo bits (cut / 8) 0 n) where
  pub even : cut % 8 ≡ 0 → (n ≡ length (slots_to_cut cut bits)) × (n ≤ cut)
  even z = let e : 8 * (cut / 8 + 0) ≡ cut = omega arith in (rw e at h.so, rw e at h.few)

  pub odd : r ≡ top_ones (byte_at bits (cut / 8)) (cut % 8) → r ≤ cut % 8 → (n + r ≡ length (slots_to_cut cut bits)) × (n + r ≤ cut)
  odd is l =
      let e : cut ≡ 8 * (cut / 8) + cut % 8 = omega arith in
      let z : cut / 8 + 0 ≡ cut / 8 = omega arith in
      let b = in_byte bits (cut / 8) (cut % 8) (omega arith) in
      (rw (rw z at h.so, is) (sym b) ∙ ap (λ (m : ℕ). length (slots_to_cut m bits)) (sym e), omega (arith, h.few))

-- what the goals of `top_ones` go by, and those of `ones_to`
pub ruleset tops = (counted, few)

pub ruleset bytes = (counted_none, counted_more, counted_fits, counted_all, even, odd)
