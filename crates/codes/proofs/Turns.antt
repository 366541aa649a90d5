-- The loops over the codes of a block: what is left to read answers as the whole does. The laws of blocks tell each way out of a loop; here are the turns.
use Prim.Native.Nat.{ℕ, ◌+◌, ◌-◌, ◌≤◌, ◌<◌}
use mathlib.Core.Path.{◌≡◌, sym, ap, ◌∙◌}
use mathlib.Core.List.{List}
use native.Mathlib.Omega.{arith}
use Rattle.std.specs.Prelude.{Option, Some, None}
use lib.ListN.{length, drop}
use Rattle.paper.specs.Lists.{some_slot}
use Rattle.paper.specs.Code.{code_of}
use Rattle.paper.specs.Code.Code.{code, bad}
use Rattle.paper.specs.Block.{Block, read_codes}
use Rattle.paper.specs.Walk.{Seek, seek, more}
use Rattle.laws.proofs.Blocks as blocks
use Rattle.laws.proofs.Seeking.{seek_here, seek_out, seek_on}
use Rattle.codes.specs.declared.CodeAt.{CodeAt}
use Rattle.codes.specs.declared.Stopped.{Stopped}
use Rattle.codes.specs.Got.{as_code}
use Rattle.codes.specs.InBlock.{Checked, checked, stopped}

-- What was got, as the laws of blocks have it: no code
pub is_bad : (bs : List ℕ) (p : ℕ) (g : Option CodeAt) → as_code bs g ≡ code_of (drop p bs) → g ≡ None → bad ≡ code_of (drop p bs)
is_bad bs p g is e = rw e at is

-- a code
pub is_code : (bs : List ℕ) (p : ℕ) (g : Option CodeAt) (c : CodeAt) → as_code bs g ≡ code_of (drop p bs) → g ≡ Some c → code c.value (drop c.next bs) ≡ code_of (drop p bs)
is_code bs p g c is e = rw e at is

-- checking: n codes are read and y is the slot of the last; the others are left from position p on
pub record Left (u : ℕ) (bs : List ℕ) (count : ℕ) (t : Checked) (p n y : ℕ) : Type 0 where
  pub within : p ≤ length bs
  pub low : y ≤ u
  pub same : checked y (read_codes u (count - n) y (drop p bs)) ≡ t

-- one code more, c, is read
pub check_turn : (u : ℕ) (bs : List ℕ) (count : ℕ) (t : Checked) (p n y : ℕ) → Left u bs count t p n y → n < count → (c : CodeAt)
    → code c.value (drop c.next bs) ≡ code_of (drop p bs) → c.next ≤ length bs → y + c.value + 1 ≤ u → Left u bs count t c.next (n + 1) (y + c.value + 1)
check_turn u bs count t p n y h lt c is inside low =
    let m : count - n - 1 ≡ count - (n + 1) = omega arith in
    let i = blocks.turn_next u y (count - n) bs p (omega arith) c.value c.next is low in
    record { within = inside; low = low; same = rw (← m) (ap (checked y) (sym i) ∙ h.same) }

-- seeking: n codes are read and y is the slot read last; the others are left from position p on
pub record Head (x u : ℕ) (bs : List ℕ) (count : ℕ) (t : Stopped) (p n y : ℕ) : Type 0 where
  pub few : n ≤ count
  pub low : y ≤ u
  pub same : stopped n (seek x y (read_codes u (count - n) y (drop p bs)).slots) ≡ t

-- one code more, c, is read
pub seek_turn : (x u : ℕ) (bs : List ℕ) (count : ℕ) (t : Stopped) (p n y : ℕ) → Head x u bs count t p n y → n < count → y < x → (c : CodeAt)
    → code c.value (drop c.next bs) ≡ code_of (drop p bs) → y + c.value + 1 ≤ u → Head x u bs count t c.next (n + 1) (y + c.value + 1)
seek_turn x u bs count t p n y h lt l c is low =
    let m : count - n - 1 ≡ count - (n + 1) = omega arith in
    let i = blocks.turn_next u y (count - n) bs p (omega arith) c.value c.next is low in
    let s = ap (λ (b : Block). seek x y b.slots) i ∙ seek_on x y l (y + c.value + 1) _ in
    record { few = omega arith; low = low; same = rw (← m) (moved _ (ap (stopped n) (sym s) ∙ h.same)) }
  where
    moved : (w : Seek) → stopped n (more w) ≡ t → stopped (n + 1) w ≡ t
    moved w e = let z : n + 1 + w.codes ≡ n + (1 + w.codes) = omega arith in ap (λ (k : ℕ). record { slot = some_slot w.slot; codes = k }) z ∙ e

-- the ways out of the loops, and their turns
pub ruleset steps = (blocks.turn_left, blocks.turn_end, blocks.turn_bad, blocks.turn_above, blocks.slots_none, seek_here, seek_out, check_turn, seek_turn)
