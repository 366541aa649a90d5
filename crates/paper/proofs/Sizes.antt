-- The largest size of an index: 16,777,216 zero bytes lack the tag (2), and with one byte more they are too long (1). These are too many to
-- compute, so it is said of any number of zero bytes.
use Prim.Native.Nat.{ℕ, zero, suc, ◌+◌, ◌-◌, ◌≤◌, ◌<◌}
use mathlib.Core.Path.{◌≡◌, refl}
use mathlib.Core.List.{List}
use native.Mathlib.Nat.{suc-add}
use native.Mathlib.Omega.{arith}
use lib.ListN.{replicate, drop, length-replicate}
use lib.Dec.{lit≤}
use borrow.Author.Tests.{lt-ltb, le-ltb}
use Rattle.paper.specs.Lists.{same}
use Rattle.paper.specs.Refusal.{verdict, fault1, fault2}
use Rattle.paper.specs.Look.{frame_fault, look}

abbrev zeros : ℕ → List ℕ
zeros n = replicate n 0

last_four : (n : ℕ) → drop n (zeros (n + 4)) ≡ zeros 4
last_four zero = refl
last_four (suc n) = rw suc-add (last_four n)

pub too_long : (n : ℕ) → 16777216 < n → look (zeros n) ≡ verdict 1 0
unfolding look frame_fault fault1
too_long n h = simp (length-replicate, le-ltb n 24 (omega arith), lt-ltb _ _ h)

pub no_tag : (n : ℕ) → 20 ≤ n → n ≤ 16777212 → look (zeros (n + 4)) ≡ verdict 2 0
unfolding look frame_fault fault1 fault2 same
no_tag n l h =
    let e : n + 4 - 4 ≡ n = omega arith in
    simp (length-replicate, e, last_four, le-ltb (n + 4) 24 (omega arith), le-ltb 16777216 (n + 4) (omega arith))

pub over : look (zeros 16777217) ≡ verdict 1 0
over = too_long 16777217 (lit≤ tt)

pub most : look (zeros (16777212 + 4)) ≡ verdict 2 0
most = no_tag 16777212 (lit≤ tt) (lit≤ tt)
