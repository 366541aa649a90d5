-- The numbers of a text, stored one after the other: what is stored, with what is left to read stored behind it, is the same after each turn.
use Prim.Native.Nat.{ℕ, zero, suc, ◌+◌, ◌-◌, ◌*◌, ◌≤◌, ◌<◌}
use mathlib.Core.Path.{◌≡◌, refl, sym, ap, ◌∙◌}
use mathlib.Core.Bool.{false}
use mathlib.Core.Option.{Option, none, some}
use mathlib.Core.List.{List, [], ◌∷◌, ◌++◌}
use native.Mathlib.Nat.{zero-add, sub-zero}
use native.Mathlib.Omega.{arith}
use lib.ListN.{length, drop, set, replicate, length-set}
use lib.Seq.{sets}
use borrow.Author.Tests.{lt-ltb, le-ltb}
use Rattle.paper.specs.Bytes.{byte_at}
use Rattle.paper.specs.Line.{is_parting, also, read_numbers, as_line, read_line}
use Rattle.laws.proofs.Stores.{sets_front}
use Rattle.std.proofs.Common as rust
use Rattle.line.specs.Numbers.{zeros, numbers_of}
use Rattle.line.specs.OneNumber.{Begins, as_numbers, Beyond}
use Rattle.line.proofs.Reading.{end_outside}

-- the numbers that are left, behind the n that are stored; nothing at all where the text turns out to be no such text
abbrev filled : List ℕ → ℕ → Option (List ℕ) → ℕ × List ℕ
filled values n none = (0, zeros)
filled values n (some vs) = (n + length vs, sets values n vs)

-- one of them is stored
one_stored : (values : List ℕ) (n v : ℕ) (left : Option (List ℕ)) → filled (set values n v) (n + 1) left ≡ filled values n (also v left)
one_stored values n v none = refl
one_stored values n v (some vs) =
    let e : n + 1 + length vs ≡ n + suc (length vs) = omega arith in
    let f : n + 1 ≡ suc n = omega arith in
    rw (e, f)

-- STORING: n numbers are stored, and the next begins at `at`
pub record Stored (text values : List ℕ) (n at : ℕ) : Type 0 where
  pub short : length text ≤ 256
  pub long : length values ≡ 128
  pub few : 2 * n ≤ at
  pub near : at ≤ length text + 1
  pub begins : at < length text → is_parting (byte_at text at) ≡ false
  pub same : filled values n (read_numbers (drop at text) false 0) ≡ filled zeros 0 (read_numbers text false 0)

-- none is stored yet
pub store_begin : (text : List ℕ) (at : ℕ) → length text ≤ 256 → Begins text 0 at → Stored text zeros 0 at
unfolding zeros
store_begin text at l b =
    record {
      short = l;
      long = refl;
      few = omega arith;
      near = b.near;
      begins = b.none_there;
      same = ap (filled zeros 0) b.same;
    }

-- a row of zeros with its front dropped
zeros_left : (k n : ℕ) → drop {A = ℕ} k (replicate n 0) ≡ replicate (n - k) 0
zeros_left zero n = rw sub-zero
zeros_left (suc k) zero = let e : 0 - suc k ≡ 0 = omega arith in rw e
zeros_left (suc k) (suc n) = let e : suc n - suc k ≡ n - k = omega arith in rw e (zeros_left k n)

-- numbers stored from the front on, and zeros behind them
stored_front : (vs : List ℕ) → length vs ≤ 128 → sets zeros 0 vs ≡ vs ++ replicate (128 - length vs) 0
unfolding zeros
stored_front vs l = sets_front vs (replicate 128 0) l ∙ ap (λ (l : List ℕ). vs ++ l) (zeros_left (length vs) 128)

-- numbers told are those of the line, where the numbers are few enough
meets : (text : List ℕ) (r : ℕ × List ℕ) → length text ≤ 256 → r.0 ≤ 128 → r ≡ filled zeros 0 (read_numbers text false 0) → r ≡ numbers_of (read_line text)
unfolding read_line
meets text r l few e = rw (le-ltb 256 (length text) l) (go (read_numbers text false 0) e)
  where
    go : (o : Option (List ℕ)) → r ≡ filled zeros 0 o → r ≡ numbers_of (as_line o)
    go none e = e
    go (some []) e = e
    go (some (way ∷ names)) e =
        let m = ap (λ (r : ℕ × List ℕ). r.0) e in
        e ∙ rw (zero-add (length (way ∷ names)), stored_front (way ∷ names) (omega arith))

module _ (text values : List ℕ) (n at : ℕ) (s : Stored text values n at) where
  few : n ≤ 128
  few = let a = s.short in let b = s.few in let c = s.near in omega arith

  -- the numbers lie in the array
  pub store_few : n ≤ length values
  store_few = let l = s.long in omega arith

  -- the text is read
  pub store_end : length text ≤ at → (n, values) ≡ numbers_of (read_line text)
  store_end l =
      let z : n + 0 ≡ n = omega arith in
      let e = ap (filled values n) (sym (end_outside text at l)) ∙ s.same in
      meets text (n, values) s.short few (rw z at e)

  -- a number begins there
  pub store_starts : at < length text → is_parting (byte_at text at) ≡ false
  store_starts = s.begins

  module _ (h : at < length text) (f : rust.Option (ℕ × ℕ)) (is : as_numbers text f ≡ read_numbers (drop at text) false 0) where
    -- no number stands there
    pub store_bad : f ≡ rust.None → (many : ℕ) (all : List ℕ) → many ≡ 0 → all ≡ zeros → (many, all) ≡ numbers_of (read_line text)
    store_bad e many all z v =
        let i : none ≡ read_numbers (drop at text) false 0 = rw e at is in
        rw (z, v) (meets text (0, zeros) s.short (omega arith) (ap (filled values n) i ∙ s.same))

    module _ (v next : ℕ) (e : f ≡ rust.Some (v, next)) (b : Beyond text at f) where
      -- there is a place for it
      pub store_place : n < length values
      store_place = let a = s.short in let b = s.few in let c = s.long in omega arith

      -- where to read on is no more than one past the end
      pub store_next : next ≤ length text + 1
      store_next = (rw e at b).1

      -- fewer bytes are left
      pub store_less : (q : ℕ) → Begins text next q → length text + 1 - q < length text + 1 - at
      store_less q g = let c = (rw e at b).0 in let d = g.behind in omega arith

      -- one more number
      pub store_more : (q : ℕ) → Begins text next q → Stored text (set values n v) (n + 1) q
      store_more q g =
          let a = s.few in
          let c = (rw e at b).0 in
          let d = g.behind in
          let i : also v (read_numbers (drop next text) false 0) ≡ read_numbers (drop at text) false 0 = rw e at is in
          record {
            short = s.short;
            long = length-set values n v ∙ s.long;
            few = omega arith;
            near = g.near;
            begins = g.none_there;
            same = ap (filled (set values n v) (n + 1)) g.same ∙ one_stored values n v (read_numbers (drop next text) false 0) ∙ ap (filled values n) i ∙ s.same;
          }

-- a text over 256 bytes
pub store_none : (text : List ℕ) → 256 < length text → (many : ℕ) (all : List ℕ) → many ≡ 0 → all ≡ zeros → (many, all) ≡ numbers_of (read_line text)
unfolding read_line
store_none text l many all z v = rw (lt-ltb 256 (length text) l) (rw (z, v))

-- all of these
pub ruleset stores = (store_begin, store_few, store_end, store_starts, store_bad, store_place, store_next, store_less, store_more, store_none)
