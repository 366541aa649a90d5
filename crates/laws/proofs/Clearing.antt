-- Clearing the rest of a slice: what stands before position i, with 0 at every place from there on, is the same after each turn.
use Prim.Native.Nat.{ℕ, suc, ◌+◌, ◌-◌, ◌≤◌, ◌<◌}
use mathlib.Core.Path.{◌≡◌, sym, ◌∙◌}
use mathlib.Core.List.{List, ◌++◌, append_assoc, append-nil}
use native.Mathlib.Numerals.{add-one}
use native.Mathlib.Omega.{arith}
use lib.ListN.{length, set, take, replicate, length-set}
use lib.Seq.{take_all, take-suc-set}

-- s has `size` places, and becomes t when those from i on are cleared
pub record Cleared (t : List ℕ) (size : ℕ) (s : List ℕ) (i : ℕ) : Type 0 where
  pub long : length s ≡ size
  pub inside : i ≤ size
  pub same : take i s ++ replicate (size - i) 0 ≡ t

module _ {t : List ℕ} {size : ℕ} {s : List ℕ} {i : ℕ} (h : Cleared t size s i) where
  -- no place is left
  pub none_left : length s ≤ i → s ≡ t
  none_left l =
      let z : size - i ≡ 0 = omega (arith, h.long) in
      sym (take_all i s l) ∙ sym (append-nil _) ∙ (rw z at h.same)

  -- the place i is cleared
  pub one_more : i < length s → Cleared t size (set s i 0) (i + 1)
  one_more l =
      let z : size - i ≡ suc (size - suc i) = omega (arith, h.long) in
      record {
        long = length-set s i 0 ∙ h.long;
        inside = omega (arith, h.long);
        same = simp (add-one i, take-suc-set s i 0 l, append_assoc) (rw z at h.same);
      }
