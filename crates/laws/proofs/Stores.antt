-- Stores into a buffer, one run after the other: `sets buffer i xs` is the buffer with xs written from position i on.
use Prim.Native.Nat.{ℕ, suc, ◌+◌, ◌≤◌, ◌<◌}
use mathlib.Core.Path.{◌≡◌, refl, sym, ap, ◌∙◌}
use mathlib.Core.List.{List, [], ◌∷◌, ◌++◌}
use native.Mathlib.Nat.{add-zero, zero-add}
use native.Mathlib.Omega.{arith}
use lib.ListN.{length, drop, set, length-append}
use lib.Seq.{set_comm, sets, sets-eq}
use Rattle.paper.specs.Lists.{on_front}
use Rattle.paper.specs.Bytes.{u32_bytes}
use Rattle.laws.proofs.Words.{length_word}

-- two runs side by side are one
pub sets_join : (xs ys l : List ℕ) (i : ℕ) → sets l i (xs ++ ys) ≡ sets (sets l i xs) (i + length xs) ys
sets_join [] ys l i = rw add-zero
sets_join (x ∷ xs) ys l i =
    let e : suc i + length xs ≡ i + suc (length xs) = omega arith in
    sets_join xs ys (set l i x) (suc i) ∙ ap (λ (n : ℕ). sets (sets (set l i x) (suc i) xs) n ys) e

-- A RUN: xs, of n bytes, written into l from `at` on gives r
pub record Run (l : List ℕ) (at : ℕ) (xs : List ℕ) (n : ℕ) (r : List ℕ) : Type 0 where
  pub size : length xs ≡ n
  pub is : r ≡ sets l at xs

module _ {l : List ℕ} {at : ℕ} {xs : List ℕ} {n : ℕ} {r : List ℕ} (h : Run l at xs n r) where
  -- longer by ys, of m bytes, which is written at p, right behind xs
  pub run_more : (ys : List ℕ) (m : ℕ) → length ys ≡ m → (p : ℕ) → p ≡ at + n → (after : List ℕ) → after ≡ sets r p ys → Run l at (xs ++ ys) (n + m) after
  run_more ys m size p e after is =
      record {
        size = rw (length-append, h.size, size);
        is = is ∙ rw (e, h.is, ← h.size) (sym (sets_join xs ys l at));
      }

  -- longer by a number
  pub run_word : (x : ℕ) (after : List ℕ) → after ≡ sets r (at + n) (u32_bytes x) → Run l at (xs ++ u32_bytes x) (n + 4) after
  run_word x = run_more (u32_bytes x) 4 (length_word x) (at + n) refl

-- a number is a run by itself
pub run_first : {l : List ℕ} {at : ℕ} (x : ℕ) (after : List ℕ) → after ≡ sets l at (u32_bytes x) → Run l at (u32_bytes x) 4 after
run_first x after is = record { size = length_word x; is = is }

-- a store before a run, in either order
set_before : (xs l : List ℕ) (i j a : ℕ) → j < i → set (sets l i xs) j a ≡ sets (set l j a) i xs
set_before [] l i j a h = refl
set_before (x ∷ xs) l i j a h =
    set_before xs (set l i x) (suc i) j a (omega arith) ∙ ap (λ (m : List ℕ). sets m (suc i) xs) (set_comm l i j x a (λ e. omega arith))

-- two runs of which one lies before the other, in either order
pub sets_swap : (xs ys l : List ℕ) (i j : ℕ) → i + length xs ≤ j → sets (sets l j ys) i xs ≡ sets (sets l i xs) j ys
sets_swap [] ys l i j h = refl
sets_swap (x ∷ xs) ys l i j h =
    ap (λ (m : List ℕ). sets m (suc i) xs) (set_before ys l j i x (omega arith)) ∙ sets_swap xs ys (set l i x) (suc i) j (omega arith)

-- a run from 0 on is a buffer written to its front
pub sets_front : (xs l : List ℕ) → length xs ≤ length l → sets l 0 xs ≡ on_front xs l
sets_front xs l h = sets-eq xs l 0 (rw zero-add h) ∙ ap (λ (n : ℕ). xs ++ drop n l) (zero-add (length xs))
