-- The table of marks: what marking a slot does to the test of another.
use Prim.Native.Nat.{ℕ, ◌+◌, ◌/◌, ◌%◌, ◌<◌}
use mathlib.Core.Path.{◌≡◌, refl, ◌∙◌}
use mathlib.Core.Bool.{true, false}
use mathlib.Core.List.{List}
use native.Mathlib.Decide.{ℕ_discrete}
use native.Mathlib.Omega.{arith}
use lib.ListN.{length, get_or, replicate, get_or-replicate, length-replicate}
use lib.Seq.{get_or-set_same, get_or-set_other}
use borrow.Author.Tests.{eq-eqb, ne_eqb}
use Rattle.marks.specs.Marks.{marked, marking, Clear}

-- a slot y is marked
module _ (t : List ℕ) (y : ℕ) (long : length t ≡ 16384) where
  inside : y % 16384 < length t
  inside = omega arith

  -- its test passes
  pub mark_here : marked (marking t y) y ≡ true
  mark_here = rw (get_or-set_same t (y % 16384) (y / 16384) 0 inside) (eq-eqb (y / 16384) (y / 16384) refl)

  module _ (x : ℕ) where
    -- one of another remainder is told as before
    mark_there : ¬ (x % 16384 ≡ y % 16384) → marked (marking t y) x ≡ marked t x
    mark_there n = rw (get_or-set_other t (y % 16384) (x % 16384) (y / 16384) 0 n)

    -- and so is one that is less than 16384 below it
    pub mark_near : x < y → y < x + 16384 → marked (marking t y) x ≡ marked t x
    mark_near l h = mark_there (λ e. absurd (omega arith))

    -- no other becomes marked: where its remainder is the same, its quotient is not
    pub mark_other : ¬ (x ≡ y) → marked t x ≡ false → marked (marking t y) x ≡ false
    mark_other n h =
        elim (ℕ_discrete (x % 16384) (y % 16384)) [
          | yes e ↦ rw (e, get_or-set_same t (y % 16384) (y / 16384) 0 inside) (ne_eqb (y / 16384) (x / 16384) (λ q. n (omega arith)))
          | no m ↦ mark_there m ∙ h
        ]

-- a table of 255s has no mark
pub no_marks : (n : ℕ) → n ≡ 16384 → Clear 0 (replicate n 255)
no_marks n is =
    record {
      long = length-replicate n 255 ∙ is;
      none = λ x l m. let k : x % 16384 < n = omega arith in let g : ◌≡◌ {A = ℕ} (get_or (replicate n 255) (x % 16384) 0) 255 = get_or-replicate n (x % 16384) 255 0 k in rw g (ne_eqb 255 (x / 16384) (λ e. absurd (omega arith)));
    }
