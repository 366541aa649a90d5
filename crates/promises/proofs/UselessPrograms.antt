-- Useless programs break the promises, each at an input that is shown here: the paper's index in full, or no bytes at all. One kind refuses
-- whatever is asked; the other gives the same answer whatever is asked, and fails at one of two inputs.
use Prim.Native.Nat.{ℕ}
use mathlib.Core.Path.{◌≡◌, refl, sym, ap, ◌∙◌}
use mathlib.Core.Bool.{true, false, true≢false}
use mathlib.Core.List.{[]}
use native.Mathlib.Omega.{arith}
use lib.ListN.{length}
use Rattle.paper.specs.Look.{look}
use Rattle.paper.specs.OneList.{test_answer, count_answer, lent, part_answer}
use Rattle.paper.proofs.Hex.{index}
use Rattle.paper.proofs.Open.{opened}

-- what the definitions give there
record Given : Type 0 where
  look_index : (look index).number ≡ 0
  look_none : (look []).number ≡ 1
  test_number : (test_answer index 0 30).number ≡ 0
  test_in : (test_answer index 0 30).yes ≡ true
  test_out : (test_answer index 0 32).yes ≡ false
  count_number : (count_answer index 1).number ≡ 0
  count_0 : (count_answer index 0).count ≡ 15
  count_1 : (count_answer index 1).count ≡ 7
  lend_0 : length (lent index 0) ≡ 55
  lend_1 : length (lent index 1) ≡ 24
  part_number : (part_answer index 1).number ≡ 0
  part_0 : (part_answer index 0).length ≡ 55
  part_1 : (part_answer index 1).length ≡ 24

given : Given
unfolding opened
given =
    record {
      look_index = refl;
      look_none = refl;
      test_number = refl;
      test_in = refl;
      test_out = refl;
      count_number = refl;
      count_0 = refl;
      count_1 = refl;
      lend_0 = refl;
      lend_1 = refl;
      part_number = refl;
      part_0 = refl;
      part_1 = refl;
    }

-- a refusing answer is not the right one where that accepts
module _ {A : Type 0} (number : A → ℕ) where
  -- so a program that refuses everything fails
  pub refusing_fails : (right : A) → number right ≡ 0 → (answer : A) → ¬ (number answer ≡ 0) → ¬ (answer ≡ right)
  refusing_fails right z answer n m = n (ap number m ∙ z)

-- one answer is not right for two questions whose right answers differ in some part
module _ {A C : Type 0} (part : A → C) where
  -- so a program of one answer fails
  pub same_fails : (right other : A) → ¬ (part right ≡ part other) → (answer : A) → ¬ ((answer ≡ right) × (answer ≡ other))
  same_fails right other n answer m = n (ap part (sym m.0 ∙ m.1))

-- the right answers here accept
pub look_accepts : (look index).number ≡ 0
look_accepts = given.look_index

-- testing
pub test_accepts : (test_answer index 0 30).number ≡ 0
test_accepts = given.test_number

-- counting
pub count_accepts : (count_answer index 1).number ≡ 0
count_accepts = given.count_number

-- telling where a record lies
pub part_accepts : (part_answer index 1).number ≡ 0
part_accepts = given.part_number

-- and differ: looking at the index and at no bytes
pub look_differs : ¬ ((look index).number ≡ (look []).number)
look_differs e = let z : ◌≡◌ {A = ℕ} 0 1 = sym given.look_index ∙ e ∙ given.look_none in omega arith

-- slots 30 and 32 of list 0
pub test_differs : ¬ ((test_answer index 0 30).yes ≡ (test_answer index 0 32).yes)
test_differs e = true≢false (sym given.test_in ∙ e ∙ given.test_out)

-- the counts of lists 1 and 0
pub count_differs : ¬ ((count_answer index 1).count ≡ (count_answer index 0).count)
count_differs e = let z : ◌≡◌ {A = ℕ} 7 15 = sym given.count_1 ∙ e ∙ given.count_0 in omega arith

-- their records
pub lend_differs : ¬ (length (lent index 1) ≡ length (lent index 0))
lend_differs e = let z : ◌≡◌ {A = ℕ} 24 55 = sym given.lend_1 ∙ e ∙ given.lend_0 in omega arith

-- the first of which is not empty
pub lend_not_empty : ¬ ([] ≡ lent index 1)
lend_not_empty e = let z : ◌≡◌ {A = ℕ} 0 24 = ap length e ∙ given.lend_1 in omega arith

-- and how long these are
pub part_differs : ¬ ((part_answer index 1).length ≡ (part_answer index 0).length)
part_differs e = let z : ◌≡◌ {A = ℕ} 24 55 = sym given.part_1 ∙ e ∙ given.part_0 in omega arith
