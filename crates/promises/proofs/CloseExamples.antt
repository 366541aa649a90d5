-- The closings among the paper's examples: whatever keeps the promise of one gives the answer that is printed with it, and leaves the buffer that is
-- printed. And the paper's two records, closed in any buffer that has room for the index.
use Prim.Native.Nat.{ℕ, ◌+◌, ◌≤◌}
use mathlib.Core.Path.{◌≡◌, refl, sym, ap, ap₂, ◌∙◌}
use mathlib.Core.Bool.{true, and-eq-true_iff}
use mathlib.Core.List.{List, [], ◌∷◌, ◌++◌}
use native.Mathlib.Omega.{arith}
use lib.ListN.{length, drop, length-append}
use lib.Seq.{take_at, drop-append-add}
use Rattle.paper.specs.Look.{look}
use Rattle.paper.specs.Close.{frame_bytes, MeetsClose}
use Rattle.paper.specs.declared.Verdict.{Verdict}
use Rattle.paper.specs.declared.Written.{Written}
use Rattle.paper.proofs.Hex.{hex, list0, list1, index}
use Rattle.paper.proofs.Open.{opened}
use Rattle.paper.proofs.Rows.{Row, room, holds, judged}
use Rattle.paper.proofs.Rows.Row.{closing}
use Rattle.paper.proofs.Readings.{readings}
use Rattle.paper.proofs.Meets.{met}
use Rattle.laws.proofs.Lists.{Each}
use Rattle.laws.proofs.Equals.{same_true}
use Rattle.promises.proofs.IndexRows.{Word}
use Rattle.promises.proofs.ExampleRows as rows
use Rattle.promises.proofs.ExampleRows.{EachRow, labelled, numbers_of}
use Rattle.promises.proofs.CloseRows.{Roomy}
use Rattle.promises.proofs.CloseMade.{made}
use Rattle.promises.proofs.CloseAnswers.{looked_number, looked_place, accepted_length, accepted_front}

-- whatever keeps the promise of this closing has these three numbers, and leaves this buffer
abbrev pub ClosesTo : List ℕ → ℕ → ℕ → ℕ → List ℕ → List ℕ → List ℕ → Type 0
ClosesTo before u B D starts numbers after =
    (answer : Written) (left : List ℕ) → MeetsClose before u B D starts answer left → (numbers_of answer ≡ numbers) × (left ≡ after)

-- what a row of the tables says of a closing
abbrev pub RowCloses : Row → Type 0
RowCloses row =
    (before : List ℕ) (u B D : ℕ) (starts numbers after : List ℕ) → row ≡ closing before u B D starts numbers after
    → ClosesTo before u B D starts numbers after

-- a closing that holds
closing_says : (before : List ℕ) (u B D : ℕ) (starts numbers after : List ℕ) → holds (closing before u B D starts numbers after) ≡ true
    → ClosesTo before u B D starts numbers after
unfolding holds
closing_says before u B D starts numbers after h =
    let p = (and-eq-true_iff _ _).0 h in
    λ answer left m. (ap numbers_of m.answers ∙ same_true _ numbers p.0, m.leaves ∙ same_true _ after p.1)

row_says : (row : Row) → holds row ≡ true → RowCloses row
row_says row h before u B D starts numbers after e = closing_says before u B D starts numbers after (rw e at h)

-- all rows (the closings all stand in this table)
pub readings_close : EachRow RowCloses readings
readings_close = rows.all_readings RowCloses row_says

-- by label
pub in_readings : (n : ℕ) → RowCloses (labelled readings n)
in_readings = rows.in_readings RowCloses row_says

-- The paper's two records, and then anything
module _ (rest : List ℕ) (enough : 32 ≤ length rest) where
  abbrev before : List ℕ
  before = list0 ++ list1 ++ rest

  abbrev starts : List ℕ
  starts = 0 ∷ 55 ∷ []

  records_long : length (list0 ++ list1) ≡ 79
  unfolding opened
  records_long = refl

  index_parts : list0 ++ list1 ++ frame_bytes 32 4 79 starts ≡ index
  unfolding opened
  index_parts = refl

  roomy : Roomy before 32 4 79 starts
  roomy =
      let n = records_long in
      let k = length-append (list0 ++ list1) rest in
      record {
        bounded = record { u_inside = (omega arith, omega arith); b_inside = (omega arith, omega arith); k_inside = (omega arith, omega arith) };
        small = omega arith;
        fits = omega arith;
      }

  small : Each Word starts
  small = (omega arith, (omega arith, tt))

  -- make its index
  made_is : made before 32 4 79 starts ≡ index
  made_is = ap (λ (l : List ℕ). l ++ frame_bytes 32 4 79 starts) (take_at (list0 ++ list1) rest 79 records_long) ∙ index_parts

  behind_is : drop 111 before ≡ drop 32 rest
  behind_is = let n : 111 ≡ length (list0 ++ list1) + 32 = rw records_long in ap (λ (n : ℕ). drop n before) n ∙ drop-append-add (list0 ++ list1) rest 32

  -- which is the answer's length, and what stood behind stays
  pub paper_closes : ClosesTo before 32 4 79 starts (0 ∷ 0 ∷ 111 ∷ []) (index ++ drop 32 rest)
  paper_closes answer left keeps =
      let number : answer.number ≡ 0
      = looked_number before 32 4 79 starts answer left keeps roomy small ∙ ap (λ (v : Verdict). v.number) (ap look made_is ∙ sym met.look) in
      let place : answer.place ≡ 0
      = looked_place before 32 4 79 starts answer left keeps roomy small ∙ ap (λ (v : Verdict). v.place) (ap look made_is ∙ sym met.look) in
      let long : answer.length ≡ 111 = accepted_length before 32 4 79 starts answer left keeps roomy small number in
      let front = accepted_front before 32 4 79 starts answer left keeps roomy small number in (
        rw (number, place, long),
        front ∙ ap₂ (λ (l : List ℕ) (n : ℕ). l ++ drop n before) made_is long ∙ ap (λ (l : List ℕ). index ++ l) behind_is,
      )

-- and the first of them alone, in the same buffer
pub first_closes : ClosesTo (list0 ++ list1 ++ room 32) 32 4 55 (0 ∷ []) (0 ∷ 0 ∷ 83 ∷ [])
    (list0 ++ hex 28 0x00000000_01000000_20000000_04000000_01000000_37000000_534C4F54 ++ room 28)
unfolding opened judged
first_closes = closing_says _ _ _ _ _ _ _ refl
