-- The questions among the paper's examples: whatever keeps the promise of one gives the answer that is printed with it, and leaves the slice
-- that is printed.
use Prim.Native.Nat.{ℕ}
use mathlib.Core.Path.{◌≡◌, ap, ◌∙◌}
use mathlib.Core.Bool.{true, and-eq-true_iff}
use mathlib.Core.Option.{Option}
use mathlib.Core.List.{List, [], ◌∷◌}
use Rattle.paper.specs.Ask.{MeetsAsk}
use Rattle.paper.specs.Program.{program}
use Rattle.paper.specs.declared.Answer.{Answer}
use Rattle.paper.proofs.Rows.{Row, holds, sixteen}
use Rattle.paper.proofs.Rows.Row.{asking, running}
use Rattle.paper.proofs.Table.{table}
use Rattle.paper.proofs.Readings.{readings}
use Rattle.laws.proofs.Equals.{same_true}
use Rattle.promises.proofs.ExampleRows as rows
use Rattle.promises.proofs.ExampleRows.{EachRow, row_at, labelled}

-- the five numbers of an answer, in the order in which the tables print them
abbrev pub numbers_of : Answer → List ℕ
numbers_of a = a.number ∷ a.place ∷ a.count ∷ a.looks ∷ a.codes ∷ []

-- whatever keeps the promise of this question has these five numbers, and leaves this slice
abbrev pub Gives : List ℕ → ℕ → List ℕ → List ℕ → List ℕ → List ℕ → Type 0
Gives bs way names before numbers after =
    (answer : Answer) (left : List ℕ) → MeetsAsk bs way names before answer left → (numbers_of answer ≡ numbers) × (left ≡ after)

-- whatever keeps the promise of this question has these looks and codes at its names' places, and 0 at all others of the sixteen
abbrev pub Charges : List ℕ → ℕ → List ℕ → List ℕ → List ℕ → List ℕ → Type 0
Charges bs way names before looks codes =
    (answer : Answer) (left : List ℕ) → MeetsAsk bs way names before answer left → (answer.looks16 ≡ sixteen looks) × (answer.codes16 ≡ sixteen codes)

-- what a row of the tables says here: of a question with all that it cost, and of a text that the program is given
pub record Printed (row : Row) : Type 0 where
  pub asked : (bs : List ℕ) (way : ℕ) (names before numbers looks codes after : List ℕ) → row ≡ asking bs way names before numbers looks codes after
      → Gives bs way names before numbers after × Charges bs way names before looks codes
  pub run : (file : Option (List ℕ)) (text output : List ℕ) → row ≡ running file text output → program file text ≡ output

-- a question that holds
question_printed : (bs : List ℕ) (way : ℕ) (names before numbers looks codes after : List ℕ)
    → holds (asking bs way names before numbers looks codes after) ≡ true → Gives bs way names before numbers after × Charges bs way names before looks codes
unfolding holds
question_printed bs way names before numbers looks codes after h =
    let p = (and-eq-true_iff _ _).0 h in
    let q = (and-eq-true_iff _ _).0 p.0 in
    let r = (and-eq-true_iff _ _).0 q.0 in (
      λ answer left m. (ap numbers_of m.answers ∙ same_true _ numbers r.0, m.leaves ∙ same_true _ after p.1),
      λ answer left m. (
        ap (λ (a : Answer). a.looks16) m.answers ∙ same_true _ (sixteen looks) r.1,
        ap (λ (a : Answer). a.codes16) m.answers ∙ same_true _ (sixteen codes) q.1,
      ),
    )

-- a text that holds
text_printed : (file : Option (List ℕ)) (text output : List ℕ) → holds (running file text output) ≡ true → program file text ≡ output
unfolding holds
text_printed file text output h = same_true _ output h

row_printed : (row : Row) → holds row ≡ true → Printed row
row_printed row h =
    record {
      asked = λ bs way names before numbers looks codes after e. question_printed bs way names before numbers looks codes after (rw e at h);
      run = λ file text output e. text_printed file text output (rw e at h);
    }

-- all rows of both tables
pub tables_printed : EachRow Printed table × EachRow Printed readings
tables_printed = (rows.all_table Printed row_printed, rows.all_readings Printed row_printed)

-- of the paper's table, by place
pub in_table : (i : ℕ) → Printed (row_at table i)
in_table = rows.in_table Printed row_printed

-- of the other, by label
pub in_readings : (n : ℕ) → Printed (labelled readings n)
in_readings = rows.in_readings Printed row_printed
