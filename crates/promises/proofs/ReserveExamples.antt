-- [Order 6] Examples of telling how large a record can be: those of the tables, and lists that need as many bytes as are told.
use Prim.Native.Nat.{ℕ, ◌≤◌, ◌<◌}
use mathlib.Core.Path.{◌≡◌, ap, ◌∙◌}
use mathlib.Core.Bool.{true}
use mathlib.Core.List.{List, [], ◌∷◌}
use lib.ListN.{length, get_or}
use Rattle.paper.specs.Write.{encode, write_answer, MeetsWrite}
use Rattle.paper.specs.Reserve.{bound_answer, MeetsBound}
use Rattle.paper.specs.declared.Written.{Written}
use Rattle.paper.specs.declared.Bound.{Bound}
use Rattle.paper.proofs.Rows.{Row, holds}
use Rattle.paper.proofs.Rows.Row.{bounding}
use Rattle.paper.proofs.Readings.{readings}
use Rattle.laws.proofs.Lists.{In}
use Rattle.laws.proofs.Equals.{same_true}
use Rattle.meaning.proofs.Parting.{above}
use Rattle.promises.proofs.IndexRows.{Counts}
use Rattle.promises.proofs.ExampleRows as rows
use Rattle.promises.proofs.ExampleRows.{EachRow}
use Rattle.promises.proofs.WriteNumbers.{write_table}
use Rattle.promises.proofs.WriteExamples as writes
use Rattle.promises.proofs.ReserveNumbers.{counts_above}

-- the three numbers of an answer, in the order in which the tables print them
abbrev pub numbers_of : Bound → List ℕ
numbers_of t = t.number ∷ t.place ∷ t.bytes ∷ []

-- what a row of the tables says here
abbrev pub Shown : Row → Type 0
Shown row = (u B cut n : ℕ) (numbers : List ℕ) → row ≡ bounding u B cut n numbers → (most : Bound) → MeetsBound u B cut n most → numbers_of most ≡ numbers

bounding_shown : (u B cut n : ℕ) (numbers : List ℕ) → holds (bounding u B cut n numbers) ≡ true
    → (most : Bound) → MeetsBound u B cut n most → numbers_of most ≡ numbers
unfolding holds
bounding_shown u B cut n numbers h most m = ap numbers_of m ∙ same_true _ numbers h

row_shown : (row : Row) → holds row ≡ true → Shown row
row_shown row h u B cut n numbers e = bounding_shown u B cut n numbers (rw e at h)

-- all of them
pub readings_shown : EachRow Shown readings
readings_shown = rows.all_readings Shown row_shown

-- what is told for n slots above the cut is what these slots need, of which n lie above it: b bytes are enough for them, and no fewer are
abbrev pub Reached : ℕ → ℕ → ℕ → List ℕ → ℕ → ℕ → Type 0
Reached u B cut slots n b =
    Counts u (λ x. In x slots × (cut < x)) n
    × ((most : Bound) → MeetsBound u B cut n most → (most.number ≡ 0) × (most.bytes ≡ b))
    × ((before after : List ℕ) (answer : Written) → MeetsWrite u B cut slots before answer after
    → (b ≤ length before → (answer.number ≡ 0) × (answer.length ≡ b)) × (length before < b → (answer.number ≡ 12) × (answer.place ≡ b)))

-- the record is r, and as long as is told
pub reached : (u B cut : ℕ) (slots : List ℕ) (n : ℕ) (r : List ℕ) → (write_answer u B cut slots (length r)).number ≡ 0 → encode B cut slots ≡ r
    → length (above cut slots) ≡ n → bound_answer u B cut n ≡ record { number = 0; place = 0; bytes = length r } → Reached u B cut slots n (length r)
reached u B cut slots n r ok e count told = (
  rw (← count) (counts_above u B cut slots ((write_table u B cut slots (length r)).accepts.0 ok).writable),
  λ most m. let i = m ∙ told in (ap (λ (t : Bound). t.number) i, ap (λ (t : Bound). t.bytes) i),
  λ before after answer m.
      let t = writes.writes u B cut slots r ok e before in (
        λ l. let i = (t.0 l answer after m).0 in (ap (λ (s : List ℕ). get_or s 0 0) i, ap (λ (s : List ℕ). get_or s 2 0) i),
        λ l. let i = (t.1 l answer after m).0 in (ap (λ (s : List ℕ). get_or s 0 0) i, ap (λ (s : List ℕ). get_or s 1 0) i),
      ),
)
