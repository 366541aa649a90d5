-- Examples of writing: whatever keeps the promise of one has the numbers that are printed, and leaves the bytes that are printed. Two kinds are by
-- computation, and for every buffer: a record that is written wherever it has room, and a refusal that goes by the slots. The others are the
-- writings in the paper's tables.
use Prim.Native.Nat.{ℕ, ◌≤◌, ◌<◌}
use mathlib.Core.Path.{◌≡◌, refl, sym, ap, ◌∙◌}
use mathlib.Core.Bool.{true, and-eq-true_iff}
use mathlib.Core.List.{List, [], ◌∷◌, ◌++◌}
use native.Mathlib.Omega.{arith}
use lib.ListN.{length, drop}
use borrow.Author.Tests.{eq-eqb, ne_eqb}
use Rattle.paper.specs.Lists.{on_front}
use Rattle.paper.specs.Refusal.{verdict, accepted, fault12}
use Rattle.paper.specs.Write.{encode, write_fault, written_with, write_answer, write_buffer, MeetsWrite}
use Rattle.paper.specs.declared.Verdict.{Verdict}
use Rattle.paper.specs.declared.Written.{Written}
use Rattle.paper.proofs.Rows.{Row, holds}
use Rattle.paper.proofs.Rows.Row.{writing}
use Rattle.paper.proofs.Table.{table}
use Rattle.paper.proofs.Readings.{readings}
use Rattle.laws.proofs.Equals.{same_true}
use Rattle.laws.proofs.Links.{twelve_small, twelve}
use Rattle.promises.proofs.ExampleRows as rows
use Rattle.promises.proofs.ExampleRows.{EachRow, numbers_of}
use Rattle.promises.proofs.WriteNumbers.{to_room, write_table}

-- whatever keeps the promise of this writing has these three numbers, and leaves this buffer
abbrev pub Leaves : ℕ → ℕ → ℕ → List ℕ → List ℕ → List ℕ → List ℕ → Type 0
Leaves u B cut slots before numbers after =
    (answer : Written) (left : List ℕ) → MeetsWrite u B cut slots before answer left → (numbers_of answer ≡ numbers) × (left ≡ after)

-- into every buffer that has room for it, r is written to the front, and what stood behind it stays; every other is refused with 12
abbrev pub Writes : ℕ → ℕ → ℕ → List ℕ → List ℕ → Type 0
Writes u B cut slots r =
    (before : List ℕ)
    → (length r ≤ length before → Leaves u B cut slots before (0 ∷ 0 ∷ length r ∷ []) (r ++ drop (length r) before))
    × (length before < length r → Leaves u B cut slots before (12 ∷ length r ∷ 0 ∷ []) before)

-- whatever the buffer, this number and this place are given, and it stays as it was
abbrev pub Refuses : ℕ → ℕ → ℕ → List ℕ → ℕ → ℕ → Type 0
Refuses u B cut slots number place = (before : List ℕ) → Leaves u B cut slots before (number ∷ place ∷ 0 ∷ []) before

module _ (u B cut : ℕ) (slots : List ℕ) where
  -- a verdict tells the answer and the buffer
  module _ (before : List ℕ) (v : Verdict) (e : write_fault u B cut slots (length before) ≡ v) where
    taken : v.number ≡ 0 → Leaves u B cut slots before (0 ∷ v.place ∷ length (encode B cut slots) ∷ []) (on_front (encode B cut slots) before)
    unfolding write_answer written_with write_buffer
    taken z answer left m = (ap numbers_of m.answers ∙ rw (e, eq-eqb _ 0 z, z), m.leaves ∙ rw (e, eq-eqb _ 0 z))

    turned : ¬ (v.number ≡ 0) → Leaves u B cut slots before (v.number ∷ v.place ∷ 0 ∷ []) before
    unfolding write_answer written_with write_buffer
    turned n answer left m = (ap numbers_of m.answers ∙ rw (e, ne_eqb _ 0 n), m.leaves ∙ rw (e, ne_eqb _ 0 n))

  -- what is accepted in one buffer is written into every other with room
  pub writes : (r : List ℕ) → (write_answer u B cut slots (length r)).number ≡ 0 → encode B cut slots ≡ r → Writes u B cut slots r
  writes r ok e before = (
    λ l. rw e at (taken before accepted (to (length before) ∙ sym (twelve accepted _ _ (rw e l) accepted refl)) refl),
    λ l. rw e at (turned before (verdict 12 _) (to (length before) ∙ sym (twelve_small accepted _ _ (rw e l))) (omega arith)),
  )
    where
      to : (room : ℕ) → write_fault u B cut slots room ≡ fault12 room (length (encode B cut slots)) accepted
      to room = to_room u B cut slots room ((write_table u B cut slots (length r)).accepts.0 ok).writable

  -- and what is refused in every buffer leaves each as it was
  pub refuses : (number place : ℕ) → ((room : ℕ) → write_fault u B cut slots room ≡ verdict number place) → ¬ (number ≡ 0)
      → Refuses u B cut slots number place
  refuses number place e n before = turned before (verdict number place) (e (length before)) n

-- what a row of the tables says here
abbrev pub Shown : Row → Type 0
Shown row =
    (u B cut : ℕ) (slots before numbers after : List ℕ) → row ≡ writing u B cut slots before numbers after → Leaves u B cut slots before numbers after

writing_shown : (u B cut : ℕ) (slots before numbers after : List ℕ) → holds (writing u B cut slots before numbers after) ≡ true
    → Leaves u B cut slots before numbers after
unfolding holds
writing_shown u B cut slots before numbers after h =
    let p = (and-eq-true_iff _ _).0 h in
    λ answer left m. (ap numbers_of m.answers ∙ same_true _ numbers p.0, m.leaves ∙ same_true _ after p.1)

row_shown : (row : Row) → holds row ≡ true → Shown row
row_shown row h u B cut slots before numbers after e = writing_shown u B cut slots before numbers after (rw e at h)

-- all rows of both tables
pub tables_shown : EachRow Shown table × EachRow Shown readings
tables_shown = (rows.all_table Shown row_shown, rows.all_readings Shown row_shown)
