-- WHAT IS PROMISED of telling how large a record can be, before its slots are written [order 6]: its refusals, the number of bytes, that no record needs more, and that some need
-- as many. Every statement has a name and its meaning in plain words; the line behind it is its proof, which cites other files. The rows of the table, and the
-- number in the order's own words, are in ReserveRows; what a reader needs of writing is in Writing and WriteRows. `Counts u P n`: n slots in 1..u have the
-- property P. `In x xs`: x is one of the list xs. `EachRow P rows`: P holds of each row of a table. `Shown` and `Reached` are in ReserveExamples.
use Prim.Native.Nat.{ℕ, ◌≤◌, ◌<◌}
use mathlib.Core.Path.{◌≡◌, refl, sym, ap, ◌∙◌}
use mathlib.Core.Logic.{◌↔◌}
use mathlib.Core.List.{List, [], ◌∷◌}
use native.Mathlib.Omega.{arith}
use lib.ListN.{length}
use Rattle.paper.specs.Reserve.{bound_answer, MeetsBound}
use Rattle.paper.specs.declared.Bound.{Bound}
use Rattle.paper.proofs.Hex.{hex, list0, list1, slots0, slots1}
use Rattle.paper.proofs.Open.{opened}
use Rattle.paper.proofs.Readings.{readings}
use Rattle.laws.proofs.Lists.{In}
use Rattle.promises.proofs.IndexRows.{ByTheTable, Counts}
use Rattle.promises.proofs.UselessPrograms.{refusing_fails, same_fails}
use Rattle.promises.proofs.ExampleRows.{EachRow}
use Rattle.promises.proofs.WriteRows.{Writable}
use Rattle.promises.proofs.WriteAnswers as writes
use Rattle.promises.proofs.Writing.{OfWritings, OfAccepted}
use Rattle.promises.proofs.ReserveRows.{BoundFor, BoundRefused, BoundAccepted}
use Rattle.promises.proofs.ReserveNumbers as numbers
use Rattle.promises.proofs.ReserveExamples as examples
use Rattle.promises.proofs.ReserveExamples.{Shown, Reached}

-- of every u, B, cut and number of slots above it, and of any answer that keeps the promise
abbrev pub OfBounds : (ℕ → ℕ → ℕ → ℕ → Bound → Type 0) → Type 0
OfBounds P = (u B cut n : ℕ) (most : Bound) → MeetsBound u B cut n most → P u B cut n most

-- of every n that is the number of a writing's slots above the cut (an accepted one has such a number: HeadCount in Writing), and of any answer that keeps the promise of telling
-- the bound for it
abbrev pub OfBoundsFor : ℕ → ℕ → ℕ → List ℕ → (Bound → Type 0) → Type 0
OfBoundsFor u B cut slots P = (n : ℕ) → Counts u (λ x. In x slots × (cut < x)) n → (most : Bound) → MeetsBound u B cut n most → P most

-- THE TABLE READ AS CONDITIONS

-- It gives the number and the place of the row that refuses u, B, the cut or the number of slots above it, and accepts exactly where none does.
abbrev pub BoundByTheTable : Type 0
BoundByTheTable =
    (u B cut n : ℕ) → ByTheTable (bound_answer u B cut n).number (bound_answer u B cut n).place (BoundRefused u B cut n) (BoundAccepted u B cut n)

pub bound_by_the_table : BoundByTheTable
bound_by_the_table = numbers.bound_table

-- THE NUMBER OF BYTES

-- All of it by the rows alone: what no row refuses is accepted, with the place 0, and told are the bytes of the order's sum, and no other number.
abbrev pub BoundTells : Type 0
BoundTells =
    OfBounds λ u B cut n most.
    BoundAccepted u B cut n → (most.number ≡ 0) × (most.place ≡ 0) × ((b : ℕ) → BoundFor u B cut n b ↔ (b ≡ most.bytes))

pub bound_tells : BoundTells
bound_tells u B cut n most m a = (
  numbers.told_number u B cut n most m a,
  numbers.told_place u B cut n most m a,
  numbers.told_bytes u B cut n most m a,
)

-- NO RECORD NEEDS MORE

-- Every writing that is accepted has a length of at most the order's sum, for its u, B and cut and for how many of its slots lie above the cut.
abbrev pub BoundSum : Type 0
BoundSum =
    OfAccepted λ u B cut slots before answer after.
    (n : ℕ) → Counts u (λ x. In x slots × (cut < x)) n → (b : ℕ) → BoundFor u B cut n b → answer.length ≤ b

pub bound_sum : BoundSum
bound_sum u B cut slots before answer after m ok n c b f =
    let w = (writes.passed u B cut slots before answer after m ok).writable in
    rw (writes.length_is u B cut slots before answer after m ok) (numbers.sum_within u B cut n slots w c b f)

-- Every writing that is accepted has a length of at most the bytes told for its u, B and cut and for how many of its slots lie above the cut; and for these
-- the bound is never refused.
abbrev pub BoundHolds : Type 0
BoundHolds = OfAccepted λ u B cut slots before answer after. OfBoundsFor u B cut slots λ most. (most.number ≡ 0) × (answer.length ≤ most.bytes)

pub bound_holds : BoundHolds
bound_holds u B cut slots before answer after m ok n c most b =
    let w = (writes.passed u B cut slots before answer after m ok).writable in (
      numbers.told_number u B cut n most b (numbers.bound_accepts u B cut n most b slots w c),
      rw (writes.length_is u B cut slots before answer after m ok) (numbers.record_within u B cut n most b slots w c),
    )

-- So no writing into a buffer of at least so many bytes is refused with 12, whatever the slots: only where rows 4, 15 and 13 do not refuse them need n be how many of
-- them lie above the cut.
abbrev pub BoundNeverTwelve : Type 0
BoundNeverTwelve =
    OfWritings λ u B cut slots before answer after.
    (n : ℕ) → (Writable u B cut slots → Counts u (λ x. In x slots × (cut < x)) n) → (most : Bound) → MeetsBound u B cut n most
    → most.bytes ≤ length before → ¬ (answer.number ≡ 12)

pub bound_never_twelve : BoundNeverTwelve
bound_never_twelve = numbers.never_twelve

-- And where rows 4, 15 and 13 do not refuse them, the slots are written into such a buffer.
abbrev pub BoundSuffices : Type 0
BoundSuffices =
    OfWritings λ u B cut slots before answer after.
    Writable u B cut slots → OfBoundsFor u B cut slots λ most. most.bytes ≤ length before → answer.number ≡ 0

pub bound_suffices : BoundSuffices
bound_suffices u B cut slots before answer after m w n c most b l =
    writes.tells_number u B cut slots before answer after m (numbers.room_enough u B cut n most b slots w c before l)

-- SOME NEED AS MANY. `Reached u B cut slots n b`: n of these slots lie above the cut, b bytes are told for that, and every writing of the slots into a buffer of at least so
-- many bytes is accepted with the length b, while every shorter buffer is refused with 12.

-- Slots 1 and 130, whose one code has two bytes; and both lists of the paper's index.
abbrev pub BoundReached : Type 0
BoundReached = Reached 130 128 0 (1 ∷ 130 ∷ []) 2 22 × Reached 32 4 0 slots0 15 55 × Reached 32 4 16 slots1 3 24

pub bound_reached : BoundReached
unfolding opened
bound_reached = (
  examples.reached 130 128 0 (1 ∷ 130 ∷ []) 2 (hex 22 0x00000000_02000000_02000000_01000000_00000000_80_01) refl refl refl refl,
  examples.reached 32 4 0 slots0 15 list0 refl refl refl refl,
  examples.reached 32 4 16 slots1 3 list1 refl refl refl refl,
)

-- REFUSAL

-- Refused, it tells 0 bytes.
abbrev pub BoundRefusal : Type 0
BoundRefusal = OfBounds λ u B cut n most. ¬ (most.number ≡ 0) → most.bytes ≡ 0

pub bound_refusal : BoundRefusal
bound_refusal = numbers.none_told

-- All of it by the rows alone: what a row refuses has the number and the place of that row, and 0 bytes.
abbrev pub BoundRefuses : Type 0
BoundRefuses =
    OfBounds λ u B cut n most. (r p : ℕ) → BoundRefused u B cut n r p → (most.number ≡ r) × (most.place ≡ p) × (most.bytes ≡ 0)

pub bound_refuses : BoundRefuses
bound_refuses = numbers.row_told

-- ONE ANSWER

-- Any two answers that keep the promise are the same.
abbrev pub BoundOne : Type 0
BoundOne = (u B cut n : ℕ) (s t : Bound) → MeetsBound u B cut n s → MeetsBound u B cut n t → s ≡ t

pub bound_one : BoundOne
bound_one u B cut n s t a b = a ∙ sym b

-- EXAMPLES

-- Whatever keeps the promise has the numbers that are printed in the table of the further examples.
abbrev pub TableBounds : Type 0
TableBounds = EachRow Shown readings

pub table_bounds : TableBounds
table_bounds = examples.readings_shown

-- NO USELESS PROGRAM

-- One that refuses everything breaks the promise at the paper's list 1.
abbrev pub BoundNotRefusing : Type 0
BoundNotRefusing = (most : Bound) → ¬ (most.number ≡ 0) → ¬ (MeetsBound 32 4 16 3 most)

pub bound_not_refusing : BoundNotRefusing
unfolding opened
bound_not_refusing = refusing_fails (λ (t : Bound). t.number) (bound_answer 32 4 16 3) refl

-- One that always tells the same, were it enough for every record, breaks it at the paper's list 1, which is told 24, or at list 0, which is told 55.
abbrev pub BoundNotOneAnswer : Type 0
BoundNotOneAnswer = (most : Bound) → ¬ (MeetsBound 32 4 16 3 most × MeetsBound 32 4 0 15 most)

pub bound_not_one_answer : BoundNotOneAnswer
unfolding opened
bound_not_one_answer =
    same_fails (λ (t : Bound). t.bytes) (bound_answer 32 4 16 3) (bound_answer 32 4 0 15) (λ e. let z : ◌≡◌ {A = ℕ} 24 55 = e in omega arith)

-- One that accepts everything breaks it where 17 slots are to lie above a cut that leaves 16.
abbrev pub BoundNotAccepting : Type 0
BoundNotAccepting = (most : Bound) → most.number ≡ 0 → ¬ (MeetsBound 32 4 16 17 most)

pub bound_not_accepting : BoundNotAccepting
unfolding opened
bound_not_accepting most z m = let e : ◌≡◌ {A = ℕ} 0 13 = sym z ∙ ap (λ (t : Bound). t.number) m in omega arith
