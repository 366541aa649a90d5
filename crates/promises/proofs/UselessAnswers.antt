-- Useless programs break the promises of the operations that leave a slice or a buffer. Each kind is held against a call whose answer is known, by what it
-- does there: whatever keeps the promise of that call has certain numbers, in the order in which the tables print them, and leaves certain bytes or slots.
use Prim.Native.Nat.{ℕ}
use mathlib.Core.Path.{◌≡◌, sym, ap, ◌∙◌}
use mathlib.Core.Bool.{false, true≢false}
use mathlib.Core.List.{List}
use lib.ListN.{get_or}
use Rattle.paper.specs.Lists.{has}
use Rattle.laws.proofs.Lists.{In, has_in}

-- the number at position i of a list
abbrev pub at : ℕ → List ℕ → ℕ
at i l = get_or l i 0

module _ {A : Type 0} {numbers_of : A → List ℕ} {Meets : A → List ℕ → Type 0} {numbers after : List ℕ}
    (known : (answer : A) (left : List ℕ) → Meets answer left → (numbers_of answer ≡ numbers) × (left ≡ after)) where
  -- one that refuses, where the answer is to accept
  pub refusing_fails : at 0 numbers ≡ 0 → (answer : A) (left : List ℕ) → ¬ (at 0 (numbers_of answer) ≡ 0) → ¬ (Meets answer left)
  refusing_fails z answer left n m = n (ap (at 0) (known answer left m).0 ∙ z)

  -- one that accepts, where the answer is to refuse
  pub accepting_fails : ¬ (at 0 numbers ≡ 0) → (answer : A) (left : List ℕ) → at 0 (numbers_of answer) ≡ 0 → ¬ (Meets answer left)
  accepting_fails n answer left z m = n (sym (ap (at 0) (known answer left m).0) ∙ z)

  -- one that reports another number at some position
  pub number_fails : (i : ℕ) (answer : A) (left : List ℕ) → ¬ (at i (numbers_of answer) ≡ at i numbers) → ¬ (Meets answer left)
  number_fails i answer left n m = n (ap (at i) (known answer left m).0)

  -- one that leaves another byte or slot at some position
  pub leaving_fails : (i : ℕ) (left : List ℕ) → ¬ (at i left ≡ at i after) → (answer : A) → ¬ (Meets answer left)
  leaving_fails i left n answer m = n (ap (at i) (known answer left m).1)

  -- one that keeps a slot which is not to be kept
  pub keeping_fails : (x : ℕ) → has x after ≡ false → (answer : A) (left : List ℕ) → In x left → ¬ (Meets answer left)
  keeping_fails x h answer left i m = true≢false (sym (has_in x left i) ∙ ap (has x) (known answer left m).1 ∙ h)

  -- one that always does the same, where another call
  module _ {Other : A → List ℕ → Type 0} {numbers' after' : List ℕ}
      (other : (answer : A) (left : List ℕ) → Other answer left → (numbers_of answer ≡ numbers') × (left ≡ after')) where
    -- has another number at some position
    pub same_answer_fails : (i : ℕ) → ¬ (at i numbers ≡ at i numbers') → (answer : A) (s t : List ℕ) → ¬ (Meets answer s × Other answer t)
    same_answer_fails i n answer s t m = n (ap (at i) (sym (known answer s m.0).0 ∙ (other answer t m.1).0))

    -- or leaves another byte or slot there
    pub same_leaving_fails : (i : ℕ) → ¬ (at i after ≡ at i after') → (a b : A) (left : List ℕ) → ¬ (Meets a left × Other b left)
    same_leaving_fails i n a b left m = n (ap (at i) (sym (known a left m.0).1 ∙ (other b left m.1).1))
