-- Answers that tell a length, those of writing and of closing, and the buffers afterwards: what the verdict says of both.
use Prim.Native.Nat.{ℕ, ◌≤◌}
use mathlib.Core.Path.{◌≡◌, sym, ap, ◌∙◌}
use mathlib.Core.List.{List, ◌++◌}
use lib.ListN.{length, take, drop}
use lib.Seq.{length-take-le, length_front, take_at, drop_at}
use borrow.Author.Tests.{eq-eqb, ne_eqb}
use Rattle.paper.specs.Lists.{on_front}
use Rattle.paper.specs.Refusal.{if_accepted}
use Rattle.paper.specs.Write.{written_with}
use Rattle.paper.specs.declared.Verdict.{Verdict}
use Rattle.paper.specs.declared.Written.{Written}
use Rattle.promises.proofs.IndexRows.{ByTheTable}

-- the answer and the buffer go by this verdict: where it accepts, this length is told, and the buffer is as it was made
pub record ByVerdict (v : Verdict) (size : ℕ) (made before : List ℕ) (answer : Written) (after : List ℕ) : Type 0 where
  pub tells : answer ≡ written_with v size
  pub leaves : after ≡ if_accepted v made before

module _ {v : Verdict} {size : ℕ} {made before : List ℕ} {answer : Written} {after : List ℕ} (t : ByVerdict v size made before answer after) where
  -- the number is that of the verdict
  pub told_number : answer.number ≡ v.number
  unfolding written_with
  told_number = ap (λ (w : Written). w.number) t.tells

  -- and so is the place
  pub told_place : answer.place ≡ v.place
  unfolding written_with
  told_place = ap (λ (w : Written). w.place) t.tells

  -- Refused
  module _ (n : ¬ (answer.number ≡ 0)) where
    refuses : ¬ (v.number ≡ 0)
    refuses z = n (told_number ∙ z)

    -- the length is 0
    pub none_told : answer.length ≡ 0
    unfolding written_with
    none_told = ap (λ (w : Written). w.length) t.tells ∙ rw (ne_eqb v.number 0 refuses)

    -- and the buffer is as it was
    pub left_alone : after ≡ before
    left_alone = t.leaves ∙ rw (ne_eqb v.number 0 refuses)

  -- Accepted
  module _ (ok : answer.number ≡ 0) where
    accepts : v.number ≡ 0
    accepts = rw told_number at ok

    -- the length is told
    pub length_told : answer.length ≡ size
    unfolding written_with
    length_told = ap (λ (w : Written). w.length) t.tells ∙ rw (eq-eqb v.number 0 accepts)

    -- and the buffer is as it was made
    pub left_made : after ≡ made
    left_made = t.leaves ∙ rw (eq-eqb v.number 0 accepts)

    -- Of x, which is as long as the answer says, made at the front of the buffer
    module _ (x : List ℕ) (is : made ≡ on_front x before) (size_is : length x ≡ size) where
      long : length x ≡ answer.length
      long = size_is ∙ sym length_told

      -- it stands there, and behind it what stood there before
      pub front_made : after ≡ x ++ drop answer.length before
      front_made = left_made ∙ is ∙ ap (λ (n : ℕ). x ++ drop n before) long

      -- as many bytes as the answer says are x
      pub front_read : take answer.length after ≡ x
      front_read = ap (take answer.length) front_made ∙ take_at x (drop answer.length before) answer.length long

      -- and the others are as they were
      pub behind_stays : drop answer.length after ≡ drop answer.length before
      behind_stays = ap (drop answer.length) front_made ∙ drop_at x (drop answer.length before) answer.length long

      -- the buffer, which had room for x, is as long as it was
      pub size_stays : answer.length ≤ length before → length after ≡ length before
      size_stays l = ap length front_made ∙ length_front before x answer.length (long ∙ sym (length-take-le answer.length before l))

  -- Where the verdict goes by the table, a row that refuses tells number and place, with the length 0 and the buffer as it was
  pub row_told : {Refuses : ℕ → ℕ → Type 0} {Accepts : Type 0} → ByTheTable v.number v.place Refuses Accepts → (r p : ℕ) → Refuses r p
      → (answer.number ≡ r) × (answer.place ≡ p) × (answer.length ≡ 0) × (after ≡ before)
  row_told table r p row =
      let g = (table.refuses r p).1 row in
      let number = told_number ∙ g.0 in
      let n : ¬ (answer.number ≡ 0) = λ z. g.2 (sym number ∙ z) in
      (number, told_place ∙ g.1, none_told n, left_alone n)
