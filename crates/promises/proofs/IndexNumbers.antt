-- Looking at an index: a number and a place are given exactly when the rows of the table say so.
use Prim.Native.Nat.{ℕ}
use mathlib.Core.Path.{◌≡◌, sym, ap, subst₂, ◌∙◌}
use mathlib.Core.List.{List}
use Rattle.paper.specs.Refusal.{verdict, accepted}
use Rattle.paper.specs.Look.{look}
use Rattle.paper.specs.declared.Verdict.{Verdict}
use Rattle.laws.proofs.Parts.{AllBytes}
use Rattle.promises.proofs.IndexRows.{Refused, WellFormed, ByTheTable}
use Rattle.promises.proofs.IndexLooks.{well_accepted, not_zero, refused_given}
use Rattle.promises.proofs.IndexJudged.{judged}
use Rattle.promises.proofs.IndexJudged.Judged.{bad, good}

-- what is to be shown for it: each condition has its answer, and one of them always holds
pub data Either (Refuses : ℕ → ℕ → Type 0) (Accepts : Type 0) : Type 0 where
  one_refuses : (r p : ℕ) → Refuses r p → Either Refuses Accepts
  all_accept : Accepts → Either Refuses Accepts

module _ (v : Verdict) (Refuses : ℕ → ℕ → Type 0) (Accepts : Type 0) (gives : (r p : ℕ) → Refuses r p → v ≡ verdict r p)
    (nonzero : (r p : ℕ) → Refuses r p → ¬ (r ≡ 0)) (passes : Accepts → v ≡ accepted) (either : Either Refuses Accepts) where
  numbered : (r p : ℕ) → Refuses r p → v.number ≡ r
  numbered r p t = ap (λ (v : Verdict). v.number) (gives r p t)

  lies : (r p : ℕ) → Refuses r p → v.place ≡ p
  lies r p t = ap (λ (v : Verdict). v.place) (gives r p t)

  refuses_is : ¬ (v.number ≡ 0) → Refuses v.number v.place
  refuses_is n =
      elim either [
        | one_refuses r p t ↦ subst₂ Refuses (sym (numbered r p t)) (sym (lies r p t)) t
        | all_accept a ↦ absurd (n (ap (λ (v : Verdict). v.number) (passes a)))
      ]

  accepts_is : v.number ≡ 0 → Accepts
  accepts_is z =
      elim either [
        | one_refuses r p t ↦ absurd (nonzero r p t (sym (numbered r p t) ∙ z))
        | all_accept a ↦ a
      ]

  -- so the operation goes by the table
  pub by_the_table : ByTheTable v.number v.place Refuses Accepts
  by_the_table =
      record {
        refuses = λ r p. (
          λ t. subst₂ Refuses t.0 t.1 (refuses_is (λ z. t.2 (sym t.0 ∙ z))),
          λ t. (numbered r p t, lies r p t, nonzero r p t),
        );
        accepts = (accepts_is, λ a. ap (λ (v : Verdict). v.number) (passes a));
        placed = λ z. ap (λ (v : Verdict). v.place) (passes (accepts_is z));
        one = λ r p q o s t. (sym (numbered r p s) ∙ numbered q o t, sym (lies r p s) ∙ lies q o t);
        apart = λ r p t a. nonzero r p t (sym (numbered r p t) ∙ ap (λ (v : Verdict). v.number) (passes a));
      }

-- some row refuses the bytes, or they are a well-formed index
pub look_either : (bs : List ℕ) → AllBytes bs → Either (Refused bs) (WellFormed bs)
look_either bs all =
    elim (judged bs all) [
      | bad r p t ↦ one_refuses r p t
      | good w ↦ all_accept w
    ]

-- so looking goes by the table
pub look_by_the_table : (bs : List ℕ) → AllBytes bs → ByTheTable (look bs).number (look bs).place (Refused bs) (WellFormed bs)
look_by_the_table bs all =
    by_the_table (look bs) (Refused bs) (WellFormed bs) (refused_given bs all) (not_zero bs all) (well_accepted bs all) (look_either bs all)
