-- A name, and a slot that is tested or asked from: a number and a place are given exactly when the rows of the table say so.
use Prim.Native.Nat.{ℕ}
use mathlib.Core.Path.{◌≡◌, ap, ◌∙◌}
use mathlib.Core.Logic.◌⊎◌.{inl, inr}
use mathlib.Core.List.{List}
use native.Mathlib.Decide.{dec_lt}
use native.Mathlib.Omega.{arith}
use Rattle.paper.specs.Refusal.{verdict, accepted, fault16}
use Rattle.paper.specs.Index.{u_of, k_of}
use Rattle.paper.specs.Look.{look}
use Rattle.paper.specs.OneList.{name_fault, test_fault}
use Rattle.paper.specs.declared.Verdict.{Verdict}
use Rattle.laws.proofs.Parts.{AllBytes}
use Rattle.laws.proofs.Frames.{or_given, or_second}
use Rattle.laws.proofs.Names.{name_below, name_past}
use Rattle.promises.proofs.IndexRows.{NameRefused, NameAccepted, TestRefused, TestAccepted, ByTheTable}
use Rattle.promises.proofs.IndexRows.NameRefused.{index, unknown}
use Rattle.promises.proofs.IndexRows.TestRefused.{named, outside}
use Rattle.promises.proofs.IndexReads.{well_k, well_u}
use Rattle.promises.proofs.IndexFrame.{within_passes, within_fails}
use Rattle.promises.proofs.IndexLooks.{well_looked, not_zero, refused_given}
use Rattle.promises.proofs.IndexJudged.{inside_or}
use Rattle.promises.proofs.IndexNumbers.{by_the_table, Either, look_either}
use Rattle.promises.proofs.IndexNumbers.Either.{one_refuses, all_accept}

module _ (bs : List ℕ) (all : AllBytes bs) where
  module _ (name : ℕ) where
    -- a name refused by some row has its number and place
    name_gives : (r p : ℕ) → NameRefused bs name r p → name_fault bs name ≡ verdict r p
    unfolding name_fault
    name_gives r p (index t) = or_given (look bs) _ r p (refused_given bs all r p t) (not_zero bs all r p t)
    name_gives r p (unknown w l) = or_second (look bs) _ (well_looked bs all w) ∙ name_past (k_of bs) name accepted (rw (well_k bs w) l)

    -- which is not 0
    name_nonzero : (r p : ℕ) → NameRefused bs name r p → ¬ (r ≡ 0)
    name_nonzero r p (index t) = not_zero bs all r p t
    name_nonzero r p (unknown w l) = λ z. omega arith

    -- a good name is accepted
    pub name_passes : NameAccepted bs name → name_fault bs name ≡ accepted
    unfolding name_fault
    name_passes a = or_second (look bs) _ (well_looked bs all a.well) ∙ name_below (k_of bs) name accepted (rw (well_k bs a.well) a.below)

    -- one or the other
    name_either : Either (NameRefused bs name) (NameAccepted bs name)
    name_either =
        elim (look_either bs all) [
          | one_refuses r p t ↦ one_refuses r p (index t)
          | all_accept w ↦
              elim (dec_lt name w.trailer.k) [
                | yes l ↦ all_accept (record { well = w; below = l })
                | no g ↦ one_refuses 11 0 (unknown w (omega arith))
              ]
        ]

    -- so an operation on one list goes by the table
    pub name_table : ByTheTable (name_fault bs name).number (name_fault bs name).place (NameRefused bs name) (NameAccepted bs name)
    name_table = by_the_table (name_fault bs name) (NameRefused bs name) (NameAccepted bs name) name_gives name_nonzero name_passes name_either

    module _ (slot : ℕ) where
      test_gives : (r p : ℕ) → TestRefused bs name slot r p → test_fault bs name slot ≡ verdict r p
      unfolding test_fault fault16
      test_gives r p (named t) = or_given (name_fault bs name) _ r p (name_gives r p t) (name_nonzero r p t)
      test_gives r p (outside a o) =
          or_second (name_fault bs name) _ (ap (λ (v : Verdict). v.number) (name_passes a)) ∙ within_fails 1 (u_of bs) slot (verdict 16 0) accepted (rw (well_u bs a.well) o)

      test_nonzero : (r p : ℕ) → TestRefused bs name slot r p → ¬ (r ≡ 0)
      test_nonzero r p (named t) = name_nonzero r p t
      test_nonzero r p (outside a o) = λ z. omega arith

      -- a good slot in a good name is accepted
      pub test_passes : TestAccepted bs name slot → test_fault bs name slot ≡ accepted
      unfolding test_fault fault16
      test_passes a =
          or_second (name_fault bs name) _ (ap (λ (v : Verdict). v.number) (name_passes a.named))
          ∙ within_passes 1 (u_of bs) slot (verdict 16 0) accepted (rw (well_u bs a.named.well) a.inside)

      test_either : Either (TestRefused bs name slot) (TestAccepted bs name slot)
      test_either =
          elim name_either [
            | one_refuses r p t ↦ one_refuses r p (named t)
            | all_accept a ↦
                elim (inside_or 1 a.well.trailer.u slot) [
                  | inl i ↦ all_accept (record { named = a; inside = i })
                  | inr o ↦ one_refuses 16 0 (outside a o)
                ]
          ]

      -- and so does a test
      pub test_table : ByTheTable (test_fault bs name slot).number (test_fault bs name slot).place (TestRefused bs name slot) (TestAccepted bs name slot)
      test_table =
          by_the_table (test_fault bs name slot) (TestRefused bs name slot) (TestAccepted bs name slot) test_gives test_nonzero test_passes test_either
