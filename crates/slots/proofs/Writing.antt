-- Writing: one law for each way out. What the tests on the way say, all refusals but 12 and then 12, is what the definition says.
use Prim.Native.Nat.{ℕ, ◌≤◌, ◌<◌}
use mathlib.Core.Path.{◌≡◌, refl, sym, ◌∙◌}
use mathlib.Core.List.{List}
use native.Mathlib.Omega.{arith}
use lib.ListN.{length}
use borrow.Author.Tests.{ne_eqb}
use Rattle.paper.specs.Lists.{on_front}
use Rattle.paper.specs.Refusal.{verdict, accepted, fault12}
use Rattle.paper.specs.Write.{encode, write_fault, written_with, write_answer, write_buffer, MeetsWrite}
use Rattle.paper.specs.declared.Verdict.{Verdict}
use Rattle.paper.specs.Fault.{number_of}
use Rattle.paper.specs.declared.Written.{Written}
use Rattle.paper.specs.declared.refusal.Refusal.{Refusal}
use Rattle.laws.proofs.Faults.{no_zero, passes}
use Rattle.laws.proofs.Links.{link_bad, link_good, link_written, twelve_small, twelve}
use Rattle.pack.specs.Measures.{before_room, Judged, LaidOut}
use Rattle.pack.specs.declared.Layout.{Layout}
use Rattle.pack.proofs.Judging.{judged}
use Rattle.slots.specs.Unmade.{unmade}

module _ (u B cut : ℕ) (slots before : List ℕ) where
  abbrev size : ℕ
  size = length (encode B cut slots)

  -- what refuses leaves all as it was
  refuses : (f : Verdict) → write_fault u B cut slots (length before) ≡ f → ¬ (f.number ≡ 0)
      → MeetsWrite u B cut slots before (unmade f.number f.place) before
  unfolding write_answer write_buffer written_with
  refuses f e n = record { answers = rw e (simp (ne_eqb _ _ n)); leaves = rw e (simp (ne_eqb _ _ n)) }

  -- refused for another reason than room
  pub write_refused : (f : Refusal) → verdict (number_of f.fault) f.place ≡ before_room u B cut slots → (r : Written) → r ≡ unmade (number_of f.fault) f.place → MeetsWrite u B cut slots before r before
  unfolding write_fault
  write_refused f is r e = rw e (refuses _ (link_bad _ (link_written u B cut slots) _ is _ (no_zero f.fault)) (no_zero f.fault))

  module _ (is : accepted ≡ before_room u B cut slots) where
    -- not refused: the record can be measured
    pub write_judged : Judged B cut slots
    write_judged = judged u B cut slots (passes _ is)

    to_room : write_fault u B cut slots (length before) ≡ fault12 (length before) size accepted
    unfolding write_fault
    to_room = link_good _ (link_written u B cut slots) _ is _ refl

    module _ (lay : Layout) (l : LaidOut B cut slots lay) where
      -- but there is no room
      pub write_no_room : length before < lay.end → (r : Written) → r ≡ unmade 12 lay.end → MeetsWrite u B cut slots before r before
      write_no_room h r e =
          rw e (refuses (verdict 12 lay.end) (to_room ∙ rw (← l.size) (sym (twelve_small accepted _ _ h))) (λ e. omega arith))

      -- there is, and the record is written
      pub write_done : lay.end ≤ length before → (after : List ℕ) → after ≡ on_front (encode B cut slots) before
          → MeetsWrite u B cut slots before (record { number = 0; place = 0; length = lay.end }) after
      unfolding write_answer write_buffer written_with
      write_done h after e =
          let f : write_fault u B cut slots (length before) ≡ accepted = to_room ∙ rw (← l.size) (sym (twelve accepted _ _ h accepted refl)) in
          record { answers = rw f (rw (← l.size)); leaves = rw f e }

-- all of these
pub ruleset writings = (write_refused, write_judged, write_no_room, write_done)
