-- Closing: one law for each way out.
use Prim.Native.Nat.{ℕ, ◌≤◌}
use mathlib.Core.Path.{◌≡◌, ◌∙◌}
use mathlib.Core.List.{List}
use lib.ListN.{length}
use lib.Seq.{sets}
use borrow.Author.Tests.{ne_eqb}
use Rattle.paper.specs.Refusal.{verdict, accepted, finished}
use Rattle.paper.specs.Write.{written_with}
use Rattle.paper.specs.Close.{close_fault, frame_bytes, close_answer, close_buffer, MeetsClose}
use Rattle.paper.specs.declared.Written.{Written}
use Rattle.closing.proofs.Checks.{Given, close_passed}
use Rattle.closing.proofs.Puts.{frame_behind}
use Rattle.slots.specs.Unmade.{unmade}
use Rattle.paper.specs.Fault.{number_of}
use Rattle.paper.specs.declared.refusal.Refusal.{Refusal}
use Rattle.laws.proofs.Faults.{no_zero, passes}

module _ (bs : List ℕ) (u B D : ℕ) (starts : List ℕ) where
  -- what refuses leaves all as it was
  pub close_refused : (f : Refusal) → verdict (number_of f.fault) f.place ≡ close_fault bs u B D starts → (r : Written) → r ≡ unmade (number_of f.fault) f.place → MeetsClose bs u B D starts r bs
  unfolding close_answer close_buffer written_with
  close_refused f is r e =
      let n = no_zero f.fault in
      rw e (record { answers = rw (← is) (simp (ne_eqb _ _ n)); leaves = rw (← is) (simp (ne_eqb _ _ n)) })

  module _ (is : accepted ≡ close_fault bs u B D starts) where
    known : Given (length bs) B D starts
    known = close_passed bs u B D starts (passes _ is)

    -- nothing refuses: the lists are few
    pub close_few : length starts ≤ 4096
    close_few = known.few

    -- the finished index fits
    pub close_fits : finished D (length starts) ≤ length bs
    close_fits = known.fits

    -- and is not large
    pub close_small : (size : ℕ) → size ≡ finished D (length starts) → size ≤ 16777216
    close_small size e = rw e known.small

    -- with directory and trailer written it is made
    pub close_made : (size : ℕ) → size ≡ finished D (length starts) → (after : List ℕ) → after ≡ sets bs D (frame_bytes u B D starts)
        → MeetsClose bs u B D starts (record { number = 0; place = 0; length = size }) after
    unfolding close_answer close_buffer written_with
    close_made size e after w = record { answers = rw (← is, e); leaves = rw (← is) (w ∙ frame_behind bs u B D starts close_fits) }

-- all of these
pub ruleset closings = (close_refused, close_few, close_fits, close_small, close_made)
