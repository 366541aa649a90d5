-- Telling the bound of a record: one law for each way out, and what is known where nothing is refused.
use Prim.Native.Nat.{ℕ, ◌-◌, ◌≤◌, ◌<◌}
use mathlib.Core.Path.{◌≡◌}
use borrow.Author.Tests.{ne_eqb}
use Rattle.paper.specs.Refusal.{verdict, accepted}
use Rattle.paper.specs.Reserve.{most_bytes, bound_fault, bound_answer}
use Rattle.reserve.proofs.Sums.{Roomy, roomy}
use Rattle.paper.specs.Fault.{number_of}
use Rattle.paper.specs.declared.refusal.Fault.{Fault}
use Rattle.laws.proofs.Faults.{no_zero, passes}

module _ (u B cut n : ℕ) where
  -- refused, with the number r
  pub bound_refused : (f : Fault) → verdict (number_of f) 0 ≡ bound_fault u B cut n → (r : ℕ) → r ≡ number_of f → record { number = r; place = 0; bytes = 0 } ≡ bound_answer u B cut n
  unfolding bound_answer
  bound_refused f is r isR = rw (isR, ← is) (simp (ne_eqb _ _ (no_zero f)))

  module _ (is : accepted ≡ bound_fault u B cut n) where
    room : Roomy u B cut n
    room = roomy u B cut n (passes _ is)

    -- not refused: u is small enough for the sum
    pub bound_small : u ≤ 1048576
    bound_small = room.small

    -- blocks have slots
    pub bound_some : 0 < B
    bound_some = room.some

    -- the cut is within u
    pub bound_cut : cut ≤ u
    bound_cut = room.cut_within

    -- and so are the slots above it
    pub bound_few : n ≤ u - cut
    bound_few = room.few

    -- and so many bytes are told
    pub bound_told : (b : ℕ) → b ≡ most_bytes u B cut n → record { number = 0; place = 0; bytes = b } ≡ bound_answer u B cut n
    unfolding bound_answer
    bound_told b e = rw (← is, e)

-- all of these
pub ruleset bounds = (bound_refused, bound_small, bound_some, bound_cut, bound_few, bound_told)
