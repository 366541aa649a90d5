-- What closing finds from row 5 on is what looking says of the bytes that it makes.
use Prim.Native.Nat.{ℕ, zero, suc, ◌+◌, ◌*◌, ◌≤◌, ◌<◌}
use mathlib.Core.Path.{◌≡◌, refl, sym, ap, ap₂, fun_ext, ◌∙◌}
use mathlib.Core.Bool.{Bool, true, false}
use mathlib.Core.List.{List}
use native.Mathlib.Omega.{arith}
use lib.ListN.{length, take, get_or-eq_default}
use lib.Dec.{eqb}
use borrow.Author.Tests.{eqb-true}
use Rattle.paper.specs.Lists.{pick}
use Rattle.paper.specs.Bytes.{part}
use Rattle.paper.specs.Refusal.{verdict, accepted, or_else, too_short, starts_fault, fault1, fault12}
use Rattle.paper.specs.Index.{start_of, record_of}
use Rattle.paper.specs.Look.{frame_fault, list_fault, lists_fault, in_lists, look}
use Rattle.paper.specs.Close.{start_in, close_fault}
use Rattle.paper.specs.declared.Verdict.{Verdict}
use Rattle.laws.proofs.Lists.{Each}
use Rattle.laws.proofs.Frames.{Laid, laid, records_laid, looked}
use Rattle.laws.proofs.Links.{one, twelve}
use Rattle.promises.proofs.IndexRows.{Word}
use Rattle.promises.proofs.IndexReads.{u_read, b_read, k_read, d_read}
use Rattle.promises.proofs.IndexFrame.{four_all, to_starts}
use Rattle.promises.proofs.CloseRows.{Bounded, Roomy}
use Rattle.promises.proofs.CloseMade.{made, trailer_of, made_ends, made_filled, made_start, made_part}

-- Bytes that agree before D have the same lists, if these lie before D
module _ (start : ℕ → ℕ) (test : ℕ → List ℕ → Verdict) (xs ys : List ℕ) (D : ℕ) (same : (a e : ℕ) → a ≤ e → e ≤ D → part xs a e ≡ part ys a e)
    (n : ℕ) (lie : Laid D start n) where
  lists_same : (k i : ℕ) → i + k ≡ n → lists_fault test xs start k i ≡ lists_fault test ys start k i
  unfolding lists_fault
  lists_same zero i e = refl
  lists_same (suc k) i e =
      let a = lie.apart i (omega arith) in
      ap₂ (λ (x : List ℕ) (v : Verdict). or_else (test i x) v) (same (start i) (start (i + 1)) (omega arith) (lie.inside (i + 1) (omega arith)))
      (lists_same k (i + 1) (omega arith))

-- the tests of the starts and then v are, where v is w wherever they pass, their first fault or else w
starts_then : (s t : Bool) (v w : Verdict) → (s ≡ true → t ≡ false → v ≡ w)
    → pick s (pick t (verdict 5 0) v) (verdict 5 0) ≡ or_else (pick s (pick t (verdict 5 0) accepted) (verdict 5 0)) w
starts_then true true v w h = refl
starts_then true false v w h = h refl refl
starts_then false t v w h = refl

-- closing from row 5 on: the starts, and then the lists
abbrev from_starts : List ℕ → ℕ → ℕ → ℕ → List ℕ → Verdict
from_starts before u B D starts =
    starts_fault (start_in starts D) (length starts) (lists_fault (list_fault u B) before (start_in starts D) (length starts) 0)

-- and from row 1 on, where row 4 is passed
pub close_ranged : (before : List ℕ) (u B D : ℕ) (starts : List ℕ) → Bounded u B starts
    → close_fault before u B D starts
    ≡ fault1 (D + 4 * length starts + 24) (fault12 (length before) (D + 4 * length starts + 24) (from_starts before u B D starts))
unfolding close_fault
close_ranged before u B D starts b = four_all u B _ (length starts) b.u_inside b.b_inside b.k_inside

module _ (before : List ℕ) (u B D : ℕ) (starts : List ℕ) (r : Roomy before u B D starts) (small : Each Word starts) where
  abbrev m : List ℕ
  m = made before u B D starts

  abbrev start : ℕ → ℕ
  start = start_in starts D

  abbrev k : ℕ
  k = length starts

  -- and so where rows 1 and 12 are passed too
  close_starts : close_fault before u B D starts ≡ from_starts before u B D starts
  close_starts = close_ranged before u B D starts r.bounded ∙ sym (one _ _ (omega arith) r.small _ (twelve _ _ _ r.fits _ refl))

  -- looking at what it makes: 1 to 4 find no fault, and 5 none but in the starts
  starts_made : start_of m ≡ start
  starts_made = fun_ext (made_start before u B D starts r small)

  frame_made : frame_fault m (length m) ≡ starts_fault start k accepted
  frame_made =
      to_starts m (trailer_of before u B D starts) (take D before) starts (made_filled before u B D starts r small)
      ∙ ap (λ (f : ℕ → ℕ). starts_fault f k accepted) starts_made

  lists_made : in_lists m ≡ lists_fault (list_fault u B) m start k 0
  lists_made =
      let t = trailer_of before u B D starts in
      let e = made_ends before u B D starts r in
      rw (u_read m t e, b_read m t e, k_read m t e, starts_made)

  -- SO CLOSING says what looking says
  pub close_looks : close_fault before u B D starts ≡ look m
  unfolding look starts_fault
  close_looks =
      let end : start k ≤ D = rw (get_or-eq_default starts D {n = k} (omega arith)) (omega arith) in
      close_starts
      ∙ starts_then (eqb (start 0) 0) (too_short start k 0) _ _
      (λ s t. sym (lists_same start (list_fault u B) m before D (made_part before u B D starts r) k (laid D start k (eqb-true _ _ s) t end) k 0 (omega arith)))
      ∙ sym (ap₂ or_else frame_made lists_made)

  -- where it finds no fault, each record is the part of the buffer from its start to the next start or D
  pub made_record : (look m).number ≡ 0 → (i : ℕ) → i < k → record_of m i ≡ part before (start i) (start (i + 1))
  made_record ok i l =
      let t = trailer_of before u B D starts in
      let e = made_ends before u B D starts r in
      let c = k_read m t e in
      let d = d_read m t e in
      let lie = records_laid m (looked m ok).frame D (omega arith) in
      let a = lie.apart i (omega arith) in
      made_part before u B D starts r (start_of m i) (start_of m (i + 1)) (omega arith) (lie.inside (i + 1) (omega arith))
      ∙ ap₂ (part before) (made_start before u B D starts r small i) (made_start before u B D starts r small (i + 1))
