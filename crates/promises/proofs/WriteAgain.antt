-- A lent record, written anew from its cut and the slots that its list holds.
use Prim.Native.Nat.{ℕ, ◌≤◌}
use mathlib.Core.Path.{◌≡◌, sym}
use mathlib.Core.List.{List}
use lib.ListN.{length, take, drop}
use lib.Seq.{take_at}
use Rattle.paper.specs.Record.{cut_of}
use Rattle.paper.specs.Index.{u_of, block_length, record_of, held}
use Rattle.paper.specs.OneList.{name_fault, lent}
use Rattle.paper.specs.Write.{MeetsWrite}
use Rattle.paper.specs.declared.Written.{Written}
use Rattle.laws.proofs.Parts.{AllBytes}
use Rattle.laws.proofs.Names.{named}
use Rattle.meaning.proofs.Sound.{cut_within}
use Rattle.promises.proofs.AcceptedLists.{list_rise}
use Rattle.promises.proofs.OperationAnswers.{lent_record}
use Rattle.promises.proofs.SameIndexes.{lent_written}
use Rattle.promises.proofs.WriteRows.{WriteAccepted}
use Rattle.promises.proofs.WriteBytes.{as_written_for}
use Rattle.promises.proofs.WriteAnswers.{tells_number, tells_length, tells_buffer}

module _ (bs : List ℕ) (name : ℕ) (all : AllBytes bs) (ok : (name_fault bs name).number ≡ 0) where
  abbrev r : List ℕ
  r = lent bs name

  abbrev u : ℕ
  u = u_of bs

  abbrev B : ℕ
  B = block_length bs

  cut_fits : cut_of r ≤ u
  cut_fits =
      let n = named bs name ok in
      rw (lent_record bs name ok) (cut_within u B (record_of bs name) n.index.frame.some_b (n.index.lists name n.below))

  -- no row refuses it, where there is room
  again_accepted : (room : ℕ) → length r ≤ room → WriteAccepted u B (cut_of r) (held bs name) room
  again_accepted room fits =
      let n = named bs name ok in
      let f = n.index.frame in
      let up = list_rise bs n.looked name n.below in
      record {
        writable = record {
          cuts = record { ranges = record { slots_within = (f.some_u, f.most_u); block_within = (f.some_b, f.most_b) }; cut_within = cut_fits };
          rising = up;
        };
        bytes = r;
        is = rw (← lent_written bs name all ok) at (as_written_for u B (cut_of r) (held bs name) f.some_b cut_fits up);
        fits = fits;
      }

  -- so it is accepted, and the same bytes stand at the front
  pub lent_again : (before : List ℕ) (answer : Written) (after : List ℕ) → length r ≤ length before
      → MeetsWrite u B (cut_of r) (held bs name) before answer after → (answer.number ≡ 0) × (take answer.length after ≡ r)
  unfolding again_accepted
  lent_again before answer after fits m =
      let a = again_accepted (length before) fits in
      let size = tells_length u B (cut_of r) (held bs name) before answer after m a in
      let buffer = tells_buffer u B (cut_of r) (held bs name) before answer after m a in
      (tells_number u B (cut_of r) (held bs name) before answer after m a, rw buffer (take_at r (drop (length r) before) answer.length (sym size)))
