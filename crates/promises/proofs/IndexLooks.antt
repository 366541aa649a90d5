-- Looking at an index gives what the rows say: the number and the place of the row that applies, and no fault of a well-formed index.
use Prim.Native.Nat.{ℕ}
use mathlib.Core.Path.{◌≡◌, sym, ap, subst, ◌∙◌}
use mathlib.Core.Logic.◌⊎◌.{inl, inr}
use mathlib.Core.List.{List, [], ◌∷◌, ◌++◌, append_assoc, flatten}
use native.Mathlib.Omega.{arith}
use lib.ListN.{length}
use Rattle.paper.specs.Refusal.{verdict, accepted}
use Rattle.paper.specs.Index.{u_of, block_length, k_of, start_of}
use Rattle.paper.specs.Look.{frame_fault, list_fault, lists_fault, look}
use Rattle.paper.specs.declared.Verdict.{Verdict}
use Rattle.laws.proofs.Lists.{Each}
use Rattle.laws.proofs.Parts.{AllBytes, all_front}
use Rattle.laws.proofs.Frames.{or_given, or_second}
use Rattle.promises.proofs.IndexRows.{words, Trailer, numbers_of, starts_from, Packed, Refused, WellFormed}
use Rattle.promises.proofs.IndexRows.Refused.{short, long, tag, edition, u_range, b_range, k_range, size, first, tight, list}
use Rattle.promises.proofs.IndexReads.{u_read, b_read, k_read}
use Rattle.promises.proofs.IndexDirectory.{starts_count}
use Rattle.promises.proofs.IndexFrame.{frame_1, frame_2, frame_3, frame_4u, frame_4_b, frame_4k, frame_5, frame_5first, frame_5tight, records_lie, pass_5}
use Rattle.promises.proofs.IndexLists.{first_of, lists_read, Whole, whole_each, lists_sound, lists_number, lists_refused}

module _ (bs : List ℕ) where
  look_refused : (r p : ℕ) → frame_fault bs (length bs) ≡ verdict r p → ¬ (r ≡ 0) → look bs ≡ verdict r p
  unfolding look
  look_refused r p e n = or_given _ _ r p e n

  look_lists : frame_fault bs (length bs) ≡ accepted → look bs ≡ lists_fault (list_fault (u_of bs) (block_length bs)) bs (start_of bs) (k_of bs) 0
  unfolding look
  look_lists e = or_second _ _ (ap (λ (v : Verdict). v.number) e)

  -- where the records lie one behind the other, looking goes through them
  module _ (t : Trailer) (records : List (List ℕ)) (f : Packed bs t records) where
    -- one after the other
    to_records : look bs ≡ first_of (list_fault t.u t.B) 0 records
    to_records =
        let e = f.filled.ranged.edited.tagged.ends in
        let count : t.k ≡ length records = sym f.filled.count ∙ starts_count 0 records in
        let is : bs ≡ flatten records ++ (words (starts_from 0 records) ++ (words (numbers_of t) ++ t.last)) = e.is ∙ rw (f.filled.is, append_assoc) in
        look_lists (pass_5 bs t records f)
        ∙ rw (u_read bs t e, b_read bs t e, k_read bs t e, count)
        (lists_read (list_fault t.u t.B) bs (start_of bs) records 0 [] _ is (records_lie bs t records f))

    -- each has 12 bytes or more
    pub whole_records : AllBytes bs → Each Whole records
    whole_records all =
        let e = f.filled.ranged.edited.tagged.ends in
        let front = all_front t.before _ (subst AllBytes e.is all) in
        whole_each records (all_front (flatten records) _ (subst AllBytes f.filled.is front)) f.long

  -- WHAT THE ROWS SAY is what looking gives
  module _ (all : AllBytes bs) where
    -- a well-formed index is accepted
    pub well_accepted : WellFormed bs → look bs ≡ accepted
    well_accepted w =
        let g = w.packed.filled.ranged in
        to_records w.trailer w.records w.packed
        ∙ lists_sound w.trailer.u w.trailer.B g.B.0 g.u.1 w.records (whole_records w.trailer w.records w.packed all) w.sound

    -- which is to say that looking finds no fault
    pub well_looked : WellFormed bs → (look bs).number ≡ 0
    well_looked w = ap (λ (v : Verdict). v.number) (well_accepted w)

    -- no row has the number 0
    pub not_zero : (r p : ℕ) → Refused bs r p → ¬ (r ≡ 0)
    not_zero r p (short l) z = omega arith
    not_zero r p (long l) z = omega arith
    not_zero r p (tag t s e n) z = omega arith
    not_zero r p (edition t g n) z = omega arith
    not_zero r p (u_range t g o) z = omega arith
    not_zero r p (b_range t g o) z = omega arith
    not_zero r p (k_range t g o) z = omega arith
    not_zero r p (size t g n) z = omega arith
    not_zero r p (first t records s starts f n) z = omega arith
    not_zero r p (tight t records starts f front behind s e is h) z = omega arith
    not_zero r p (list t front b behind f s w) z =
        let g = f.filled.ranged in
        lists_number t.u t.B g.B.0 g.u.1 front b behind (whole_records t (front ++ b ∷ behind) f all) s r w z

    -- the number and the place of a row that applies are given
    pub refused_given : (r p : ℕ) → Refused bs r p → look bs ≡ verdict r p
    refused_given r p (short l) = look_refused 1 0 (frame_1 bs (inl l)) (omega arith)
    refused_given r p (long l) = look_refused 1 0 (frame_1 bs (inr l)) (omega arith)
    refused_given r p (tag t s e n) = look_refused 2 0 (frame_2 bs t s e n) (omega arith)
    refused_given r p (edition t g n) = look_refused 3 0 (frame_3 bs t g n) (omega arith)
    refused_given r p (u_range t g o) = look_refused 4 0 (frame_4u bs t g o) (omega arith)
    refused_given r p (b_range t g o) = look_refused 4 0 (frame_4_b bs t g o) (omega arith)
    refused_given r p (k_range t g o) = look_refused 4 0 (frame_4k bs t g o) (omega arith)
    refused_given r p (size t g n) = look_refused 5 0 (frame_5 bs t g n) (omega arith)
    refused_given r p (first t records s starts f n) = look_refused 5 0 (frame_5first bs t records s starts f n) (omega arith)
    refused_given r p (tight t records starts f front behind s e is h) =
        look_refused 5 0 (frame_5tight bs t records starts f front behind s e is h) (omega arith)
    refused_given r p (list t front b behind f s w) =
        let g = f.filled.ranged in
        to_records t (front ++ b ∷ behind) f
        ∙ lists_refused t.u t.B g.B.0 g.u.1 front b behind (whole_records t (front ++ b ∷ behind) f all) s r w
