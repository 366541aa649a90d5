-- Writing a record: a number and a place are given exactly when the rows of the table say so.
use Prim.Native.Nat.{ℕ, ◌<◌}
use mathlib.Core.Path.{◌≡◌, refl, sym, ap, ◌∙◌}
use mathlib.Core.Logic.{◌⊎◌}
use mathlib.Core.Logic.◌⊎◌.{inl, inr}
use mathlib.Core.List.{List, [], ◌∷◌, ◌++◌}
use native.Mathlib.Decide.{dec_lt, dec_le}
use native.Mathlib.Omega.{arith}
use lib.ListN.{length, length-append}
use lib.Dec.{leb}
use borrow.Author.Tests.{lt-ltb, le-leb}
use Rattle.paper.specs.Refusal.{verdict, accepted, fault12, good_slots, fault13, fault15}
use Rattle.paper.specs.Write.{encode, write_fault, written_with, write_answer}
use Rattle.paper.specs.declared.Verdict.{Verdict}
use Rattle.laws.proofs.Lists.{same_either}
use Rattle.laws.proofs.Links.{fifteen_above, fifteen, thirteen_bad, thirteen, twelve_small, twelve}
use Rattle.meaning.proofs.Rising.{Ascends, good_more, good_all}
use Rattle.promises.proofs.RecordRows.{AboveAll}
use Rattle.promises.proofs.IndexRows.{ByTheTable, Outside}
use Rattle.promises.proofs.IndexFrame.{four_u, four_b, four_passes}
use Rattle.promises.proofs.IndexJudged.{inside_or}
use Rattle.promises.proofs.IndexNumbers.{by_the_table, Either}
use Rattle.promises.proofs.IndexNumbers.Either.{one_refuses, all_accept}
use Rattle.promises.proofs.WriteRows.{Ranges, Cuts, Writable, WriteRefused, WriteAccepted}
use Rattle.promises.proofs.WriteRows.WriteRefused.{u_range, b_range, cut_above, not_above, beyond, no_room}
use Rattle.promises.proofs.WriteBytes.{as_written_for, for_written}

-- 4 and 15, by which writing begins and so does telling the bound: one of them refuses u, B or the cut, or what follows decides
module _ {Refuses : ℕ → ℕ → Type 0} {Accepts : Type 0} (u B cut : ℕ) (u-bad : Outside 1 1048576 u → Refuses 4 0) (B-bad : Outside 1 128 B → Refuses 4 0)
    (cut-bad : Ranges u B → u < cut → Refuses 15 0) (on : Cuts u B cut → Either Refuses Accepts) where
  cut_or : Ranges u B → Either Refuses Accepts
  cut_or g =
      elim (dec_le cut u) [
        | yes l ↦ on (record { ranges = g; cut_within = l })
        | no n ↦ one_refuses 15 0 (cut-bad g (omega arith))
      ]

  pub sizes_or : Either Refuses Accepts
  sizes_or =
      elim (inside_or 1 1048576 u) [
        | inr o ↦ one_refuses 4 0 (u-bad o)
        | inl i ↦
            elim (inside_or 1 128 B) [
              | inr o ↦ one_refuses 4 0 (B-bad o)
              | inl j ↦ cut_or (record { slots_within = i; block_within = j })
            ]
      ]

-- 13, of the slots
module _ (u : ℕ) where
  slots_good : (xs : List ℕ) (rest : Verdict) → Ascends u 0 xs → fault13 u xs rest ≡ rest
  slots_good xs rest a = sym (thirteen rest u xs (length xs) (sym (good_all u 0 xs a)) (omega arith) rest refl)

  -- the slot x behind some that rise above p is bad
  abbrev Bad : ℕ → List ℕ → ℕ → Type 0
  Bad p front x = (¬ (AboveAll x (p ∷ front))) ⊎ (u < x)

  module _ (x : ℕ) (behind : List ℕ) where
    good_stop : (p : ℕ) → Bad p [] x → good_slots u p (x ∷ behind) ≡ 0
    unfolding good_slots
    good_stop p (inl n) =
        elim (dec_lt p x) [
          | yes l ↦ absurd (n (l, tt))
          | no g ↦ rw (le-leb x p (omega arith))
        ]
    good_stop p (inr l) = rw (lt-ltb u x l) (same_either (leb x p) 0)

    bad_more : (p y : ℕ) (front : List ℕ) → p < y → Bad p (y ∷ front) x → Bad y front x
    bad_more p y front l (inl n) = inl (λ t. n (omega (arith, t.0), t))
    bad_more p y front l (inr h) = inr h

    -- and it is the first such slot
    good_front : (p : ℕ) (front : List ℕ) → Ascends u p front → Bad p front x → good_slots u p (front ++ x ∷ behind) ≡ length front
    good_front p [] a b = good_stop p b
    good_front p (y ∷ front) a b =
        good_more u p y (front ++ x ∷ behind) a.0 a.1 ∙ rw (good_front y front a.2 (bad_more p y front a.0 b)) (omega arith)

    slots_bad : (front : List ℕ) (rest : Verdict) → Ascends u 0 front → Bad 0 front x → fault13 u (front ++ x ∷ behind) rest ≡ verdict 13 (length front)
    slots_bad front rest a b =
        let n = length-append front (x ∷ behind) in
        sym (thirteen_bad rest u (front ++ x ∷ behind) (length front) (sym (good_front 0 front a b)) (omega arith))

  -- some slot is the first that is bad
  record First (p : ℕ) (xs : List ℕ) : Type 0 where
    front : List ℕ
    x : ℕ
    behind : List ℕ
    is : xs ≡ front ++ x ∷ behind
    rising : Ascends u p front
    bad : Bad p front x

  -- where they do not all rise
  slots_or : (p : ℕ) (xs : List ℕ) → Ascends u p xs ⊎ First p xs
  slots_or p [] = inl tt
  slots_or p (x ∷ xs) =
      elim (dec_lt p x) [
        | no g ↦ inr (record { front = []; x = x; behind = xs; is = refl; rising = tt; bad = inl (λ t. g t.0) })
        | yes l ↦
            elim (dec_le x u) [
              | no g ↦ inr (record { front = []; x = x; behind = xs; is = refl; rising = tt; bad = inr (omega arith) })
              | yes h ↦
                  elim (slots_or x xs) [
                    | inl a ↦ inl (l, h, a)
                    | inr f ↦
                        inr
                        (record {
                          front = x ∷ f.front;
                          x = f.x;
                          behind = f.behind;
                          is = ap (λ (t : List ℕ). x ∷ t) f.is;
                          rising = (l, h, f.rising);
                          bad = elim f.bad [
                            | inl n ↦ inl (λ t. n t.1)
                            | inr b ↦ inr b
                          ];
                        })
                  ]
            ]
      ]

-- THE TABLE
module _ (u B cut : ℕ) (slots : List ℕ) (room : ℕ) where
  -- the tests from row 12 on, from row 13 on, from row 15 on
  abbrev from12 : Verdict
  from12 = fault12 room (length (encode B cut slots)) accepted

  abbrev from13 : Verdict
  from13 = fault13 u slots from12

  abbrev from15 : Verdict
  from15 = fault15 u cut from13

  -- what the rows let pass is passed
  to_cut : Ranges u B → write_fault u B cut slots room ≡ from15
  unfolding write_fault
  to_cut r = four_passes u B from15 r.slots_within r.block_within

  to_slots : Cuts u B cut → write_fault u B cut slots room ≡ from13
  to_slots c = to_cut c.ranges ∙ sym (fifteen from13 u cut c.cut_within from13 refl)

  -- where all are passed but the last, there is left whether the record has room
  pub to_room : Writable u B cut slots → write_fault u B cut slots room ≡ fault12 room (length (encode B cut slots)) accepted
  to_room w = to_slots w.cuts ∙ slots_good u slots from12 w.rising

  -- the number and the place of a row that applies are given
  slot_gives : Cuts u B cut → (front : List ℕ) (x : ℕ) (behind : List ℕ) → slots ≡ front ++ x ∷ behind → Ascends u 0 front → Bad u 0 front x
      → write_fault u B cut slots room ≡ verdict 13 (length front)
  slot_gives c front x behind e a b = to_slots c ∙ ap (λ (t : List ℕ). fault13 u t from12) e ∙ slots_bad u x behind front from12 a b

  write_gives : (r p : ℕ) → WriteRefused u B cut slots room r p → write_fault u B cut slots room ≡ verdict r p
  unfolding write_fault
  write_gives r p (u_range o) = four_u u B from15 o
  write_gives r p (b_range o) = four_b u B from15 o
  write_gives r p (cut_above g l) = to_cut g ∙ sym (fifteen_above from13 u cut l)
  write_gives r p (not_above c front x behind e a n) = slot_gives c front x behind e a (inl n)
  write_gives r p (beyond c front x behind e a l) = slot_gives c front x behind e a (inr l)
  write_gives r p (no_room w bytes f l) =
      let e = ap length (for_written f w.rising) in
      to_room w ∙ ap (λ (n : ℕ). fault12 room n accepted) (sym e) ∙ sym (twelve_small accepted room (length bytes) l)

  -- it is not 0
  write_nonzero : (r p : ℕ) → WriteRefused u B cut slots room r p → ¬ (r ≡ 0)
  write_nonzero r p (u_range o) = λ z. omega arith
  write_nonzero r p (b_range o) = λ z. omega arith
  write_nonzero r p (cut_above g l) = λ z. omega arith
  write_nonzero r p (not_above c front x behind e a n) = λ z. omega arith
  write_nonzero r p (beyond c front x behind e a l) = λ z. omega arith
  write_nonzero r p (no_room w bytes f l) = λ z. omega arith

  -- where none applies, the writing is accepted
  pub write_passes : WriteAccepted u B cut slots room → write_fault u B cut slots room ≡ accepted
  write_passes a =
      let e = ap length (for_written a.is a.writable.rising) in
      to_room a.writable ∙ sym (twelve accepted room _ (rw (← e) a.fits) accepted refl)

  abbrev Judged : Type 0
  Judged = Either (WriteRefused u B cut slots room) (WriteAccepted u B cut slots room)

  by_room : Writable u B cut slots → Judged
  by_room w =
      let f = as_written_for u B cut slots w.cuts.ranges.block_within.0 w.cuts.cut_within w.rising in
      elim (dec_le (length (encode B cut slots)) room) [
        | yes l ↦ all_accept (record { writable = w; bytes = encode B cut slots; is = f; fits = l })
        | no g ↦ one_refuses 12 _ (no_room w (encode B cut slots) f (omega arith))
      ]

  by_slots : Cuts u B cut → Judged
  by_slots c =
      elim (slots_or u 0 slots) [
        | inl a ↦ by_room (record { cuts = c; rising = a })
        | inr f ↦
            elim f.bad [
              | inl n ↦ one_refuses 13 _ (not_above c f.front f.x f.behind f.is f.rising n)
              | inr l ↦ one_refuses 13 _ (beyond c f.front f.x f.behind f.is f.rising l)
            ]
      ]

  write_either : Judged
  write_either = sizes_or u B cut u_range b_range cut_above by_slots

  -- SO WRITING goes by the table
  pub write_table : ByTheTable (write_answer u B cut slots room).number (write_answer u B cut slots room).place (WriteRefused u B cut slots room)
      (WriteAccepted u B cut slots room)
  unfolding write_answer written_with
  write_table =
      by_the_table (write_fault u B cut slots room) (WriteRefused u B cut slots room) (WriteAccepted u B cut slots room) write_gives write_nonzero write_passes
      write_either

-- Where a writing is refused with 12, its slots can be written, and the buffer is shorter than their record
pub record Short (u B cut : ℕ) (slots : List ℕ) (room : ℕ) : Type 0 where
  pub writable : Writable u B cut slots
  pub shorter : room < length (encode B cut slots)

-- so it is of row 12
pub twelve_short : (u B cut : ℕ) (slots : List ℕ) (room r p : ℕ) → WriteRefused u B cut slots room r p → r ≡ 12 → Short u B cut slots room
twelve_short u B cut slots room r p (u_range o) z = absurd (omega arith)
twelve_short u B cut slots room r p (b_range o) z = absurd (omega arith)
twelve_short u B cut slots room r p (cut_above g l) z = absurd (omega arith)
twelve_short u B cut slots room r p (not_above c front x behind e a n) z = absurd (omega arith)
twelve_short u B cut slots room r p (beyond c front x behind e a l) z = absurd (omega arith)
twelve_short u B cut slots room r p (no_room w bytes f l) z = record { writable = w; shorter = rw (← for_written f w.rising) l }
