-- The record of a cut and of rising slots: what is written from them is it, and no other bytes are.
use Prim.Native.Nat.{ℕ, ◌≤◌, ◌<◌}
use mathlib.Core.Path.{◌≡◌, refl, sym, ap, ◌∙◌}
use mathlib.Core.Bool.{Bool, true, and-eq-true_iff}
use mathlib.Core.Logic.{◌↔◌}
use mathlib.Core.List.{List}
use native.Mathlib.Omega.{arith}
use lib.ListN.{length}
use lib.Dec.{ltb, leb}
use borrow.Author.Tests.{ltb-true, leb-true, lt-ltb, le-leb}
use Rattle.paper.specs.Lists.{has, keep}
use Rattle.paper.specs.Tail.{block_count}
use Rattle.paper.specs.Record.{bit_length}
use Rattle.paper.specs.Write.{bit_bytes, encoded, encode}
use Rattle.laws.proofs.Lists.{In, has_in, in_has, has_exactly, has_keep}
use Rattle.laws.proofs.Rounding.{rounds_ceil, rounds_one, rounds_pos}
use Rattle.laws.proofs.Octets.{bits_length, bytes_same}
use Rattle.meaning.proofs.Rising.{Ascends, rise_lower}
use Rattle.meaning.proofs.Parting.{up_to, above, cut_high}
use Rattle.meaning.proofs.Common.{same_test}
use Rattle.promises.proofs.WrittenRecords.{written_sound}
use Rattle.promises.proofs.QuestionNumbers.{same_rising}
use Rattle.promises.proofs.WriteRows.{RecordFor}

-- slots parted at the cut c: where a slot of xs goes
module _ (c : ℕ) (xs : List ℕ) (x : ℕ) where
  kept_in : (t : ℕ → Bool) → In x (keep t xs) ↔ (In x xs × (t x ≡ true))
  kept_in t = (
    λ i. let p = (and-eq-true_iff _ _).0 (sym (has_keep t x xs) ∙ has_in x _ i) in (in_has x xs p.0, p.1),
    λ i. in_has x _ (has_keep t x xs ∙ (and-eq-true_iff _ _).1 (has_in x xs i.0, i.1)),
  )

  -- up to the cut
  low_in : In x (up_to c xs) ↔ (In x xs × (x ≤ c))
  low_in =
      let k = kept_in (λ x. leb x c) in
      (λ i. ((k.0 i).0, leb-true x c (k.0 i).1), λ i. k.1 (i.0, le-leb x c i.1))

  -- or above it
  pub high_in : In x (above c xs) ↔ (In x xs × (c < x))
  high_in =
      let k = kept_in (λ x. ltb c x) in
      (λ i. ((k.0 i).0, ltb-true c x (k.0 i).1), λ i. k.1 (i.0, lt-ltb c x i.1))

-- what is written from rising slots is their record
module _ (u B c : ℕ) (xs : List ℕ) (pos : 1 ≤ B) (within : c ≤ u) (a : Ascends u 0 xs) where
  abbrev low : ℕ → Bool
  low x = has x (up_to c xs)

  -- its parts are what it is written from
  pub as_written_for : RecordFor u B c xs (encode B c xs)
  unfolding written_sound
  as_written_for =
      record {
        sound = written_sound u B c xs pos within a;
        cut_is = refl;
        test = low;
        bits_are = ap (bit_bytes low 1) (sym (bits_length low (bit_length c) 1));
        low = λ x. (
          λ t. (low_in c xs x).0 ((has_exactly x (up_to c xs)).0 t),
          λ t. (has_exactly x (up_to c xs)).1 ((low_in c xs x).1 t),
        );
        high = λ x. high_in c xs x;
      }

-- a record of rising slots is what is written from them
module _ {u B c : ℕ} {xs r : List ℕ} (f : RecordFor u B c xs r) (a : Ascends u 0 xs) where
  -- the slots of its tail are those above the cut
  tail_is : f.sound.slots ≡ above c xs
  tail_is =
      same_rising u u f.sound.slots (above c xs) (rise_lower u 0 f.sound.cut f.sound.slots (omega arith) f.sound.rising)
      (rise_lower u 0 c (above c xs) (omega arith) (cut_high c u 0 xs a))
      λ x. (λ i. (high_in c xs x).1 ((f.high x).0 i), λ i. (f.high x).1 ((high_in c xs x).0 i))

  -- the test of its bits is whether a slot stands up to the cut
  test_is : (x : ℕ) → f.test x ≡ has x (up_to c xs)
  test_is x =
      same_test (f.test x) (has x (up_to c xs)) (λ p. has_in x (up_to c xs) ((low_in c xs x).1 ((f.low x).0 p)))
      (λ p. (f.low x).1 ((low_in c xs x).0 (in_has x (up_to c xs) p)))

  bits_is : f.sound.bits ≡ bit_bytes (λ x. has x (up_to c xs)) 1 (bit_length c)
  bits_is =
      let s = f.sound in
      let w : length s.bits ≡ bit_length c = rounds_one c 8 _ _ (rw f.cut_is at s.bits_long) (rounds_ceil c 8 (omega arith)) in
      f.bits_are ∙ ap (bit_bytes f.test 1) w ∙ bytes_same f.test (λ x. has x (up_to c xs)) (bit_length c) 1 (λ y l h. test_is y)

  -- so its bytes are
  pub for_written : r ≡ encode B c xs
  unfolding encode encoded
  for_written =
      let s = f.sound in
      let n = length s.slots in
      let m_is = rounds_one n B s.m (block_count B n) s.blocks (rounds_ceil n B (rounds_pos n B s.m s.blocks)) in
      rw (f.cut_is, bits_is, m_is, tail_is) at s.is
