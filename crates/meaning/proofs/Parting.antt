-- Slots parted at a cut: those up to it and their bytes of bits, which determine each other where the bits beyond the cut are zero; and
-- those above it.
use Prim.Native.Nat.{ℕ, zero, suc, ◌+◌, ◌*◌, ◌≤◌, ◌<◌}
use mathlib.Core.Path.{◌≡◌, refl, sym, ap, ◌∙◌}
use mathlib.Core.Bool.{Bool, false}
use mathlib.Core.List.{List, [], ◌∷◌, ◌++◌}
use native.Mathlib.Decide.{dec_le, ℕ_discrete}
use native.Mathlib.Omega.{arith}
use lib.ListN.{length}
use lib.Dec.{ltb, leb}
use borrow.Author.Tests.{lt-ltb, le-ltb, le-leb, lt-leb}
use Rattle.paper.specs.Lists.{has, keep, up_from}
use Rattle.paper.specs.Record.{bit_length, bit_at, unused, slots_to_cut}
use Rattle.paper.specs.Write.{bit_bytes}
use Rattle.laws.proofs.Lists.{has_here, has_there, keep_pass, keep_fail, up_pass, up_fail}
use Rattle.laws.proofs.Parts.{AllBytes}
use Rattle.laws.proofs.Rounding.{bytes_hold}
use Rattle.laws.proofs.Bits.{next_none, none_next}
use Rattle.laws.proofs.Records.{Unset}
use Rattle.laws.proofs.Octets.{bits_at, bits_same, bytes_same}
use Rattle.meaning.proofs.Rising.{Ascends, rise_lower, has_low, has_high}
use Rattle.meaning.proofs.Bits.{bits_rise, bits_has}

-- Of the k numbers from x on, those that pass a test
module _ (t : ℕ → Bool) where
  -- rising slots are those among all numbers of which it holds that they stand there
  up_back : (k x l h : ℕ) (xs : List ℕ) → l + 1 ≡ x → h < x + k → ((y : ℕ) → x ≤ y → y < x + k → t y ≡ has y xs) → Ascends h l xs
      → keep t (up_from x k) ≡ xs
  unfolding keep up_from has
  up_back zero x l h [] i j m a = refl
  up_back zero x l h (y ∷ ys) i j m a = absurd (omega arith)
  up_back (suc k) x l h [] i j m a =
      up_fail t x k (m x (omega arith) (omega arith)) ∙ up_back k (x + 1) x h [] refl (omega arith) (λ y u v. m y (omega arith) (omega arith)) tt
  up_back (suc k) x l h (y ∷ ys) i j m a =
      go (ℕ_discrete x y) (λ f. up_back k (x + 1) x h ys refl (omega arith) f) (λ f. up_back k (x + 1) x h (y ∷ ys) refl (omega arith) f)
    where
      rest : List ℕ
      rest = keep t (up_from (x + 1) k)

      go : Dec (x ≡ y) → (((z : ℕ) → x + 1 ≤ z → z < x + 1 + k → t z ≡ has z ys) → Ascends h x ys → rest ≡ ys)
          → (((z : ℕ) → x + 1 ≤ z → z < x + 1 + k → t z ≡ has z (y ∷ ys)) → Ascends h x (y ∷ ys) → rest ≡ y ∷ ys)
          → keep t (up_from x (suc k)) ≡ y ∷ ys
      go (yes e) r₁ r₂ =
          let s = r₁ (λ z u v. m z (omega arith) (omega arith) ∙ has_there z y ys (omega arith)) (rw e a.2) in
          up_pass t x k (m x (omega arith) (omega arith) ∙ has_here x y ys e) ∙ rw (s, e)
      go (no n) r₁ r₂ =
          up_fail t x k (m x (omega arith) (omega arith) ∙ has_there x y ys n ∙ has_low h y x ys a.2 (omega arith))
          ∙ r₂ (λ z u v. m z (omega arith) (omega arith)) (omega arith, a.1, a.2)

-- no bit beyond the cut c is set
abbrev pub Clean : ℕ → List ℕ → Type 0
Clean c bits = (x : ℕ) → c < x → x ≤ 8 * length bits → bit_at bits x ≡ false

-- where there are as many bytes of bits as the cut asks for, number 17 is passed exactly when they are clean
module _ (c : ℕ) (bits : List ℕ) (size : length bits ≡ bit_length c) where
  pub unset_clean : Unset c bits → Clean c bits
  unset_clean z x l h =
      let r = bytes_hold c in
      none_next bits (c + 1) (unused c) (omega arith) z x (omega arith) (let h = rw size at h in omega arith)

  pub clean_unset : Clean c bits → Unset c bits
  clean_unset clean = let r = bytes_hold c in next_none bits (c + 1) (unused c) (λ y u v. clean y (omega arith) (rw size (omega arith)))

-- clean bytes of bits are written from the slots that they hold
pub bits_clean : (c : ℕ) (bits : List ℕ) → AllBytes bits → length bits ≡ bit_length c → Clean c bits
    → bits ≡ bit_bytes (λ x. has x (slots_to_cut c bits)) 1 (bit_length c)
bits_clean c bits all size clean =
    bits_same bits all ∙ rw size (bytes_same (bit_at bits) (λ x. has x (slots_to_cut c bits)) (bit_length c) 1 (λ y u v. go y u v (dec_le y c)))
  where
    go : (y : ℕ) → 1 ≤ y → y < 1 + 8 * bit_length c → Dec (y ≤ c) → bit_at bits y ≡ has y (slots_to_cut c bits)
    go y u v (yes l) = sym (bits_has c bits y u l)
    go y u v (no g) = clean y (omega arith) (rw size (omega arith)) ∙ sym (has_high c 0 y (slots_to_cut c bits) (bits_rise c bits) (omega arith))

-- and the slots that bytes of bits are written from are held
module _ (c : ℕ) (xs : List ℕ) (a : Ascends c 0 xs) where
  abbrev written : List ℕ
  written = bit_bytes (λ x. has x xs) 1 (bit_length c)

  -- the slots are read back
  pub bits_read : slots_to_cut c written ≡ xs
  unfolding slots_to_cut
  bits_read =
      let r = bytes_hold c in
      up_back (bit_at written) c 1 0 c xs refl (omega arith) (λ y u v. bits_at (λ x. has x xs) (bit_length c) y u (omega arith)) a

-- Slots parted at the cut c: those up to it, and those above it
module _ (c : ℕ) where
  -- the slots up to the cut
  abbrev pub up_to : List ℕ → List ℕ
  up_to xs = keep (λ x. leb x c) xs

  -- and those above it
  abbrev pub above : List ℕ → List ℕ
  above xs = keep (λ x. ltb c x) xs

  module _ (x : ℕ) (xs : List ℕ) where
    -- a slot up to the cut
    pub low_yes : x ≤ c → up_to (x ∷ xs) ≡ x ∷ up_to xs
    low_yes l = keep_pass (λ x. leb x c) x xs (le-leb x c l)

    pub low_no : c < x → up_to (x ∷ xs) ≡ up_to xs
    low_no l = keep_fail (λ x. leb x c) x xs (lt-leb x c l)

    high_yes : c < x → above (x ∷ xs) ≡ x ∷ above xs
    high_yes l = keep_pass (λ x. ltb c x) x xs (lt-ltb c x l)

    high_no : x ≤ c → above (x ∷ xs) ≡ above xs
    high_no l = keep_fail (λ x. ltb c x) x xs (le-ltb c x l)

  -- of slots that rise above c all are above it
  pub none_low : (u : ℕ) (t : List ℕ) → Ascends u c t → up_to t ≡ []
  unfolding keep
  none_low u [] a = refl
  none_low u (x ∷ t) a = low_no x t a.0 ∙ none_low u t (rise_lower u c x t (omega arith) a.2)

  all_high : (u : ℕ) (t : List ℕ) → Ascends u c t → above t ≡ t
  unfolding keep
  all_high u [] a = refl
  all_high u (x ∷ t) a = high_yes x t a.0 ∙ ap (λ (l : List ℕ). x ∷ l) (all_high u t (rise_lower u c x t (omega arith) a.2))

  -- rising slots are the two parts, one behind the other
  pub cut_join : (u l : ℕ) (xs : List ℕ) → Ascends u l xs → up_to xs ++ above xs ≡ xs
  unfolding keep
  cut_join u l [] a = refl
  cut_join u l (x ∷ xs) a = go (dec_le x c) (cut_join u x xs a.2)
    where
      go : Dec (x ≤ c) → up_to xs ++ above xs ≡ xs → up_to (x ∷ xs) ++ above (x ∷ xs) ≡ x ∷ xs
      go (yes h) r = rw (low_yes x xs h, high_no x xs h) (ap (λ (t : List ℕ). x ∷ t) r)
      go (no g) r =
          let b : Ascends u c (x ∷ xs) = (omega arith, a.1, a.2) in
          rw (none_low u (x ∷ xs) b) (all_high u (x ∷ xs) b)

  -- the part up to the cut rises within it
  pub cut_low : (u l : ℕ) (xs : List ℕ) → Ascends u l xs → Ascends c l (up_to xs)
  unfolding keep
  cut_low u l [] a = tt
  cut_low u l (x ∷ xs) a = go (dec_le x c) (cut_low u x xs a.2)
    where
      go : Dec (x ≤ c) → Ascends c x (up_to xs) → Ascends c l (up_to (x ∷ xs))
      go (yes h) r = rw (low_yes x xs h) (a.0, h, r)
      go (no g) r = let b : Ascends u c (x ∷ xs) = (omega arith, a.1, a.2) in rw (none_low u (x ∷ xs) b) tt

  -- the part above the cut rises above it
  pub cut_high : (u l : ℕ) (xs : List ℕ) → Ascends u l xs → Ascends u c (above xs)
  unfolding keep
  cut_high u l [] a = tt
  cut_high u l (x ∷ xs) a = go (dec_le x c) (cut_high u x xs a.2)
    where
      go : Dec (x ≤ c) → Ascends u c (above xs) → Ascends u c (above (x ∷ xs))
      go (yes h) r = rw (high_no x xs h) r
      go (no g) r = let b : Ascends u c (x ∷ xs) = (omega arith, a.1, a.2) in rw (all_high u (x ∷ xs) b) b

  -- of two such parts joined, the first is up to the cut
  pub join_low : (u l : ℕ) (s t : List ℕ) → Ascends c l s → Ascends u c t → up_to (s ++ t) ≡ s
  join_low u l [] t a b = none_low u t b
  join_low u l (x ∷ s) t a b = low_yes x (s ++ t) a.1 ∙ ap (λ (l : List ℕ). x ∷ l) (join_low u x s t a.2 b)

  -- and the second is above it
  pub join_high : (u l : ℕ) (s t : List ℕ) → Ascends c l s → Ascends u c t → above (s ++ t) ≡ t
  join_high u l [] t a b = all_high u t b
  join_high u l (x ∷ s) t a b = high_no x (s ++ t) a.1 ∙ join_high u x s t a.2 b
