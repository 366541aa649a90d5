-- The parts of a record by position: the bits behind the head, then the entries, then the codes. Number 6, which holds them to the head; and
-- number 17, of the bits beyond the cut.
use Prim.Native.Nat.{ℕ, ◌+◌, ◌*◌, ◌-◌, ◌≤◌}
use mathlib.Core.Path.{◌≡◌, refl, sym, ap, ◌∙◌}
use mathlib.Core.Bool.{Bool, true, false, ◌&&◌, true≢false}
use mathlib.Core.List.{List}
use native.Mathlib.Decide.{ℕ_discrete}
use native.Mathlib.Omega.{arith}
use lib.ListN.{length, drop}
use lib.Dec.{ltb, eqb}
use lib.Seq.{drop-drop}
use borrow.Author.Tests.{ltb-false, eqb-true, lt-ltb, le-ltb, eq-eqb}
use Rattle.paper.specs.Lists.{pick}
use Rattle.paper.specs.Bytes.{part}
use Rattle.paper.specs.Tail.{block_count}
use Rattle.paper.specs.Record.{cut_of, bit_length, bits_of, behind_bits, entries_of, codes_of, next_bit, unused, fault6, fault17}
use Rattle.laws.proofs.Parts.{part_end}

-- w bytes of bits, m entries
module _ (r : List ℕ) (w m : ℕ) (is : w ≡ bit_length (cut_of r)) where
  pub bits_part : part r 12 (12 + w) ≡ bits_of r
  bits_part = let d : 12 + w - 12 ≡ w = omega arith in rw (d, is)

  behind : drop (12 + w) r ≡ behind_bits r
  behind = rw is (sym (drop-drop (bit_length (cut_of r)) 12 r))

  pub entries_part : part r (12 + w) (12 + w + 8 * m) ≡ entries_of m (behind_bits r)
  entries_part = let d : 12 + w + 8 * m - (12 + w) ≡ 8 * m = omega arith in rw (d, behind)

  pub codes_part : part r (12 + w + 8 * m) (length r) ≡ codes_of m (behind_bits r)
  codes_part = part_end r (12 + w + 8 * m) ∙ sym (drop-drop (8 * m) (12 + w) r) ∙ ap (drop (8 * m)) behind

-- 6 is passed
pub record Fits (u B size c n L : ℕ) : Type 0 where
  pub cut : c ≤ u
  pub count : n ≤ u - c
  pub no_codes : n ≡ 0 → L ≡ 0
  pub sum : 12 + bit_length c + 8 * block_count B n + L ≡ size

-- 6 is passed, and what follows decides; or it is not, and is the answer
data Six (u B size c n L rest : ℕ) : ℕ → Type 0 where
  fit : Fits u B size c n L → Six u B size c n L rest rest
  unfit : ¬ (Fits u B size c n L) → Six u B size c n L rest 6

module _ (u B size c n L rest : ℕ) where
  -- one or the other
  six : Six u B size c n L rest (fault6 u B size c n L rest)
  unfolding fault6
  six = go (ltb u c) (ltb (u - c) n) (eqb n 0) (ltb 0 L) (eqb (12 + bit_length c + 8 * block_count B n + L) size) refl refl refl refl refl
    where
      go : (t₁ t₂ t₃ t₄ t₅ : Bool) → ltb u c ≡ t₁ → ltb (u - c) n ≡ t₂ → eqb n 0 ≡ t₃ → ltb 0 L ≡ t₄
          → eqb (12 + bit_length c + 8 * block_count B n + L) size ≡ t₅
          → Six u B size c n L rest (pick t₁ 6 (pick t₂ 6 (pick (t₃ && t₄) 6 (pick t₅ rest 6))))
      go true t₂ t₃ t₄ t₅ e₁ e₂ e₃ e₄ e₅ = unfit (λ f. true≢false (sym e₁ ∙ le-ltb u c f.cut))
      go false true t₃ t₄ t₅ e₁ e₂ e₃ e₄ e₅ = unfit (λ f. true≢false (sym e₂ ∙ le-ltb (u - c) n f.count))
      go false false true true t₅ e₁ e₂ e₃ e₄ e₅ =
          unfit (λ f. let z = f.no_codes (eqb-true n 0 e₃) in true≢false (sym e₄ ∙ le-ltb 0 L (omega arith)))
      go false false true false false e₁ e₂ e₃ e₄ e₅ = unfit (λ f. true≢false (sym (eq-eqb _ size f.sum) ∙ e₅))
      go false false false t₄ false e₁ e₂ e₃ e₄ e₅ = unfit (λ f. true≢false (sym (eq-eqb _ size f.sum) ∙ e₅))
      go false false true false true e₁ e₂ e₃ e₄ e₅ =
          let none = ltb-false 0 L e₄ in
          fit (record { cut = ltb-false u c e₁; count = ltb-false (u - c) n e₂; no_codes = λ z. omega arith; sum = eqb-true _ size e₅ })
      go false false false t₄ true e₁ e₂ e₃ e₄ e₅ =
          let some : n ≡ 0 → L ≡ 0 = λ z. absurd (true≢false (sym (eq-eqb n 0 z) ∙ e₃)) in
          fit (record { cut = ltb-false u c e₁; count = ltb-false (u - c) n e₂; no_codes = some; sum = eqb-true _ size e₅ })

  -- an answer of 0 says that 6 is passed and that 0 follows
  pub fits_6 : fault6 u B size c n L rest ≡ 0 → Fits u B size c n L × (rest ≡ 0)
  fits_6 = go _ six
    where
      go : (x : ℕ) → Six u B size c n L rest x → x ≡ 0 → Fits u B size c n L × (rest ≡ 0)
      go x (fit f) z = (f, z)
      go x (unfit g) z = absurd (omega arith)

  -- where it is passed, what follows is the answer
  pub pass_6 : Fits u B size c n L → fault6 u B size c n L rest ≡ rest
  pass_6 f = go _ six
    where
      go : (x : ℕ) → Six u B size c n L rest x → x ≡ rest
      go x (fit f) = refl
      go x (unfit g) = absurd (g f)

  -- where it is not, 6 is
  pub unfit_6 : ¬ (Fits u B size c n L) → fault6 u B size c n L rest ≡ 6
  unfit_6 not = go _ six
    where
      go : (x : ℕ) → Six u B size c n L rest x → x ≡ 6
      go x (fit f) = absurd (not f)
      go x (unfit g) = refl

-- 17 is passed
abbrev pub Unset : ℕ → List ℕ → Type 0
Unset c bits = next_bit bits (c + 1) (unused c) ≡ 0

module _ (c : ℕ) (bits : List ℕ) (rest : ℕ) where
  -- where no bit beyond the cut is set, what follows is the answer
  pub pass_17 : Unset c bits → fault17 c bits rest ≡ rest
  unfolding fault17
  pass_17 z = rw z

  -- where one is, 17 is
  pub set_17 : ¬ (Unset c bits) → fault17 c bits rest ≡ 17
  unfolding fault17
  set_17 n = rw (lt-ltb 0 (next_bit bits (c + 1) (unused c)) (omega arith))

  -- an answer of 0 says that none is, and that 0 follows
  pub unset_17 : fault17 c bits rest ≡ 0 → Unset c bits × (rest ≡ 0)
  unset_17 e =
      elim (ℕ_discrete (next_bit bits (c + 1) (unused c)) 0) [
        | yes z ↦ (z, sym (pass_17 z) ∙ e)
        | no n ↦ let s = set_17 n in absurd (omega arith)
      ]
