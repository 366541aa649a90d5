-- The bits beyond a cut: their reader passes exactly where the bytes are written from bits of which none beyond the cut is set.
use Prim.Native.Nat.{ℕ, ◌+◌, ◌*◌, ◌%◌, ◌≤◌, ◌<◌}
use mathlib.Core.Path.{◌≡◌, sym, ap, ◌∙◌}
use mathlib.Core.Bool.{true≢false}
use mathlib.Core.Logic.{◌⊎◌}
use mathlib.Core.Logic.◌⊎◌.{inl, inr}
use mathlib.Core.List.{List}
use native.Mathlib.Decide.{ℕ_discrete}
use native.Mathlib.Omega.{arith}
use lib.ListN.{length}
use Rattle.paper.specs.Lists.{has}
use Rattle.paper.specs.Bytes.{ceil_div}
use Rattle.paper.specs.Record.{bit_length, bit_at, next_bit, unused, slots_to_cut}
use Rattle.paper.specs.Write.{bit_bytes}
use Rattle.laws.proofs.Parts.{AllBytes}
use Rattle.laws.proofs.Rounding.{bytes_hold}
use Rattle.laws.proofs.Octets.{bits_at, bits_same}
use Rattle.laws.proofs.Bits.{next_found}
use Rattle.laws.proofs.Records.{Unset}
use Rattle.meaning.proofs.Rising.{has_high}
use Rattle.meaning.proofs.Bits.{bits_rise}
use Rattle.meaning.proofs.Parting.{unset_clean, clean_unset, bits_clean}
use Rattle.promises.proofs.RecordRows.{Rubbish, Tidy}

module _ (c : ℕ) (bits : List ℕ) (size : length bits ≡ bit_length c) where
  -- a cut that ends a byte has no bit behind it there
  ends_inside : (x : ℕ) → c < x → x ≤ 8 * length bits → ¬ (c % 8 ≡ 0)
  unfolding ceil_div
  ends_inside x l h z = let h = rw size at h in omega arith

  -- tidy bits pass
  pub tidy_unset : Tidy c bits → Unset c bits
  tidy_unset d =
      clean_unset c bits size λ x l h.
      ap (λ (b : List ℕ). bit_at b x) d.written ∙ bits_at d.t (length bits) x (omega arith) h ∙ d.unset x l

  -- rubbish does not
  pub rubbish_set : Rubbish c bits → ¬ (Unset c bits)
  rubbish_set d z =
      let x = d.x in
      let l = d.beyond in
      let h = d.within in
      let e = ap (λ (b : List ℕ). bit_at b x) d.written ∙ bits_at d.t (length bits) x (omega arith) (omega arith) ∙ d.set in
      true≢false (sym e ∙ unset_clean c bits size z x l (omega arith))

  module _ (all : AllBytes bits) where
    -- and those that pass are tidy
    pub unset_tidy : Unset c bits → Tidy c bits
    unset_tidy z =
        let e = bits_clean c bits all size (unset_clean c bits size z) in
        record {
          t = λ x. has x (slots_to_cut c bits);
          written = e ∙ ap (bit_bytes (λ x. has x (slots_to_cut c bits)) 1) (sym size);
          unset = λ x l. has_high c 0 x (slots_to_cut c bits) (bits_rise c bits) l;
        }

    set_rubbish : ¬ (Unset c bits) → Rubbish c bits
    set_rubbish n =
        let x = next_bit bits (c + 1) (unused c) in
        let f = next_found bits (c + 1) (unused c) (omega arith) in
        let b = bytes_hold c in
        let h : x ≤ 8 * length bits = let e = f.1 in rw size (omega arith) in
        record {
          inside = ends_inside x (let l = f.0 in omega arith) h;
          t = bit_at bits;
          written = bits_same bits all;
          x = x;
          beyond = let l = f.0 in omega arith;
          within = omega arith;
          set = f.2;
        }

    -- one or the other
    pub tidy_or : Tidy c bits ⊎ Rubbish c bits
    tidy_or =
        elim (ℕ_discrete (next_bit bits (c + 1) (unused c)) 0) [
          | yes z ↦ inl (unset_tidy z)
          | no n ↦ inr (set_rubbish n)
        ]
