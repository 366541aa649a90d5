-- The slots up to the cut: they ascend, a slot is among them exactly when its bit is set, and the next one from a slot on is that of the next set bit.
use Prim.Native.Nat.{ℕ, zero, suc, ◌+◌, ◌-◌, ◌≤◌, ◌<◌}
use mathlib.Core.Path.{◌≡◌, refl, sym, ap, ◌∙◌}
use mathlib.Core.Bool.{Bool, true, false}
use mathlib.Core.List.{List}
use native.Mathlib.Decide.{ℕ_discrete}
use native.Mathlib.Omega.{arith}
use Rattle.paper.specs.Lists.{has, keep, first_from, up_from}
use Rattle.paper.specs.Record.{bit_at, next_bit, slots_to_cut}
use Rattle.laws.proofs.Lists.{has_here, has_there, up_pass, up_fail, first_none, first_here, first_behind}
use Rattle.laws.proofs.Bits.{cut_on, next_hit, next_miss}
use Rattle.meaning.proofs.Rising.{Ascends, rise_lower, has_low, first_high}

-- of the k numbers from x on, those that pass a test
module _ (t : ℕ → Bool) where
  -- they ascend
  up_rise : (k x l h : ℕ) → l < x → x + k ≤ suc h → Ascends h l (keep t (up_from x k))
  unfolding keep up_from
  up_rise zero x l h i j = tt
  up_rise (suc k) x l h i j = go (t x) refl (up_rise k (x + 1) x h (omega arith) (omega arith))
    where
      go : (b : Bool) → t x ≡ b → Ascends h x (keep t (up_from (x + 1) k)) → Ascends h l (keep t (up_from x (suc k)))
      go true e a = rw (up_pass t x k e) (i, omega arith, a)
      go false e a = rw (up_fail t x k e) (rise_lower h l x (keep t (up_from (x + 1) k)) (omega arith) a)

  -- and are those that pass
  up_has : (k x y : ℕ) → x ≤ y → y < x + k → has y (keep t (up_from x k)) ≡ t y
  up_has zero x y i j = absurd (omega arith)
  up_has (suc k) x y i j = go (t x) refl (ℕ_discrete y x) (λ g. up_has k (x + 1) y g (omega arith))
    where
      rest : List ℕ
      rest = keep t (up_from (x + 1) k)

      rises : Ascends (x + k) x rest
      rises = up_rise k (x + 1) x (x + k) (omega arith) (omega arith)

      go : (b : Bool) → t x ≡ b → Dec (y ≡ x) → (x + 1 ≤ y → has y rest ≡ t y) → has y (keep t (up_from x (suc k))) ≡ t y
      go true e (yes z) rec = rw (up_pass t x k e) (has_here y x rest z ∙ sym e ∙ ap t (sym z))
      go true e (no n) rec = rw (up_pass t x k e) (has_there y x rest n ∙ rec (omega arith))
      go false e (yes z) rec = rw (up_fail t x k e) (has_low (x + k) x y rest rises (omega arith) ∙ sym e ∙ ap t (sym z))
      go false e (no n) rec = rw (up_fail t x k e) (rec (omega arith))

-- the slots up to the cut ascend within 1..c
pub bits_rise : (c : ℕ) (bits : List ℕ) → Ascends c 0 (slots_to_cut c bits)
unfolding slots_to_cut
bits_rise c bits = up_rise (bit_at bits) c 1 0 c (omega arith) (omega arith)

-- a slot is among them exactly when its bit is set
pub bits_has : (c : ℕ) (bits : List ℕ) (x : ℕ) → 1 ≤ x → x ≤ c → has x (slots_to_cut c bits) ≡ bit_at bits x
unfolding slots_to_cut
bits_has c bits x l h = up_has (bit_at bits) c 1 x l (omega arith)

-- of the k slots from y on, the first one that is set; none of them is below x
up_first : (bits : List ℕ) (x k y : ℕ) → x ≤ y → first_from x (keep (bit_at bits) (up_from y k)) ≡ next_bit bits y k
unfolding keep up_from next_bit
up_first bits x zero y l = first_none x
up_first bits x (suc k) y l = go (bit_at bits y) refl (up_first bits x k (y + 1) (omega arith))
  where
    go : (b : Bool) → bit_at bits y ≡ b → first_from x (keep (bit_at bits) (up_from (y + 1) k)) ≡ next_bit bits (y + 1) k
        → first_from x (keep (bit_at bits) (up_from y (suc k))) ≡ next_bit bits y (suc k)
    go true e q = rw (up_pass (bit_at bits) y k e, next_hit bits y k e) (first_here x y _ l)
    go false e q = rw (up_fail (bit_at bits) y k e, next_miss bits y k e) q

-- from x on, up to the cut, the next slot is that of the next set bit
pub bits_first : (c : ℕ) (bits : List ℕ) (x : ℕ) → 1 ≤ x → x ≤ c → first_from x (slots_to_cut c bits) ≡ next_bit bits x (c + 1 - x)
bits_first c bits x l h =
    let all : c ≡ x - 1 + (c + 1 - x) = omega arith in
    let from : 1 + (x - 1) ≡ x = omega arith in
    let low = slots_to_cut (x - 1) bits in
    ap (λ (k : ℕ). first_from x (slots_to_cut k bits)) all
    ∙ ap (first_from x) (cut_on (x - 1) (c + 1 - x) bits)
    ∙ first_behind x l low _ (first_high (x - 1) 0 x low (bits_rise (x - 1) bits) (omega arith))
    ∙ ap (λ (k : ℕ). first_from x (keep (bit_at bits) (up_from k (c + 1 - x)))) from
    ∙ up_first bits x (c + 1 - x) x (omega arith)
