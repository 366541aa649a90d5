-- Lanes with two bytes before each: as `Lanes`.
use Prim.Native.Nat.{ℕ, zero, suc, ◌+◌, ◌*◌, ◌/◌, ◌%◌, ◌≤◌, ◌<◌}
use mathlib.Core.Path.{◌≡◌, refl, sym, ap, ◌∙◌}
use mathlib.Core.List.{List, [], ◌∷◌, ◌++◌}
use native.Mathlib.Decide.{dec_lt, ℕ_discrete}
use native.Mathlib.Omega.{arith}
use lib.Bits.{bit_and, bit_or, or_block, or_lt, and_zero_r, and_comm, and_le_r}
use lib.ListN.{length}
use borrow.Author.Tests.{lt-ltb, le-ltb}
use lib.Dec.{ltb}
use Rattle.paper.specs.Lists.{last_of, pick}
use Rattle.laws.proofs.Parts.{AllBytes, all_tail}
use Rattle.quick.specs.Sums.{third_of, Threes}
use Rattle.quick.specs.Sums.Threes.{fresh, second, third}
use Rattle.quick.proofs.Accepting.{third_none, third_some}
use Rattle.quick.proofs.Lanes.{spelled, filled, lag, lows, flags, and_8, top_1, led_lane, not_on}

-- whether both bytes before a byte lead on
unfoldable pub on2 : ℕ → ℕ → ℕ
on2 q p = pick (ltb q 128) 0 (p / 128)

on2_none : (q p : ℕ) → q < 128 → on2 q p ≡ 0
unfolding on2
on2_none q p l = simp (lt-ltb _ _ l)

on2_some : (q p : ℕ) → 128 ≤ q → on2 q p ≡ p / 128
unfolding on2
on2_some q p l = simp (le-ltb _ _ l)

on2_small : (q p : ℕ) → p < 256 → on2 q p ≤ 1
on2_small q p l = elim (dec_lt q 128) [ yes h ↦ omega (arith, on2_none q p h) | no n ↦ omega (arith, on2_some q p (omega arith)) ]

unfoldable pub flags2 : ℕ → ℕ → List ℕ → List ℕ
flags2 q p [] = []
flags2 q p (b ∷ r) = on2 q p ∷ flags2 p b r

unfoldable pub fars : ℕ → ℕ → List ℕ → List ℕ
fars q p [] = []
fars q p (b ∷ r) = third_of q p b ∷ fars p b r

both_lane : (q p : ℕ) → q < 256 → p < 256 → bit_and (128 * (p / 128)) q ≡ 128 * on2 q p
both_lane q p lq lp = elim (dec_lt p 128) [
  | yes l ↦ let z : 128 * (p / 128) ≡ 0 = omega arith in ap (λ (x : ℕ). bit_and x q) z ∙ zeros l (dec_lt q 128)
  | no n ↦ let z : 128 * (p / 128) ≡ 128 = omega arith in ap (λ (x : ℕ). bit_and x q) z ∙ and_comm 128 q ∙ top_1 q lq ∙ ones n (dec_lt q 128)
]
  where
    zeros : p < 128 → Dec (q < 128) → bit_and 0 q ≡ 128 * on2 q p
    zeros l (yes h) = rw (on2_none q p h)
    zeros l (no n) = rw (on2_some q p (omega arith)) (omega arith)

    ones : ¬ (p < 128) → Dec (q < 128) → 128 * (q / 128) ≡ 128 * on2 q p
    ones n (yes h) = rw (on2_none q p h) (omega arith)
    ones n (no m) = rw (on2_some q p (omega arith)) (omega arith)

pub and_both : (q p : ℕ) (ws : List ℕ) → q < 256 → p < 256 → AllBytes ws
    → bit_and (128 * spelled (flags (lag p ws))) (spelled (lag q (lag p ws))) ≡ 128 * spelled (flags2 q p ws)
unfolding spelled flags lag flags2
and_both q p [] lq lp all = refl
and_both q p (w ∷ r) lq lp all =
    let e = and_both p w r lp (all 0) (all_tail w r all) in
    more (spelled (flags (lag w r))) (spelled (lag p (lag w r))) (spelled (flags2 p w r)) e
  where
    more : (f x y : ℕ) → bit_and (128 * f) x ≡ 128 * y → bit_and (128 * (f * 256 + p / 128)) (x * 256 + q) ≡ 128 * (y * 256 + on2 q p)
    more f x y e =
        let d : 128 * (f * 256 + p / 128) ≡ 128 * f * 256 + 128 * (p / 128) = omega arith in
        ap (λ (z : ℕ). bit_and z (x * 256 + q)) d ∙ and_8 (128 * f) x (128 * (p / 128)) q (omega arith) lq ∙ omega (arith, e, both_lane q p lq lp)

far_lane : (q p w : ℕ) → q < 256 → p < 256 → bit_and (w % 128) (127 * on2 q p) ≡ third_of q p w
far_lane q p w lq lp = go (dec_lt q 128)
  where
    go : Dec (q < 128) → bit_and (w % 128) (127 * on2 q p) ≡ third_of q p w
    go (yes h) = let z : 127 * on2 q p ≡ 0 = omega (arith, on2_none q p h) in ap (bit_and (w % 128)) z ∙ and_zero_r (w % 128) ∙ sym (third_none q p w h)
    go (no n) = let m : 128 ≤ q = omega arith in ap (λ (x : ℕ). bit_and (w % 128) (127 * x)) (on2_some q p m) ∙ led_lane p w lp ∙ sym (third_some q p w m)

pub and_fars : (q p : ℕ) (ws : List ℕ) → q < 256 → p < 256 → AllBytes ws → bit_and (spelled (lows ws)) (127 * spelled (flags2 q p ws)) ≡ spelled (fars q p ws)
unfolding spelled lows flags2 fars
and_fars q p [] lq lp all = refl
and_fars q p (w ∷ r) lq lp all =
    let e = and_fars p w r lp (all 0) (all_tail w r all) in
    more (spelled (lows r)) (spelled (flags2 p w r)) (spelled (fars p w r)) e
  where
    more : (x f y : ℕ) → bit_and x (127 * f) ≡ y → bit_and (x * 256 + w % 128) (127 * (f * 256 + on2 q p)) ≡ y * 256 + third_of q p w
    more x f y e =
        let d : 127 * (f * 256 + on2 q p) ≡ 127 * f * 256 + 127 * on2 q p = omega arith in
        ap (bit_and (x * 256 + w % 128)) d ∙ and_8 x (127 * f) (w % 128) (127 * on2 q p) (omega arith) (omega (arith, on2_small q p lp)) ∙ omega (arith, e, far_lane q p w lq lp)

or_8 : (a b r s : ℕ) → r < 256 → s < 256 → bit_or (a * 256 + r) (b * 256 + s) ≡ bit_or a b * 256 + bit_or r s
or_8 a b r s = or_block 8 a b r s

or_small : (a b : ℕ) → a < 256 → b < 256 → bit_or a b < 256
or_small a b = or_lt 8 a b

-- a byte that is led to is not 0
not_none : (p w : ℕ) → 128 ≤ p → p < 256 → 128 * (p / 128) ≤ bit_and (bit_or (w % 128 + 127) w) (128 * (p / 128)) → 0 < w
not_none p w l h z = go (ℕ_discrete w 0)
  where
    go : Dec (w ≡ 0) → 0 < w
    go (no n) = omega (arith, n)
    go (yes e) =
        let d : 128 * (p / 128) ≡ 128 = omega arith in
        let i : 128 ≤ bit_and (bit_or (w % 128 + 127) w) 128 = rw d at z in
        let j : 128 ≤ bit_and (bit_or 127 0) 128 = rw e at i in
        absurd (omega arith)

-- two lanes and those above them, told apart
record Split (x y f g m q p w : ℕ) : Type 0 where
  a_low : bit_and (128 * on2 q p) w ≡ 0
  a_high : bit_and (128 * g) x ≡ 0
  b_low : 128 * (p / 128) ≤ bit_and (bit_or (w % 128 + 127) w) (128 * (p / 128))
  b_high : 128 * f ≤ bit_and (bit_or (y + m) x) (128 * f)

split : (x y f g m q p w : ℕ) → p < 256 → w < 256 → bit_and (128 * (g * 256 + on2 q p)) (x * 256 + w) ≡ 0
    → 128 * (f * 256 + p / 128) ≤ bit_and (bit_or (y * 256 + w % 128 + (m * 256 + 127)) (x * 256 + w)) (128 * (f * 256 + p / 128)) → Split x y f g m q p w
split x y f g m q p w h k a b =
    let d : 128 * (f * 256 + p / 128) ≡ 128 * f * 256 + 128 * (p / 128) = omega arith in
    let d₂ : 128 * (g * 256 + on2 q p) ≡ 128 * g * 256 + 128 * on2 q p = omega arith in
    let e : y * 256 + w % 128 + (m * 256 + 127) ≡ (y + m) * 256 + (w % 128 + 127) = omega arith in
    let o = or_8 (y + m) x (w % 128 + 127) w (omega arith) k in
    let i = rw d₂ at a in
    let j = rw (d, e, o) at b in
    let s = and_8 (128 * g) x (128 * on2 q p) w (omega (arith, on2_small q p h)) k in
    let t = and_8 (bit_or (y + m) x) (128 * f) (bit_or (w % 128 + 127) w) (128 * (p / 128)) (or_small (w % 128 + 127) w (omega arith) k) (omega arith) in
    let v = and_le_r (bit_or (y + m) x) (128 * f) in
    let u = and_le_r (bit_or (w % 128 + 127) w) (128 * (p / 128)) in
    record { a_low = omega arith; a_high = omega arith; b_low = omega arith; b_high = omega arith }

lane : (q p w : ℕ) (r : List ℕ) → q < 256 → p < 256 → w < 256 → bit_and (128 * on2 q p) w ≡ 0 → 128 * (p / 128) ≤ bit_and (bit_or (w % 128 + 127) w) (128 * (p / 128))
    → Threes p w r → Threes q p (w ∷ r)
lane q p w r lq lp lw i j g = go (dec_lt p 128) (dec_lt q 128)
  where
    go : Dec (p < 128) → Dec (q < 128) → Threes q p (w ∷ r)
    go (yes l) d = fresh l g
    go (no n) (yes l) = second l (not_none p w (omega arith) lp j) g
    go (no n) (no m) =
        let k = ap (λ (x : ℕ). bit_and (128 * x) w) (sym (on2_some q p (omega arith))) ∙ i in
        third (not_none p w (omega arith) lp j) (not_on p w (omega arith) lp lw k) g

pub and_threes : (n q p : ℕ) (ws : List ℕ) → length ws ≤ n → q < 256 → p < 256 → AllBytes ws → bit_and (128 * spelled (flags2 q p ws)) (spelled ws) ≡ 0
    → 128 * spelled (flags (lag p ws)) ≤ bit_and (bit_or (spelled (lows ws) + filled 127 n) (spelled ws)) (128 * spelled (flags (lag p ws)))
    → (r : List ℕ) → Threes (last_of q (lag p ws)) (last_of p ws) r → Threes q p (ws ++ r)
unfolding spelled lows flags lag filled flags2
and_threes n q p [] l lq lp all a b r g = g
and_threes zero q p (w ∷ ws) l lq lp all a b r g = absurd (omega arith)
and_threes (suc n) q p (w ∷ ws) l lq lp all a b r g =
    let s = split (spelled ws) (spelled (lows ws)) (spelled (flags (lag w ws))) (spelled (flags2 p w ws)) (filled 127 n) q p w lp (all 0) a b in
    lane q p w (ws ++ r) lq lp (all 0) s.a_low s.b_low (and_threes n p w ws (omega arith) lp (all 0) (all_tail w ws all) s.a_high s.b_high r g)
