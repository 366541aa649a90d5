-- Bytes side by side in one number, the first lowest: what the bit operations do to each of them. A number may hold fewer bytes than the mask does.
use Prim.Native.Nat.{ℕ, zero, suc, ◌+◌, ◌*◌, ◌/◌, ◌%◌, ◌≤◌, ◌<◌}
use mathlib.Core.Path.{◌≡◌, refl, sym, ap, ◌∙◌}
use mathlib.Core.List.{List, [], ◌∷◌, ◌++◌}
use native.Mathlib.Decide.{dec_lt}
use native.Mathlib.Omega.{arith}
use lib.Bits.{bit_and, and_block, and_mask, and_high, and_zero_l, and_zero_r, and_comm, and_le_r}
use lib.ListN.{length}
use Rattle.paper.specs.Lists.{last_of}
use Rattle.laws.proofs.Parts.{AllBytes, all_tail}
use Rattle.quick.specs.Sums.{led_to, Pairs}
use Rattle.quick.specs.Sums.Pairs.{fresh, second}
use Rattle.quick.proofs.Accepting.{led_none, led_some}

-- the number that bytes spell
unfoldable pub spelled : List ℕ → ℕ
spelled [] = 0
spelled (b ∷ r) = spelled r * 256 + b

-- n bytes c
unfoldable pub filled : ℕ → ℕ → ℕ
filled c zero = 0
filled c (suc n) = filled c n * 256 + c

-- before each byte of a list stands this one, p before the first
unfoldable pub lag : ℕ → List ℕ → List ℕ
lag p [] = []
lag p (b ∷ r) = p ∷ lag b r

-- byte by byte: the digit; whether it leads on; the digit where it is led to
unfoldable pub lows : List ℕ → List ℕ
lows [] = []
lows (b ∷ r) = b % 128 ∷ lows r

unfoldable pub flags : List ℕ → List ℕ
flags [] = []
flags (b ∷ r) = b / 128 ∷ flags r

unfoldable pub leds : ℕ → List ℕ → List ℕ
leds p [] = []
leds p (b ∷ r) = led_to p b ∷ leds b r

pub and_8 : (a b r s : ℕ) → r < 256 → s < 256 → bit_and (a * 256 + r) (b * 256 + s) ≡ bit_and a b * 256 + bit_and r s
and_8 a b r s = and_block 8 a b r s

-- one byte
pub low_7 : (b : ℕ) → bit_and b 127 ≡ b % 128
low_7 b = and_mask b 7

pub top_1 : (b : ℕ) → b < 256 → bit_and b 128 ≡ 128 * (b / 128)
top_1 b l = and_high b 1 7 ∙ omega arith

-- the lowest seven bits of each
pub and_lows : (n : ℕ) (ws : List ℕ) → length ws ≤ n → AllBytes ws → bit_and (spelled ws) (filled 127 n) ≡ spelled (lows ws)
unfolding spelled lows filled
and_lows n [] l all = and_zero_l (filled 127 n)
and_lows zero (w ∷ r) l all = absurd (omega arith)
and_lows (suc n) (w ∷ r) l all =
    let e = and_lows n r (omega arith) (all_tail w r all) in
    more n (spelled r) w (spelled (lows r)) (all 0) e
  where
    more : (n x w y : ℕ) → w < 256 → bit_and x (filled 127 n) ≡ y → bit_and (x * 256 + w) (filled 127 (suc n)) ≡ y * 256 + w % 128
    more n x w y l e = and_8 x (filled 127 n) w 127 l (omega arith) ∙ omega (arith, e, low_7 w)

-- the highest bit of each
pub and_tops : (n : ℕ) (ws : List ℕ) → length ws ≤ n → AllBytes ws → bit_and (spelled ws) (filled 128 n) ≡ 128 * spelled (flags ws)
unfolding spelled flags filled
and_tops n [] l all = and_zero_l (filled 128 n)
and_tops zero (w ∷ r) l all = absurd (omega arith)
and_tops (suc n) (w ∷ r) l all =
    let e = and_tops n r (omega arith) (all_tail w r all) in
    more n (spelled r) w (spelled (flags r)) (all 0) e
  where
    more : (n x w y : ℕ) → w < 256 → bit_and x (filled 128 n) ≡ 128 * y → bit_and (x * 256 + w) (filled 128 (suc n)) ≡ 128 * (y * 256 + w / 128)
    more n x w y l e = and_8 x (filled 128 n) w 128 l (omega arith) ∙ omega (arith, e, top_1 w l)

-- the digits where a byte is led to: 127 stands where one leads on
pub led_lane : (p w : ℕ) → p < 256 → bit_and (w % 128) (127 * (p / 128)) ≡ led_to p w
led_lane p w l = go (dec_lt p 128)
  where
    go : Dec (p < 128) → bit_and (w % 128) (127 * (p / 128)) ≡ led_to p w
    go (yes h) = let z : 127 * (p / 128) ≡ 0 = omega arith in ap (bit_and (w % 128)) z ∙ and_zero_r (w % 128) ∙ sym (led_none p w h)
    go (no n) = let z : 127 * (p / 128) ≡ 127 = omega arith in let m : w % 128 % 128 ≡ w % 128 = omega arith in ap (bit_and (w % 128)) z ∙ low_7 (w % 128) ∙ m ∙ sym (led_some p w (omega arith))

pub and_leds : (p : ℕ) (ws : List ℕ) → p < 256 → AllBytes ws → bit_and (spelled (lows ws)) (127 * spelled (flags (lag p ws))) ≡ spelled (leds p ws)
unfolding spelled lows flags lag leds
and_leds p [] l all = refl
and_leds p (w ∷ r) l all =
    let e = and_leds w r (all 0) (all_tail w r all) in
    more (spelled (lows r)) (spelled (flags (lag w r))) (spelled (leds w r)) e
  where
    more : (x f y : ℕ) → bit_and x (127 * f) ≡ y → bit_and (x * 256 + w % 128) (127 * (f * 256 + p / 128)) ≡ y * 256 + led_to p w
    more x f y e =
        let d : 127 * (f * 256 + p / 128) ≡ 127 * f * 256 + 127 * (p / 128) = omega arith in
        ap (bit_and (x * 256 + w % 128)) d ∙ and_8 x (127 * f) (w % 128) (127 * (p / 128)) (omega arith) (omega arith) ∙ omega (arith, e, led_lane p w l)

-- one byte that is led to: it does not lead on, and it is not 0
pub not_on : (p w : ℕ) → 128 ≤ p → p < 256 → w < 256 → bit_and (128 * (p / 128)) w ≡ 0 → w < 128
not_on p w l h k z =
    let d : 128 * (p / 128) ≡ 128 = omega arith in
    let e = and_comm 128 w ∙ top_1 w k in
    omega (arith, ap (λ (x : ℕ). bit_and x w) (sym d) ∙ z, e)

not_0 : (p w : ℕ) → 128 ≤ p → p < 256 → w < 128 → 128 * (p / 128) ≤ bit_and (w % 128 + 127) (128 * (p / 128)) → 0 < w
not_0 p w l h k z =
    let d : 128 * (p / 128) ≡ 128 = omega arith in
    let e = ap (bit_and (w % 128 + 127)) d ∙ top_1 (w % 128 + 127) (omega arith) in
    omega (arith, z, e, d)

-- two lanes and those above them, told apart
record Split (x y f m p w : ℕ) : Type 0 where
  a_low : bit_and (128 * (p / 128)) w ≡ 0
  a_high : bit_and (128 * f) x ≡ 0
  b_low : 128 * (p / 128) ≤ bit_and (w % 128 + 127) (128 * (p / 128))
  b_high : 128 * f ≤ bit_and (y + m) (128 * f)

pub and_pairs : (n p : ℕ) (ws : List ℕ) → length ws ≤ n → p < 256 → AllBytes ws → bit_and (128 * spelled (flags (lag p ws))) (spelled ws) ≡ 0
    → 128 * spelled (flags (lag p ws)) ≤ bit_and (spelled (lows ws) + filled 127 n) (128 * spelled (flags (lag p ws)))
    → (r : List ℕ) → Pairs (last_of p ws) r → Pairs p (ws ++ r)
unfolding spelled lows flags lag filled
and_pairs n p [] l h all a b r g = g
and_pairs zero p (w ∷ ws) l h all a b r g = absurd (omega arith)
and_pairs (suc n) p (w ∷ ws) l h all a b r g =
    let s = part (spelled ws) (spelled (lows ws)) (spelled (flags (lag w ws))) (filled 127 n) a b in
    here s.a_low s.b_low (and_pairs n w ws (omega arith) (all 0) (all_tail w ws all) s.a_high s.b_high r g)
  where
    part : (x y f m : ℕ) → bit_and (128 * (f * 256 + p / 128)) (x * 256 + w) ≡ 0
        → 128 * (f * 256 + p / 128) ≤ bit_and (y * 256 + w % 128 + (m * 256 + 127)) (128 * (f * 256 + p / 128)) → Split x y f m p w
    part x y f m a b =
        let d : 128 * (f * 256 + p / 128) ≡ 128 * f * 256 + 128 * (p / 128) = omega arith in
        let e : y * 256 + w % 128 + (m * 256 + 127) ≡ (y + m) * 256 + (w % 128 + 127) = omega arith in
        let i = rw d at a in
        let j = rw (d, e) at b in
        let s = and_8 (128 * f) x (128 * (p / 128)) w (omega arith) (all 0) in
        let t = and_8 (y + m) (128 * f) (w % 128 + 127) (128 * (p / 128)) (omega arith) (omega arith) in
        let v = and_le_r (y + m) (128 * f) in
        let u = and_le_r (w % 128 + 127) (128 * (p / 128)) in
        record { a_low = omega arith; a_high = omega arith; b_low = omega arith; b_high = omega arith }

    here : bit_and (128 * (p / 128)) w ≡ 0 → 128 * (p / 128) ≤ bit_and (w % 128 + 127) (128 * (p / 128)) → Pairs w (ws ++ r) → Pairs p (w ∷ (ws ++ r))
    here i j k = elim (dec_lt p 128) [
      | yes q ↦ fresh q k
      | no q ↦ let o = not_on p w (omega arith) h (all 0) i in second (not_0 p w (omega arith) h o j) o k
    ]
