-- Bytes side by side, added up. A number that holds them in lanes of 16 bits is their sum and a multiple of 65535; in lanes of 8 bits, a multiple of 255.
use Prim.Native.Nat.{ℕ, zero, suc, ◌+◌, ◌*◌, ◌/◌, ◌≤◌, ◌<◌}
use mathlib.Core.Path.{◌≡◌, refl, ap, ◌∙◌}
use mathlib.Core.List.{List, [], ◌∷◌}
use native.Mathlib.Omega.{arith}
use lib.Bits.{bit_and, and_block, and_mask, and_zero_l}
use lib.ListN.{length}
use Rattle.paper.specs.Lists.{total}
use Rattle.laws.proofs.Parts.{AllBytes, all_tail, all_drop}
use Rattle.quick.specs.Sums.{digits, seconds, leads}
use Rattle.quick.specs.Words.{in_pairs, of_even}
use Rattle.quick.proofs.Lanes.{spelled, lows, flags, leds}

-- every second byte, in lanes of 16 bits
unfoldable evens : List ℕ → ℕ
evens [] = 0
evens (a ∷ []) = a
evens (a ∷ b ∷ r) = evens r * 65536 + a

rest : List ℕ → List ℕ
rest [] = []
rest (a ∷ r) = r

unfoldable evened : ℕ → ℕ
evened zero = 0
evened (suc n) = evened n * 65536 + 255

low_16 : (a b : ℕ) → a < 256 → bit_and (b * 256 + a) 255 ≡ a
low_16 a b l = and_mask (b * 256 + a) 8 ∙ omega arith

and_evens : (n : ℕ) (xs : List ℕ) → length xs ≤ 2 * n → AllBytes xs → bit_and (spelled xs) (evened n) ≡ evens xs
unfolding spelled evened evens
and_evens n [] l all = and_zero_l (evened n)
and_evens zero (a ∷ r) l all = absurd (omega arith)
and_evens (suc n) (a ∷ []) l all =
    let d : 0 * 256 + a ≡ 0 * 65536 + a = omega arith in
    let e = and_block 16 0 (evened n) a 255 (omega (arith, all 0)) (omega arith) in
    let z = and_zero_l (evened n) in
    let m : bit_and a 255 ≡ a = and_mask a 8 ∙ omega (arith, all 0) in
    ap (λ (k : ℕ). bit_and k (evened n * 65536 + 255)) d ∙ e ∙ rw (z, m) (omega arith)
and_evens (suc n) (a ∷ b ∷ r) l all =
    let i = and_evens n r (omega arith) (all_drop 2 (a ∷ b ∷ r) all) in
    more (spelled r) (evens r) i
  where
    more : (x y : ℕ) → bit_and x (evened n) ≡ y → bit_and ((x * 256 + b) * 256 + a) (evened n * 65536 + 255) ≡ y * 65536 + a
    more x y i =
        let d : (x * 256 + b) * 256 + a ≡ x * 65536 + (b * 256 + a) = omega arith in
        let e = and_block 16 x (evened n) (b * 256 + a) 255 (omega (arith, all 0, all 1)) (omega arith) in
        let m = low_16 a b (all 0) in
        ap (λ (k : ℕ). bit_and k (evened n * 65536 + 255)) d ∙ e ∙ omega arith

-- x is s and a multiple of m
pub record Over (m s x : ℕ) : Type 0 where
  pub times : ℕ
  pub is : x ≡ s + m * times

evens_next : (b : ℕ) (r : List ℕ) → evens (b ∷ r) ≡ evens (rest r) * 65536 + b
unfolding evens rest
evens_next b [] = omega arith
evens_next b (c ∷ r) = refl

both : (xs : List ℕ) → Over 65535 (total xs) (evens xs + evens (rest xs))
unfolding evens total rest
both [] = record { times = 0; is = omega arith }
both (a ∷ []) = record { times = 0; is = omega arith }
both (a ∷ b ∷ r) =
    let o = both r in
    let e = evens_next b r in
    record { times = o.times + evens r + evens (rest r); is = omega (arith, o.is, e) }

spelled_rest : (xs : List ℕ) → AllBytes xs → spelled xs / 256 ≡ spelled (rest xs)
unfolding spelled rest
spelled_rest [] all = omega arith
spelled_rest (a ∷ r) all = omega (arith, all 0)

all_rest : (xs : List ℕ) → AllBytes xs → AllBytes (rest xs)
unfolding rest
all_rest [] all = all
all_rest (a ∷ r) all = all_tail a r all

rest_short : (xs : List ℕ) → length (rest xs) ≤ length xs
unfolding rest
rest_short [] = omega arith
rest_short (a ∷ r) = omega arith

of_even_is : evened 4 ≡ of_even
unfolding evened
of_even_is = refl

pub added : (xs : List ℕ) → length xs ≤ 8 → AllBytes xs → Over 65535 (total xs) (in_pairs (spelled xs))
unfolding in_pairs
added xs l all =
    let e : bit_and (spelled xs) of_even ≡ evens xs = rw of_even_is at (and_evens 4 xs (omega arith) all) in
    let f : bit_and (spelled (rest xs)) of_even ≡ evens (rest xs) = rw of_even_is at (and_evens 4 (rest xs) (omega (arith, rest_short xs)) (all_rest xs all)) in
    let o = both xs in
    record { times = o.times; is = ap (λ (k : ℕ). bit_and (spelled xs) of_even + bit_and k of_even) (spelled_rest xs all) ∙ omega arith }

-- bytes, one lane each
pub counted : (xs : List ℕ) → Over 255 (total xs) (spelled xs)
unfolding spelled total
counted [] = record { times = 0; is = omega arith }
counted (a ∷ r) = let o = counted r in record { times = spelled r + o.times; is = omega (arith, o.is) }

-- what is counted of the lanes is what is counted of the bytes
pub total_lows : (ws : List ℕ) → total (lows ws) ≡ digits ws
unfolding total lows digits
total_lows [] = refl
total_lows (w ∷ r) = rw (total_lows r)

pub total_flags : (ws : List ℕ) → total (flags ws) ≡ leads ws
unfolding total flags leads
total_flags [] = refl
total_flags (w ∷ r) = rw (total_flags r)

pub total_leds : (p : ℕ) (ws : List ℕ) → total (leds p ws) ≡ seconds p ws
unfolding total leds seconds
total_leds p [] = refl
total_leds p (w ∷ r) = rw (total_leds w r)
