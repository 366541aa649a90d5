-- A glance, eight bytes at a time: what is seen of the bytes before, with what is left, is what there is to be seen of all. Then the same by position.
use Prim.Native.Nat.{ℕ, zero, suc, ◌+◌, ◌-◌, ◌*◌, ◌/◌, ◌%◌, ◌≤◌, ◌<◌}
use mathlib.Core.Path.{◌≡◌, refl, ap}
use mathlib.Core.List.{List, [], ◌∷◌, ◌++◌}
use native.Mathlib.Nat.{mul-add}
use native.Mathlib.Decide.{dec_lt}
use native.Mathlib.Omega.{arith}
use lib.Bits.{bit_and, bit_or, and_le_l, and_le_r, or_add_and}
use lib.ListN.{length, drop}
use Rattle.paper.specs.Bytes.{byte_at}
use Rattle.paper.specs.Lists.{last_of}
use Rattle.laws.proofs.Parts.{AllBytes, all_tail}
use Rattle.quick.specs.Sums.{digits, led_to, seconds, leads, Pairs}
use Rattle.quick.specs.Sums.Pairs.{fresh}
use Rattle.quick.specs.Words.{wrong_of, led_of, in_pairs, on_of, of_low, of_top}
use Rattle.quick.proofs.Accepting.{led_none, led_some}
use Rattle.quick.proofs.Lanes.{spelled, filled, lag, lows, flags, leds, and_lows, and_tops, and_leds, and_pairs}
use Rattle.quick.proofs.Adding.{Over, added, counted, total_lows, total_flags, total_leds}

-- bytes one after the other
pub digits_join : (ws r : List ℕ) → digits (ws ++ r) ≡ digits ws + digits r
unfolding digits
digits_join [] r = omega arith
digits_join (w ∷ ws) r = omega (arith, digits_join ws r)

pub leads_join : (ws r : List ℕ) → leads (ws ++ r) ≡ leads ws + leads r
unfolding leads
leads_join [] r = omega arith
leads_join (w ∷ ws) r = omega (arith, leads_join ws r)

pub seconds_join : (p : ℕ) (ws r : List ℕ) → seconds p (ws ++ r) ≡ seconds p ws + seconds (last_of p ws) r
unfolding seconds
seconds_join p [] r = omega arith
seconds_join p (w ∷ ws) r = omega (arith, seconds_join w ws r)

-- the words of the code, as lanes
pub of_low_is : filled 127 8 ≡ of_low
unfolding filled
of_low_is = refl

of_top_is : filled 128 8 ≡ of_top
unfolding filled
of_top_is = refl

pub lag_length : (p : ℕ) (ws : List ℕ) → length (lag p ws) ≡ length ws
unfolding lag
lag_length p [] = refl
lag_length p (w ∷ r) = ap suc (lag_length w r)

pub lag_bytes : (p : ℕ) (ws : List ℕ) → p < 256 → AllBytes ws → AllBytes (lag p ws)
unfolding lag
lag_bytes p [] l all i = all i
lag_bytes p (w ∷ r) l all zero = l
lag_bytes p (w ∷ r) l all (suc i) = lag_bytes w r (all 0) (all_tail w r all) i

lows_length : (ws : List ℕ) → length (lows ws) ≡ length ws
unfolding lows
lows_length [] = refl
lows_length (w ∷ r) = ap suc (lows_length r)

lows_bytes : (ws : List ℕ) → AllBytes (lows ws)
unfolding lows
lows_bytes [] i = omega arith
lows_bytes (w ∷ r) zero = omega arith
lows_bytes (w ∷ r) (suc i) = lows_bytes r i

leds_length : (p : ℕ) (ws : List ℕ) → length (leds p ws) ≡ length ws
unfolding leds
leds_length p [] = refl
leds_length p (w ∷ r) = ap suc (leds_length w r)

pub led_small : (p b : ℕ) → led_to p b < 128
led_small p b = elim (dec_lt p 128) [ yes l ↦ omega (arith, led_none p b l) | no n ↦ omega (arith, led_some p b (omega arith)) ]

leds_bytes : (p : ℕ) (ws : List ℕ) → AllBytes (leds p ws)
unfolding leds
leds_bytes p [] i = omega arith
leds_bytes p (w ∷ r) zero = omega (arith, led_small p w)
leds_bytes p (w ∷ r) (suc i) = leds_bytes w r i

pub or_none : (a b : ℕ) → bit_or a b ≡ 0 → (a ≡ 0) × (b ≡ 0)
or_none a b z = (omega (arith, or_add_and a b, and_le_r a b), omega (arith, or_add_and a b, and_le_l a b))

module _ (p : ℕ) (ws : List ℕ) (n : length ws ≤ 8) (l : p < 256) (all : AllBytes ws) where
  pub low_is : bit_and (spelled ws) of_low ≡ spelled (lows ws)
  low_is = rw of_low_is at (and_lows 8 ws n all)

  top_is : bit_and (spelled ws) of_top ≡ 128 * spelled (flags ws)
  top_is = rw of_top_is at (and_tops 8 ws n all)

  pub lag_is : bit_and (spelled (lag p ws)) of_top ≡ 128 * spelled (flags (lag p ws))
  lag_is = rw of_top_is at (and_tops 8 (lag p ws) (omega (arith, lag_length p ws)) (lag_bytes p ws l all))

  pub on_adds : Over 255 (leads ws) (on_of (spelled ws))
  unfolding on_of
  on_adds = let o = counted (flags ws) in record { times = o.times; is = omega (arith, top_is, o.is, total_flags ws) }

  pub low_adds : Over 65535 (digits ws) (in_pairs (bit_and (spelled ws) of_low))
  low_adds = rw (low_is, ← total_lows ws) (added (lows ws) (omega (arith, lows_length ws)) (lows_bytes ws))

  led_is : led_of (spelled ws) (spelled (lag p ws)) ≡ spelled (leds p ws)
  unfolding led_of
  led_is =
      let f = spelled (flags (lag p ws)) in
      let e : 128 * f - 128 * f / 128 ≡ 127 * f = omega arith in
      rw (low_is, lag_is, e) (and_leds p ws l all)

  pub led_adds : Over 65535 (seconds p ws) (in_pairs (led_of (spelled ws) (spelled (lag p ws))))
  led_adds = rw (led_is, ← total_leds p ws) (added (leds p ws) (omega (arith, leds_length p ws)) (leds_bytes p ws))

  pub none_wrong : wrong_of (spelled ws) (spelled (lag p ws)) ≡ 0 → (r : List ℕ) → Pairs (last_of p ws) r → Pairs p (ws ++ r)
  unfolding wrong_of
  none_wrong z r g =
      let f = 128 * spelled (flags (lag p ws)) in
      let t = or_none (bit_and f (spelled ws)) (f - bit_and (spelled (lows ws) + of_low) f) (rw (low_is, lag_is) at z) in
      let m : f ≤ bit_and (spelled (lows ws) + of_low) f = omega (arith, t.1) in
      and_pairs 8 p ws n l all t.0 (rw (← of_low_is) at m) r g

  -- where no highest bit is set, no byte leads on
  pub none_on : bit_and (spelled ws) of_top ≡ 0 → leads ws ≡ 0
  none_on z = let o = counted (flags ws) in omega (arith, top_is, o.is, total_flags ws)

-- what is seen of s: p is the byte read last, and bs is left
pub record Seen (s : List ℕ) (p : ℕ) (bs : List ℕ) (bad low led on : ℕ) : Type 0 where
  pub fine : bad ≡ 0 → Pairs p bs → Pairs 0 s
  pub lows : Over 65535 (digits s) (low + digits bs)
  pub leds : Over 65535 (seconds 0 s) (led + seconds p bs)
  pub ons : Over 255 (leads s) (on + leads bs)

pub over_more : (m s x d y b c : ℕ) → Over m s (x + c) → Over m d y → c ≡ d + b → Over m s (x + y + b)
over_more m s x d y b c o q e =
    record { times = o.times + q.times; is = omega (arith, o.is, q.is, e, mul-add m o.times q.times) }

module _ (s : List ℕ) (p : ℕ) (ws r : List ℕ) (n : length ws ≤ 8) (l : p < 256) (all : AllBytes ws) where
  pub seen_more : (bad low led on : ℕ) → Seen s p (ws ++ r) bad low led on
      → Seen s (last_of p ws) r (bit_or bad (wrong_of (spelled ws) (spelled (lag p ws)))) (low + in_pairs (bit_and (spelled ws) of_low))
      (led + in_pairs (led_of (spelled ws) (spelled (lag p ws)))) (on + on_of (spelled ws))
  seen_more bad low led on h =
      record {
        fine = λ z g. let t = or_none bad _ z in h.fine t.0 (none_wrong p ws n l all t.1 r g);
        lows = over_more 65535 _ low _ _ _ _ h.lows (low_adds p ws n l all) (digits_join ws r);
        leds = over_more 65535 _ led _ _ _ _ h.leds (led_adds p ws n l all) (seconds_join p ws r);
        ons = over_more 255 _ on _ _ _ _ h.ons (on_adds p ws n l all) (leads_join ws r);
      }

-- the first byte
pub seen_one : (s : List ℕ) (a : ℕ) → 0 < length s → a ≡ byte_at s 0 → Seen s a (drop 1 s) 0 (a % 128) 0 (a / 128)
unfolding digits seconds leads
seen_one [] a l e = absurd (omega arith)
seen_one (b ∷ r) a l e =
    rw e
    (record {
      fine = λ z g. fresh {p = 0} (omega arith) g;
      lows = record { times = 0; is = omega arith };
      leds = record { times = 0; is = omega (arith, led_none 0 b (omega arith)) };
      ons = record { times = 0; is = omega arith };
    })
