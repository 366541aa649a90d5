-- A glance at codes of up to three bytes, eight bytes at a time: as `Steps`.
use Prim.Native.Nat.{ℕ, zero, suc, ◌+◌, ◌-◌, ◌*◌, ◌/◌, ◌≤◌, ◌<◌}
use mathlib.Core.Path.{◌≡◌, refl, ap}
use mathlib.Core.List.{List, [], ◌∷◌, ◌++◌}
use native.Mathlib.Decide.{dec_lt}
use native.Mathlib.Omega.{arith}
use lib.Bits.{bit_and, bit_or}
use lib.ListN.{length}
use Rattle.paper.specs.Lists.{last_of, total}
use Rattle.laws.proofs.Parts.{AllBytes}
use Rattle.quick.specs.Sums.{digits, seconds, leads, third_of, thirds, Threes}
use Rattle.quick.specs.Words.{wrong3_of, far_of, led_of, in_pairs, on_of, of_low, of_top}
use Rattle.quick.proofs.Accepting.{third_none, third_some}
use Rattle.quick.proofs.Lanes.{spelled, lag, lows, flags}
use Rattle.quick.proofs.Lanes3.{flags2, fars, and_both, and_fars, and_threes}
use Rattle.quick.proofs.Adding.{Over, added}
use Rattle.quick.proofs.Steps.{low_is, lag_is, of_low_is, led_small, or_none, on_adds, low_adds, led_adds, digits_join, leads_join, seconds_join, over_more}

thirds_join : (q p : ℕ) (ws r : List ℕ) → thirds q p (ws ++ r) ≡ thirds q p ws + thirds (last_of q (lag p ws)) (last_of p ws) r
unfolding thirds lag
thirds_join q p [] r = omega arith
thirds_join q p (w ∷ ws) r = omega (arith, thirds_join p w ws r)

fars_length : (q p : ℕ) (ws : List ℕ) → length (fars q p ws) ≡ length ws
unfolding fars
fars_length q p [] = refl
fars_length q p (w ∷ r) = ap suc (fars_length p w r)

pub third_small : (q p b : ℕ) → third_of q p b < 128
third_small q p b = elim (dec_lt q 128) [ yes l ↦ omega (arith, third_none q p b l) | no n ↦ omega (arith, third_some q p b (omega arith), led_small p b) ]

fars_bytes : (q p : ℕ) (ws : List ℕ) → AllBytes (fars q p ws)
unfolding fars
fars_bytes q p [] i = omega arith
fars_bytes q p (w ∷ r) zero = omega (arith, third_small q p w)
fars_bytes q p (w ∷ r) (suc i) = fars_bytes p w r i

total_fars : (q p : ℕ) (ws : List ℕ) → total (fars q p ws) ≡ thirds q p ws
unfolding total fars thirds
total_fars q p [] = refl
total_fars q p (w ∷ r) = rw (total_fars p w r)

module _ (q p : ℕ) (ws : List ℕ) (n : length ws ≤ 8) (k : q < 256) (l : p < 256) (all : AllBytes ws) where
  both_is : bit_and (bit_and (spelled (lag p ws)) of_top) (spelled (lag q (lag p ws))) ≡ 128 * spelled (flags2 q p ws)
  both_is = rw (lag_is p ws n l all) (and_both q p ws k l all)

  far_is : far_of (spelled ws) (spelled (lag p ws)) (spelled (lag q (lag p ws))) ≡ spelled (fars q p ws)
  unfolding far_of
  far_is =
      let f = spelled (flags2 q p ws) in
      let e : 128 * f - 128 * f / 128 ≡ 127 * f = omega arith in
      rw (both_is, low_is p ws n l all, e) (and_fars q p ws k l all)

  far_adds : Over 65535 (thirds q p ws) (in_pairs (far_of (spelled ws) (spelled (lag p ws)) (spelled (lag q (lag p ws)))))
  far_adds = rw (far_is, ← total_fars q p ws) (added (fars q p ws) (omega (arith, fars_length q p ws)) (fars_bytes q p ws))

  none_wrong : wrong3_of (spelled ws) (spelled (lag p ws)) (spelled (lag q (lag p ws))) ≡ 0
      → (r : List ℕ) → Threes (last_of q (lag p ws)) (last_of p ws) r → Threes q p (ws ++ r)
  unfolding wrong3_of
  none_wrong z r g =
      let f = 128 * spelled (flags (lag p ws)) in
      let h = 128 * spelled (flags2 q p ws) in
      let t = or_none (bit_and h (spelled ws)) (f - bit_and (bit_or (spelled (lows ws) + of_low) (spelled ws)) f) (rw (both_is, low_is p ws n l all, lag_is p ws n l all) at z) in
      let m : f ≤ bit_and (bit_or (spelled (lows ws) + of_low) (spelled ws)) f = omega (arith, t.1) in
      and_threes 8 q p ws n k l all t.0 (rw (← of_low_is) at m) r g

-- what is seen of s: q and p are the bytes read last, and bs is left
pub record Seen3 (s : List ℕ) (q p : ℕ) (bs : List ℕ) (bad low led on far : ℕ) : Type 0 where
  pub fine : bad ≡ 0 → Threes q p bs → Threes 0 0 s
  pub lows : Over 65535 (digits s) (low + digits bs)
  pub leds : Over 65535 (seconds 0 s) (led + seconds p bs)
  pub ons : Over 255 (leads s) (on + leads bs)
  pub fars : Over 65535 (thirds 0 0 s) (far + thirds q p bs)

pub seen3_none : (s : List ℕ) → Seen3 s 0 0 s 0 0 0 0 0
seen3_none s =
    record {
      fine = λ z g. g;
      lows = record { times = 0; is = omega arith };
      leds = record { times = 0; is = omega arith };
      ons = record { times = 0; is = omega arith };
      fars = record { times = 0; is = omega arith };
    }

module _ (s : List ℕ) (q p : ℕ) (ws r : List ℕ) (n : length ws ≤ 8) (k : q < 256) (l : p < 256) (all : AllBytes ws) where
  pub seen3_more : (bad low led on far : ℕ) → Seen3 s q p (ws ++ r) bad low led on far
      → Seen3 s (last_of q (lag p ws)) (last_of p ws) r (bit_or bad (wrong3_of (spelled ws) (spelled (lag p ws)) (spelled (lag q (lag p ws)))))
      (low + in_pairs (bit_and (spelled ws) of_low)) (led + in_pairs (led_of (spelled ws) (spelled (lag p ws)))) (on + on_of (spelled ws))
      (far + in_pairs (far_of (spelled ws) (spelled (lag p ws)) (spelled (lag q (lag p ws)))))
  seen3_more bad low led on far h =
      record {
        fine = λ z g. let t = or_none bad _ z in h.fine t.0 (none_wrong q p ws n k l all t.1 r g);
        lows = over_more 65535 _ low _ _ _ _ h.lows (low_adds p ws n l all) (digits_join ws r);
        leds = over_more 65535 _ led _ _ _ _ h.leds (led_adds p ws n l all) (seconds_join p ws r);
        ons = over_more 255 _ on _ _ _ _ h.ons (on_adds p ws n l all) (leads_join ws r);
        fars = over_more 65535 _ far _ _ _ _ h.fars (far_adds q p ws n k l all) (thirds_join q p ws r);
      }
