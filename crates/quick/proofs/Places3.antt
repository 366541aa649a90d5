-- A glance at codes of up to three bytes by position: as `Places`.
use Prim.Native.Nat.{ℕ, ◌+◌, ◌-◌, ◌*◌, ◌/◌, ◌%◌, ◌^◌, ◌≤◌, ◌<◌}
use mathlib.Core.Path.{◌≡◌, refl, sym, ap, ◌∙◌}
use mathlib.Core.List.{List, [], ◌∷◌, ◌++◌}
use native.Mathlib.Nat.{zero-add}
use native.Mathlib.Omega.{arith}
use lib.Bits.{bit_and, bit_or}
use lib.ListN.{length, take, drop, length-take, take-append-drop}
use lib.Seq.{drop-drop}
use Rattle.paper.specs.Bytes.{byte_at}
use Rattle.laws.proofs.Parts.{AllBytes, all_drop, all_take, nothing}
use Rattle.quick.specs.Sums.{thirds, Told3}
use Rattle.quick.specs.Sums.Threes.{none}
use Rattle.quick.specs.Words.{wrong3_of, far_of, led_of, in_pairs, on_of, of_low}
use Rattle.quick.proofs.Accepting.{leads_few}
use Rattle.quick.proofs.Lanes.{spelled, lag}
use Rattle.quick.proofs.Steps3.{Seen3, seen3_more, seen3_none, third_small}
use Rattle.quick.proofs.Places.{word_at, word_is, shifted, lag_at, last_at, digits_few, seconds_few, none_left, none_led, none_leads, over_16, over_8, mod_16, mod_8, pairs_cap, on_cap_of}

thirds_few : (q p : ℕ) (bs : List ℕ) → thirds q p bs ≤ 127 * length bs
unfolding thirds
thirds_few q p [] = omega arith
thirds_few q p (b ∷ r) = omega (arith, thirds_few p b r, third_small q p b)

none_third : (q p : ℕ) → thirds q p [] ≡ 0
unfolding thirds
none_third q p = refl

abbrev SeenTo : List ℕ → ℕ → ℕ → ℕ → ℕ → ℕ → ℕ → Type 0
SeenTo s j bad low led on far = Seen3 s (byte_at s j) (byte_at s (j + 1)) (drop (j + 1 + 1) s) bad low led on far

module _ (s : List ℕ) (all : AllBytes s) (j n : ℕ) (few : n ≤ 8) (l : j + 1 + n < length s) (w p q : ℕ)
    (isW : w ≡ spelled (take n (drop (j + 1 + 1) s))) (isP : p ≡ spelled (take n (drop (j + 1) s))) (isQ : q ≡ spelled (take n (drop j s))) where
  seen_on : (bad low led on far : ℕ) → SeenTo s j bad low led on far
      → SeenTo s (j + n) (bit_or bad (wrong3_of w p q)) (low + in_pairs (bit_and w of_low)) (led + in_pairs (led_of w p)) (on + on_of w) (far + in_pairs (far_of w p q))
  seen_on bad low led on far h =
      let ws = take n (drop (j + 1 + 1) s) in
      let r = drop (j + 1 + 1 + n) s in
      let k : length ws ≤ 8 = rw length-take (omega arith) in
      let d : drop (j + 1 + 1) s ≡ ws ++ r = sym (take-append-drop n (drop (j + 1 + 1) s)) ∙ ap (λ (xs : List ℕ). ws ++ xs) (drop-drop n (j + 1 + 1) s) in
      let e₁ : j + 1 + n ≡ j + n + 1 = omega arith in
      let e₂ : j + 1 + 1 + n ≡ j + n + 1 + 1 = omega arith in
      let t = seen3_more s (byte_at s j) (byte_at s (j + 1)) ws r k (all j) (all (j + 1)) (all_take n (drop (j + 1 + 1) s) (all_drop (j + 1 + 1) s all)) bad low led on far (rw d at h) in
      rw (isW, isP, isQ) (rw (lag_at s n (j + 1) l, lag_at s n j (omega arith), last_at s n (j + 1) l, last_at s n j (omega arith), e₁, e₂) at t)

-- what holds at the loop's head, i bytes having been seen
pub record Glanced3 (s : List ℕ) (i bad low led on far : ℕ) : Type 0 where
  pub some : 2 ≤ i
  pub few : i < length s
  pub small : length s ≤ 254
  pub seen : Seen3 s (byte_at s (i - 2)) (byte_at s (i - 1)) (drop i s) bad low led on far
  pub low_cap : 4 * low ≤ 71777214294589695 * (i + 6)
  pub led_cap : 4 * led ≤ 71777214294589695 * (i + 6)
  pub on_cap : 8 * on ≤ 72340172838076673 * (i + 6)
  pub far_cap : 4 * far ≤ 71777214294589695 * (i + 6)

-- the first two bytes: before them nothing leads on
first_two : (s : List ℕ) → AllBytes s → 2 ≤ length s → (w p : ℕ) → w ≡ byte_at s 0 + 256 * byte_at s 1 → p ≡ 256 * byte_at s 0
    → Seen3 s (byte_at s 0) (byte_at s 1) (drop 2 s) (wrong3_of w p 0) (in_pairs (bit_and w of_low)) (in_pairs (led_of w p)) (on_of w) (in_pairs (far_of w p 0))
unfolding spelled lag
first_two [] all l w p isW isP = absurd (omega arith)
first_two (a ∷ []) all l w p isW isP = absurd (omega arith)
first_two (a ∷ b ∷ r) all l w p isW isP =
    let e : w ≡ b * 256 + a = omega arith in
    let f : p ≡ a * 256 + 0 = omega arith in
    rw (e, f) (simp zero-add at (seen3_more (a ∷ b ∷ r) 0 0 (a ∷ b ∷ []) r (omega arith) (omega arith) (omega arith) (all_take 2 (a ∷ b ∷ r) all) 0 0 0 0 0 (seen3_none (a ∷ b ∷ r))))

module _ (s : List ℕ) (all : AllBytes s) (w p x lo le o fa : ℕ) where
  pub glance3_begin : 10 ≤ length s → length s ≤ 254 → w ≡ byte_at s 0 + 256 * byte_at s 1 → p ≡ 256 * byte_at s 0 → x ≡ wrong3_of w p 0 → lo ≡ in_pairs (bit_and w of_low)
      → le ≡ in_pairs (led_of w p) → o ≡ on_of w → fa ≡ in_pairs (far_of w p 0) → Glanced3 s 2 x lo le o fa
  glance3_begin n m isW isP isX isLo is_le isO is_f =
      record {
        some = omega arith;
        few = omega arith;
        small = m;
        seen = rw (isX, isLo, is_le, isO, is_f) (first_two s all (omega arith) w p isW isP);
        low_cap = omega (arith, pairs_cap (bit_and w of_low));
        led_cap = omega (arith, pairs_cap (led_of w p));
        on_cap = omega (arith, on_cap_of w);
        far_cap = omega (arith, pairs_cap (far_of w p 0));
      }

-- where the last bytes lie: n of them, i having been seen
record EndsAt (n i : ℕ) : Type 0 where
  few : n - i ≤ 8
  in_each_list : i + (n - i) ≤ n
  in_w : n - 8 + 8 ≤ n
  in_p : n - 9 + 8 ≤ n
  in_q : n - 10 + 8 ≤ n
  eight : 8 ≡ 8 - (n - i) + (n - i)
  at_w : n - 8 + (8 - (n - i)) ≡ i
  at_p : n - 9 + (8 - (n - i)) ≡ i - 1
  at_q : n - 10 + (8 - (n - i)) ≡ i - 2
  to_2 : i - 2 + (n - i) ≡ n - 2
  to_1 : n - 2 + 1 ≡ n - 1
  to_0 : n - 1 + 1 ≡ n

ends_at : (n i : ℕ) → 2 ≤ i → i < n → n ≤ i + 8 → 10 ≤ n → EndsAt n i
ends_at n i a b c d =
    record {
      few = omega arith;
      in_each_list = omega arith;
      in_w = omega arith;
      in_p = omega arith;
      in_q = omega arith;
      eight = omega arith;
      at_w = omega arith;
      at_p = omega arith;
      at_q = omega arith;
      to_2 = omega arith;
      to_1 = omega arith;
      to_0 = omega arith;
    }

module _ (s : List ℕ) (all : AllBytes s) (i bad low led on far : ℕ) (h : Glanced3 s i bad low led on far) (w p q x lo le o fa : ℕ)
    (isX : x ≡ wrong3_of w p q) (isLo : lo ≡ in_pairs (bit_and w of_low)) (is_le : le ≡ in_pairs (led_of w p)) (isO : o ≡ on_of w) (is_f : fa ≡ in_pairs (far_of w p q)) where
  on_by : (n : ℕ) → n ≤ 8 → i + n ≤ length s → w ≡ spelled (take n (drop i s)) → p ≡ spelled (take n (drop (i - 1) s)) → q ≡ spelled (take n (drop (i - 2) s))
      → SeenTo s (i - 2 + n) (bit_or bad x) (low + lo) (led + le) (on + o) (far + fa)
  on_by n few m isW isP isQ =
      let e₁ : i - 2 + 1 ≡ i - 1 = omega (arith, h.some) in
      let e₂ : i - 1 + 1 ≡ i = omega (arith, h.some) in
      rw (isX, isLo, is_le, isO, is_f)
      (seen_on s all (i - 2) n few (omega (arith, h.some)) w p q (rw (e₁, e₂) isW) (rw e₁ isP) isQ bad low led on far (rw (e₁, e₂) h.seen))

  pub glance3_turn : i + 8 < length s → w ≡ word_at s i → p ≡ word_at s (i - 1) → q ≡ word_at s (i - 2)
      → Glanced3 s (i + 8) (bit_or bad x) (low + lo) (led + le) (on + o) (far + fa)
  glance3_turn m isW isP isQ =
      let e₀ : i - 2 + 8 ≡ i + 8 - 2 = omega (arith, h.some) in
      let e₁ : i + 8 - 2 + 1 ≡ i + 8 - 1 = omega arith in
      let e₂ : i + 8 - 1 + 1 ≡ i + 8 = omega arith in
      let t = on_by 8 (omega arith) (omega arith) (isW ∙ word_is s i (omega arith)) (isP ∙ word_is s (i - 1) (omega (arith, h.some))) (isQ ∙ word_is s (i - 2) (omega (arith, h.some))) in
      record {
        some = omega arith;
        few = m;
        small = h.small;
        seen = rw (e₀, e₁, e₂) at t;
        low_cap = omega (arith, h.low_cap, isLo, pairs_cap (bit_and w of_low));
        led_cap = omega (arith, h.led_cap, is_le, pairs_cap (led_of w p));
        on_cap = omega (arith, h.on_cap, isO, on_cap_of w);
        far_cap = omega (arith, h.far_cap, is_f, pairs_cap (far_of w p q));
      }

  pub glance3_end : 10 ≤ length s → length s ≤ i + 8 → w ≡ word_at s (length s - 8) / 2 ^ (8 * (8 - (length s - i)))
      → p ≡ word_at s (length s - 9) / 2 ^ (8 * (8 - (length s - i))) → q ≡ word_at s (length s - 10) / 2 ^ (8 * (8 - (length s - i)))
      → Told3 s (bit_or bad x) ((low + lo) % 65535) ((led + le) % 65535) ((on + o) % 255) ((far + fa) % 65535)
  glance3_end l₁ m isW isP isQ =
      let n = length s in
      let some = h.some in
      let few = h.few in
      let l₂ = h.small in
      let f = ends_at n i some few m l₁ in
      let z : drop n s ≡ [] = nothing s n (omega arith) in
      let t = on_by (n - i) f.few f.in_each_list (isW ∙ rw f.at_w at (shifted s all (n - 8) (8 - (n - i)) (n - i) f.in_w f.eight))
      (isP ∙ rw f.at_p at (shifted s all (n - 9) (8 - (n - i)) (n - i) f.in_p f.eight))
      (isQ ∙ rw f.at_q at (shifted s all (n - 10) (8 - (n - i)) (n - i) f.in_q f.eight)) in
      let e₄ = f.to_2 in
      let e₅ = f.to_1 in
      let e₆ = f.to_0 in
      let u : Seen3 s (byte_at s (n - 2)) (byte_at s (n - 1)) [] (bit_or bad x) (low + lo) (led + le) (on + o) (far + fa) = rw (e₄, e₅, e₆, z) at t in
      record {
        fine = λ y g. u.fine y (none g);
        lows = over_16 _ _ _ u.lows none_left (omega (arith, digits_few s));
        leds = over_16 _ _ _ u.leds (none_led (byte_at s (n - 1))) (omega (arith, seconds_few 0 s));
        ons = over_8 _ _ _ u.ons none_leads (omega (arith, leads_few s all));
        fars = over_16 _ _ _ u.fars (none_third (byte_at s (n - 2)) (byte_at s (n - 1))) (omega (arith, thirds_few 0 0 s));
        low_small = mod_16 (low + lo);
        led_small = mod_16 (led + le);
        on_small = mod_8 (on + o);
        far_small = mod_16 (far + fa);
      }
