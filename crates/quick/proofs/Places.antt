-- A glance by position: one law for the beginning, one for a turn of the loop, one for the end. The last turn takes the one to eight bytes that are left, as the
-- highest of the last eight.
use Prim.Native.Nat.{ℕ, zero, suc, ◌+◌, ◌-◌, ◌*◌, ◌/◌, ◌%◌, ◌^◌, ◌≤◌, ◌<◌}
use mathlib.Core.Path.{◌≡◌, refl, sym, ap, ◌∙◌}
use mathlib.Core.List.{List, [], ◌∷◌, ◌++◌}
use native.Mathlib.Nat.{div-div-eq-div-mul, zero-div, add-zero}
use native.Mathlib.Omega.{arith}
use lib.Bits.{bit_and, bit_or, and_le_r}
use lib.ListN.{length, take, drop, length-take, length-drop, take-append-drop}
use lib.Pow.{pow-add}
use lib.Seq.{drop-drop, take-nil}
use Rattle.paper.specs.Bytes.{byte_at, u32_at}
use Rattle.paper.specs.Lists.{last_of}
use Rattle.laws.proofs.Parts.{AllBytes, all_tail, all_drop, all_take, front, nothing}
use Rattle.quick.specs.Sums.{digits, seconds, leads, Told, Flat}
use Rattle.quick.specs.Sums.Pairs.{none}
use Rattle.quick.specs.Words.{wrong_of, led_of, in_pairs, on_of, of_low, of_top, of_even}
use Rattle.quick.proofs.Lanes.{spelled, lag}
use Rattle.quick.proofs.Adding.{Over}
use Rattle.quick.proofs.Steps.{Seen, seen_more, seen_one, led_small, digits_join, leads_join, over_more, low_adds, none_on, or_none}
use Rattle.quick.proofs.Accepting.{leads_few}

-- the number at position i, as the code reads it
abbrev pub word_at : List ℕ → ℕ → ℕ
word_at s i = u32_at s i + 4294967296 * u32_at s (i + 4)

take_next : (s : List ℕ) (i n : ℕ) → i < length s → take (suc n) (drop i s) ≡ byte_at s i ∷ take n (drop (i + 1) s)
take_next s i n l = rw (front s i (byte_at s i) l refl)

-- the digits of the bytes from i on, the first taken off
pub digits_next : (s : List ℕ) (i m : ℕ) → i < length s → digits (take (suc m) (drop i s)) ≡ byte_at s i % 128 + digits (take m (drop (i + 1) s))
unfolding digits
digits_next s i m l = rw (take_next s i m l)

spell_next : (s : List ℕ) (i n : ℕ) → i < length s → spelled (take (suc n) (drop i s)) ≡ spelled (take n (drop (i + 1) s)) * 256 + byte_at s i
unfolding spelled
spell_next s i n l = rw (take_next s i n l)

spell_none : (s : List ℕ) (i : ℕ) → spelled (take 0 (drop i s)) ≡ 0
unfolding spelled
spell_none s i = refl

module _ (s : List ℕ) (i : ℕ) (l : i + 8 ≤ length s) where
  spell_at : (k n : ℕ) → k < 8 → spelled (take (suc n) (drop (i + k) s)) ≡ spelled (take n (drop (i + (k + 1)) s)) * 256 + byte_at s (i + k)
  spell_at k n h = let e : i + k + 1 ≡ i + (k + 1) = omega arith in rw (← e) (spell_next s (i + k) n (omega arith))

  pub word_is : word_at s i ≡ spelled (take 8 (drop i s))
  unfolding u32_at
  word_is =
      let e₀ = spell_next s i 7 (omega arith) in
      let e₁ = spell_at 1 6 (omega arith) in
      let e₂ = spell_at 2 5 (omega arith) in
      let e₃ = spell_at 3 4 (omega arith) in
      let e₄ = spell_at 4 3 (omega arith) in
      let e₅ = spell_at 5 2 (omega arith) in
      let e₆ = spell_at 6 1 (omega arith) in
      let e₇ = spell_at 7 0 (omega arith) in
      let z = spell_none s (i + 8) in
      let b₅ : i + 4 + 1 ≡ i + 5 = omega arith in
      let b₆ : i + 4 + 2 ≡ i + 6 = omega arith in
      let b₇ : i + 4 + 3 ≡ i + 7 = omega arith in
      rw (b₅, b₆, b₇) (omega arith)

-- the bytes behind j of them
spell_drop : (j : ℕ) (xs : List ℕ) → AllBytes xs → spelled xs / 2 ^ (8 * j) ≡ spelled (drop j xs)
unfolding spelled
spell_drop zero xs all = omega arith
spell_drop (suc j) [] all = zero-div (2 ^ (8 * suc j))
spell_drop (suc j) (b ∷ r) all =
    let e : 8 * suc j ≡ 8 + 8 * j = omega arith in
    let d : (spelled r * 256 + b) / 256 ≡ spelled r = omega (arith, all 0) in
    ap (λ (k : ℕ). (spelled r * 256 + b) / 2 ^ k) e ∙ ap (λ (k : ℕ). (spelled r * 256 + b) / k) (pow-add 2 8 (8 * j))
    ∙ sym (div-div-eq-div-mul (spelled r * 256 + b) 256 (2 ^ (8 * j))) ∙ ap (λ (k : ℕ). k / 2 ^ (8 * j)) d ∙ spell_drop j r (all_tail b r all)

drop_take : (j m n : ℕ) (xs : List ℕ) → m ≡ j + n → drop j (take m xs) ≡ take n (drop j xs)
drop_take zero m n xs e = let i : m ≡ n = omega arith in rw i
drop_take (suc j) zero n xs e = absurd (omega arith)
drop_take (suc j) (suc m) n [] e = sym (take-nil n)
drop_take (suc j) (suc m) n (x ∷ xs) e = drop_take j m n xs (omega arith)

module _ (s : List ℕ) (all : AllBytes s) where
  -- of the eight bytes from i on, those behind j of them
  pub shifted : (i j n : ℕ) → i + 8 ≤ length s → 8 ≡ j + n → word_at s i / 2 ^ (8 * j) ≡ spelled (take n (drop (i + j) s))
  shifted i j n l e =
      ap (λ (k : ℕ). k / 2 ^ (8 * j)) (word_is s i l) ∙ spell_drop j (take 8 (drop i s)) (all_take 8 (drop i s) (all_drop i s all))
      ∙ ap spelled (drop_take j 8 n (drop i s) e) ∙ ap (λ (xs : List ℕ). spelled (take n xs)) (drop-drop j i s)

-- bytes and those before each
pub lag_at : (s : List ℕ) (n j : ℕ) → j + n < length s → lag (byte_at s j) (take n (drop (j + 1) s)) ≡ take n (drop j s)
unfolding lag
lag_at s zero j l = refl
lag_at s (suc n) j l =
    rw (take_next s (j + 1) n (omega arith), take_next s j n (omega arith)) (ap (λ (xs : List ℕ). byte_at s j ∷ xs) (lag_at s n (j + 1) (omega arith)))

pub last_at : (s : List ℕ) (n j : ℕ) → j + n < length s → last_of (byte_at s j) (take n (drop (j + 1) s)) ≡ byte_at s (j + n)
last_at s zero j l = ap (byte_at s) (sym (add-zero j))
last_at s (suc n) j l =
    let e : j + 1 + n ≡ j + suc n = omega arith in
    rw (take_next s (j + 1) n (omega arith)) (last_at s n (j + 1) (omega arith) ∙ ap (byte_at s) e)

-- what is seen before position j + 1
abbrev SeenTo : List ℕ → ℕ → ℕ → ℕ → ℕ → ℕ → Type 0
SeenTo s j bad low led on = Seen s (byte_at s j) (drop (j + 1) s) bad low led on

module _ (s : List ℕ) (all : AllBytes s) (j n : ℕ) (few : n ≤ 8) (l : j + n < length s) (w p : ℕ)
    (isW : w ≡ spelled (take n (drop (j + 1) s))) (isP : p ≡ spelled (take n (drop j s))) where
  seen_on : (bad low led on : ℕ) → SeenTo s j bad low led on
      → SeenTo s (j + n) (bit_or bad (wrong_of w p)) (low + in_pairs (bit_and w of_low)) (led + in_pairs (led_of w p)) (on + on_of w)
  seen_on bad low led on h =
      let ws = take n (drop (j + 1) s) in
      let r = drop (j + 1 + n) s in
      let k : length ws ≤ 8 = rw length-take (omega arith) in
      let d : drop (j + 1) s ≡ ws ++ r = sym (take-append-drop n (drop (j + 1) s)) ∙ ap (λ (xs : List ℕ). ws ++ xs) (drop-drop n (j + 1) s) in
      let e : j + 1 + n ≡ j + n + 1 = omega arith in
      let t = seen_more s (byte_at s j) ws r k (all j) (all_take n (drop (j + 1) s) (all_drop (j + 1) s all)) bad low led on (rw d at h) in
      rw (isW, isP, ← lag_at s n j l, ← last_at s n j l, ← e) t

pub digits_few : (bs : List ℕ) → digits bs ≤ 127 * length bs
unfolding digits
digits_few [] = omega arith
digits_few (b ∷ r) = omega (arith, digits_few r)

pub seconds_few : (p : ℕ) (bs : List ℕ) → seconds p bs ≤ 127 * length bs
unfolding seconds
seconds_few p [] = omega arith
seconds_few p (b ∷ r) = omega (arith, seconds_few b r, led_small p b)

pub none_left : digits [] ≡ 0
unfolding digits
none_left = refl

pub none_led : (p : ℕ) → seconds p [] ≡ 0
unfolding seconds
none_led p = refl

pub none_leads : leads [] ≡ 0
unfolding leads
none_leads = refl

pub over_16 : (s x c : ℕ) → Over 65535 s (x + c) → c ≡ 0 → s < 65535 → x % 65535 ≡ s
over_16 s x c o z l = omega (arith, o.is)

pub over_8 : (s x c : ℕ) → Over 255 s (x + c) → c ≡ 0 → s < 255 → x % 255 ≡ s
over_8 s x c o z l = omega (arith, o.is)

pub mod_16 : (x : ℕ) → x % 65535 < 65535
mod_16 x = omega arith

pub mod_8 : (x : ℕ) → x % 255 < 255
mod_8 x = omega arith

-- what holds at the loop's head, i bytes having been seen: what is seen, and how large the sums can be
pub record Glanced (s : List ℕ) (i bad low led on : ℕ) : Type 0 where
  pub some : 1 ≤ i
  pub few : i < length s
  pub seen : Seen s (byte_at s (i - 1)) (drop i s) bad low led on
  pub low_cap : 4 * low ≤ 71777214294589695 * i
  pub led_cap : 4 * led ≤ 71777214294589695 * i
  pub on_cap : 8 * on ≤ 72340172838076673 * i

pub glance_begin : (s : List ℕ) (a : ℕ) → 9 ≤ length s → a ≡ byte_at s 0 → a < 256 → Glanced s 1 0 (a % 128) 0 (a / 128)
glance_begin s a l e h =
    record {
      some = omega arith;
      few = omega arith;
      seen = rw e (seen_one s (byte_at s 0) (omega arith) refl);
      low_cap = omega arith;
      led_cap = omega arith;
      on_cap = omega arith;
    }

-- the bounds of what one turn adds
pub pairs_cap : (x : ℕ) → in_pairs x ≤ 143554428589179390
unfolding in_pairs
pairs_cap x = omega (arith, and_le_r x of_even, and_le_r (x / 256) of_even)

pub on_cap_of : (w : ℕ) → on_of w ≤ 72340172838076673
unfolding on_of
on_cap_of w = omega (arith, and_le_r w of_top)

module _ (s : List ℕ) (all : AllBytes s) (i bad low led on : ℕ) (h : Glanced s i bad low led on) (w p x lo le o : ℕ)
    (isX : x ≡ wrong_of w p) (isLo : lo ≡ in_pairs (bit_and w of_low)) (is_le : le ≡ in_pairs (led_of w p)) (isO : o ≡ on_of w) where
  -- n bytes more
  on_by : (n : ℕ) → n ≤ 8 → i + n ≤ length s → w ≡ spelled (take n (drop i s)) → p ≡ spelled (take n (drop (i - 1) s))
      → SeenTo s (i - 1 + n) (bit_or bad x) (low + lo) (led + le) (on + o)
  on_by n few l isW isP =
      let e : i - 1 + 1 ≡ i = omega (arith, h.some) in
      rw (isX, isLo, is_le, isO) (seen_on s all (i - 1) n few (omega (arith, h.some)) w p (rw e isW) isP bad low led on (rw e h.seen))

  pub glance_turn : i + 8 < length s → w ≡ word_at s i → p ≡ word_at s (i - 1) → Glanced s (i + 8) (bit_or bad x) (low + lo) (led + le) (on + o)
  glance_turn l isW isP =
      let e : i - 1 + 8 ≡ i + 8 - 1 = omega (arith, h.some) in
      let f : i + 8 - 1 + 1 ≡ i + 8 = omega arith in
      let t = on_by 8 (omega arith) (omega arith) (isW ∙ word_is s i (omega arith)) (isP ∙ word_is s (i - 1) (omega (arith, h.some))) in
      record {
        some = omega arith;
        few = l;
        seen = rw (e, f) at t;
        low_cap = omega (arith, h.low_cap, isLo, pairs_cap (bit_and w of_low));
        led_cap = omega (arith, h.led_cap, is_le, pairs_cap (led_of w p));
        on_cap = omega (arith, h.on_cap, isO, on_cap_of w);
      }

  pub glance_end : 9 ≤ length s → length s ≤ 254 → length s ≤ i + 8 → w ≡ word_at s (length s - 8) / 2 ^ (8 * (8 - (length s - i)))
      → p ≡ word_at s (length s - 9) / 2 ^ (8 * (8 - (length s - i))) → Told s (bit_or bad x) ((low + lo) % 65535) ((led + le) % 65535) ((on + o) % 255)
  glance_end l₉ l m isW isP =
      let n = length s in
      let some = h.some in
      let few = h.few in
      let e₁ : n - 8 + (8 - (n - i)) ≡ i = omega arith in
      let e₂ : n - 9 + (8 - (n - i)) ≡ i - 1 = omega arith in
      let e₃ : i - 1 + (n - i) ≡ n - 1 = omega arith in
      let e₄ : n - 1 + 1 ≡ n = omega arith in
      let z : drop n s ≡ [] = nothing s n (omega arith) in
      let t = on_by (n - i) (omega arith) (omega arith) (isW ∙ rw e₁ at (shifted s all (n - 8) (8 - (n - i)) (n - i) (omega arith) (omega arith)))
      (isP ∙ rw e₂ at (shifted s all (n - 9) (8 - (n - i)) (n - i) (omega arith) (omega arith))) in
      let u : Seen s (byte_at s (n - 1)) [] (bit_or bad x) (low + lo) (led + le) (on + o) = rw (e₃, e₄, z) at t in
      record {
        fine = λ q g. u.fine q (none g);
        lows = over_16 _ _ _ u.lows none_left (omega (arith, digits_few s));
        leds = over_16 _ _ _ u.leds (none_led (byte_at s (n - 1))) (omega (arith, seconds_few 0 s));
        ons = over_8 _ _ _ u.ons none_leads (omega (arith, leads_few s all));
        low_small = mod_16 (low + lo);
        led_small = mod_16 (led + le);
        on_small = mod_8 (on + o);
      }

-- the same of bytes that are to be codes of one byte each
pub record FlatTo (s : List ℕ) (i bad low : ℕ) : Type 0 where
  pub few : i < length s
  pub fine : bad ≡ 0 → leads s ≡ leads (drop i s)
  pub lows : Over 65535 (digits s) (low + digits (drop i s))
  pub low_cap : 4 * low ≤ 71777214294589695 * i

pub flat_begin : (s : List ℕ) → 9 ≤ length s → FlatTo s 0 0 0
flat_begin s l = record { few = omega arith; fine = λ z. refl; lows = record { times = 0; is = omega arith }; low_cap = omega arith }

module _ (s : List ℕ) (all : AllBytes s) (i bad low : ℕ) (h : FlatTo s i bad low) (w lo : ℕ) (isLo : lo ≡ in_pairs (bit_and w of_low)) where
  -- n bytes more
  module _ (n : ℕ) (few : n ≤ 8) (isW : w ≡ spelled (take n (drop i s))) where
    ws : List ℕ
    ws = take n (drop i s)

    parted : drop i s ≡ ws ++ drop (i + n) s
    unfolding ws
    parted = sym (take-append-drop n (drop i s)) ∙ ap (λ (xs : List ℕ). ws ++ xs) (drop-drop n i s)

    short : length ws ≤ 8
    unfolding ws
    short = rw length-take (omega arith)

    bytes : AllBytes ws
    unfolding ws
    bytes = all_take n (drop i s) (all_drop i s all)

    flat_fine : bit_or bad (bit_and w of_top) ≡ 0 → leads s ≡ leads (drop (i + n) s)
    unfolding ws
    flat_fine z =
        let t = or_none bad (bit_and w of_top) z in
        let k = none_on 0 ws short (omega arith) bytes (rw isW at t.1) in
        h.fine t.0 ∙ ap leads parted ∙ leads_join ws (drop (i + n) s) ∙ omega (arith, k)

    flat_lows : Over 65535 (digits s) (low + lo + digits (drop (i + n) s))
    unfolding ws
    flat_lows =
        rw (isLo, isW) (over_more 65535 _ low _ _ _ _ h.lows (low_adds 0 ws short (omega arith) bytes) (ap digits parted ∙ digits_join ws (drop (i + n) s)))

  pub flat_turn : i + 8 < length s → w ≡ word_at s i → FlatTo s (i + 8) (bit_or bad (bit_and w of_top)) (low + lo)
  flat_turn l isW =
      let e = isW ∙ word_is s i (omega arith) in
      record { few = l; fine = flat_fine 8 (omega arith) e; lows = flat_lows 8 (omega arith) e; low_cap = omega (arith, h.low_cap, isLo, pairs_cap (bit_and w of_low)) }

  pub flat_end : 9 ≤ length s → length s ≤ 254 → length s ≤ i + 8 → w ≡ word_at s (length s - 8) / 2 ^ (8 * (8 - (length s - i)))
      → Flat s (bit_or bad (bit_and w of_top)) ((low + lo) % 65535)
  flat_end l₉ l m isW =
      let n = length s in
      let few = h.few in
      let e₁ : n - 8 + (8 - (n - i)) ≡ i = omega arith in
      let e₂ : i + (n - i) ≡ n = omega arith in
      let z : drop n s ≡ [] = nothing s n (omega arith) in
      let f = isW ∙ rw e₁ at (shifted s all (n - 8) (8 - (n - i)) (n - i) (omega arith) (omega arith)) in
      record {
        fine = λ q. rw (e₂, z) at (flat_fine (n - i) (omega arith) f q) ∙ none_leads;
        lows = over_16 _ _ _ (rw (e₂, z) at (flat_lows (n - i) (omega arith) f)) none_left (omega (arith, digits_few s));
        low_small = mod_16 (low + lo);
      }

-- the digits of eight bytes
pub eight_digits : (s : List ℕ) → AllBytes s → (i w : ℕ) → i + 8 ≤ length s → w ≡ word_at s i → in_pairs (bit_and w of_low) % 65535 ≡ digits (take 8 (drop i s))
eight_digits s all i w l isW =
    let ws = take 8 (drop i s) in
    let e = isW ∙ word_is s i l in
    let n : length ws ≡ 8 = rw (length-take, length-drop) (omega arith) in
    let o = low_adds 0 ws (omega arith) (omega arith) (all_take 8 (drop i s) (all_drop i s all)) in
    rw e (omega (arith, o.is, digits_few ws))
