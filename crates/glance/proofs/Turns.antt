-- One law for the room that a turn needs, one for a turn, one for the end, of each of the three glances: those of `quick`, as the code has their numbers.
use Prim.Native.Nat.{ℕ, ◌+◌, ◌-◌, ◌*◌, ◌/◌, ◌%◌, ◌^◌, ◌≤◌, ◌<◌}
use mathlib.Core.Path.{◌≡◌, refl, ◌∙◌}
use mathlib.Core.List.{List}
use native.Mathlib.Nat.{zero-add}
use native.Mathlib.Omega.{arith}
use lib.Bits.{bit_and, bit_or}
use lib.ListN.{length}
use Rattle.paper.specs.Bytes.{byte_at}
use Rattle.laws.proofs.Parts.{AllBytes}
use Rattle.quick.specs.Sums.{Flat, Told, Told3}
use Rattle.quick.specs.Words.{of_low, of_top, in_pairs, wrong_of, led_of, on_of, wrong3_of, far_of}
use Rattle.quick.proofs.Places.{word_at, FlatTo, flat_turn, flat_end, Glanced, glance_turn, glance_end}
use Rattle.quick.proofs.Places3.{Glanced3, glance3_begin, glance3_turn, glance3_end}
use Rattle.glance.specs.Rooms.{RoomyPairs, RoomyOnes}

-- codes of one byte: eight bytes have been seen in each turn
module _ (s : List ℕ) (turn bad low : ℕ) (h : FlatTo s (8 * turn) bad low) where
  pub flats_room : length s ≤ 254 → RoomyPairs low
  flats_room m = omega (arith, h.low_cap, h.few)

  module _ (all : AllBytes s) (w bad₂ low₂ : ℕ) (more : (bad₂ ≡ bit_or bad (bit_and w of_top)) × (low₂ ≡ low + in_pairs (bit_and w of_low))) where
    pub flats_on : turn < (length s - 1) / 8 → w ≡ word_at s (8 * turn) → FlatTo s (8 * (turn + 1)) bad₂ low₂
    flats_on l isW =
        let e : 8 * turn + 8 ≡ 8 * (turn + 1) = omega arith in
        rw (more.0, more.1) (rw e at (flat_turn s all (8 * turn) bad low h w _ refl (omega arith) isW))

    pub flats_told : 9 ≤ length s → length s ≤ 254 → (length s - 1) / 8 ≤ turn → turn ≤ (length s - 1) / 8
        → w ≡ word_at s (length s - 8) / 2 ^ (8 * (8 - ((length s - 1) % 8 + 1))) → {bad₃ low₃ : ℕ}
        → (bad₃ ≡ bad₂) × (low₃ ≡ low₂ % 65535) → Flat s bad₃ low₃
    flats_told l₉ m a b isW same =
        let e : (length s - 1) % 8 + 1 ≡ length s - 8 * turn = omega arith in
        rw (same.0, same.1, more.0, more.1) (flat_end s all (8 * turn) bad low h w _ refl l₉ m (omega arith) (rw e at isW))

-- codes of one and two bytes: i bytes have been seen
module _ (s : List ℕ) (i bad low led on : ℕ) (h : Glanced s i bad low led on) where
  pub pairs_room : length s ≤ 254 → RoomyPairs low × RoomyPairs led × RoomyOnes on
  pairs_room m = (omega (arith, h.low_cap, h.few), omega (arith, h.led_cap, h.few), omega (arith, h.on_cap, h.few))

  module _ (all : AllBytes s) (w p bad₂ low₂ led₂ on₂ : ℕ)
      (more : (bad₂ ≡ bit_or bad (wrong_of w p)) × (low₂ ≡ low + in_pairs (bit_and w of_low)) × (led₂ ≡ led + in_pairs (led_of w p)) × (on₂ ≡ on + on_of w)) where
    pub pairs_on : i + 8 < length s → w ≡ word_at s i → p ≡ word_at s (i - 1) → Glanced s (i + 8) bad₂ low₂ led₂ on₂
    pairs_on l isW isP =
        rw (more.0, more.1, more.2, more.3) (glance_turn s all i bad low led on h w p _ _ _ _ refl refl refl refl l isW isP)

    pub pairs_told : 9 ≤ length s → length s ≤ 254 → length s ≤ i + 8 → w ≡ word_at s (length s - 8) / 2 ^ (8 * (8 - (length s - i)))
        → p ≡ word_at s (length s - 9) / 2 ^ (8 * (8 - (length s - i))) → {bad₃ low₃ led₃ on₃ : ℕ}
        → (bad₃ ≡ bad₂) × (low₃ ≡ low₂ % 65535) × (led₃ ≡ led₂ % 65535) × (on₃ ≡ on₂ % 255) → Told s bad₃ low₃ led₃ on₃
    pairs_told l₉ m a isW isP same =
        rw (same.0, same.1, same.2, same.3, more.0, more.1, more.2, more.3)
        (glance_end s all i bad low led on h w p _ _ _ _ refl refl refl refl l₉ m a isW isP)

-- and of up to three bytes: the first two by themselves, as a turn from nothing
pub threes_begin : (s : List ℕ) → AllBytes s → 10 ≤ length s → length s ≤ 254 → (a b w p : ℕ) → w ≡ a + 256 * b → p ≡ 256 * a → a ≡ byte_at s 0 → b ≡ byte_at s 1 → {bad low led on far : ℕ}
    → (bad ≡ wrong3_of w p 0) × (low ≡ 0 + in_pairs (bit_and w of_low)) × (led ≡ 0 + in_pairs (led_of w p)) × (on ≡ 0 + on_of w) × (far ≡ 0 + in_pairs (far_of w p 0))
    → Glanced3 s 2 bad low led on far
threes_begin s all l m a b w p isW isP isA isB {bad = bad} {low = low} {led = led} {on = on} {far = far} h =
    glance3_begin s all w p bad low led on far l m (isW ∙ rw (isA, isB)) (isP ∙ rw isA) h.0 (h.1 ∙ zero-add _) (h.2 ∙ zero-add _) (h.3 ∙ zero-add _) (h.4 ∙ zero-add _)

module _ (s : List ℕ) (turn bad low led on far : ℕ) (h : Glanced3 s (8 * turn + 2) bad low led on far) where
  pub threes_room : RoomyPairs low × RoomyPairs led × RoomyOnes on × RoomyPairs far
  threes_room =
      (omega (arith, h.low_cap, h.few, h.small), omega (arith, h.led_cap, h.few, h.small), omega (arith, h.on_cap, h.few, h.small), omega (arith, h.far_cap, h.few, h.small))

  module _ (all : AllBytes s) (w p q bad₂ low₂ led₂ on₂ far₂ : ℕ)
      (more : (bad₂ ≡ bit_or bad (wrong3_of w p q)) × (low₂ ≡ low + in_pairs (bit_and w of_low)) × (led₂ ≡ led + in_pairs (led_of w p)) × (on₂ ≡ on + on_of w)
      × (far₂ ≡ far + in_pairs (far_of w p q))) where
    pub threes_on : turn < (length s - 3) / 8 → w ≡ word_at s (8 * turn + 2) → p ≡ word_at s (8 * turn + 1) → q ≡ word_at s (8 * turn)
        → Glanced3 s (8 * (turn + 1) + 2) bad₂ low₂ led₂ on₂ far₂
    threes_on l isW isP isQ =
        let e : 8 * turn + 2 + 8 ≡ 8 * (turn + 1) + 2 = omega arith in
        let f₁ : 8 * turn + 2 - 1 ≡ 8 * turn + 1 = omega arith in
        let f₂ : 8 * turn + 2 - 2 ≡ 8 * turn = omega arith in
        rw (more.0, more.1, more.2, more.3, more.4)
        (rw e at (glance3_turn s all (8 * turn + 2) bad low led on far h w p q _ _ _ _ _ refl refl refl refl refl (omega arith) isW (rw f₁ isP) (rw f₂ isQ)))

    pub threes_told : 10 ≤ length s → (length s - 3) / 8 ≤ turn → turn ≤ (length s - 3) / 8
        → w ≡ word_at s (length s - 8) / 2 ^ (8 * (8 - ((length s - 3) % 8 + 1)))
        → p ≡ word_at s (length s - 9) / 2 ^ (8 * (8 - ((length s - 3) % 8 + 1)))
        → q ≡ word_at s (length s - 10) / 2 ^ (8 * (8 - ((length s - 3) % 8 + 1))) → {bad₃ low₃ led₃ on₃ far₃ : ℕ}
        → (bad₃ ≡ bad₂) × (low₃ ≡ low₂ % 65535) × (led₃ ≡ led₂ % 65535) × (on₃ ≡ on₂ % 255) × (far₃ ≡ far₂ % 65535) → Told3 s bad₃ low₃ led₃ on₃ far₃
    threes_told l₁ a b isW isP isQ same =
        let e : (length s - 3) % 8 + 1 ≡ length s - (8 * turn + 2) = omega arith in
        rw (same.0, same.1, same.2, same.3, same.4, more.0, more.1, more.2, more.3, more.4)
        (glance3_end s all (8 * turn + 2) bad low led on far h w p q _ _ _ _ _ refl refl refl refl refl l₁ (omega arith) (rw e at isW) (rw e at isP) (rw e at isQ))

-- what the calls of `and` go by
pub ruleset rooms = (flats_room, pairs_room, threes_room)
