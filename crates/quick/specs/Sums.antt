-- What a glance at the bytes of a block counts, byte by byte, each beside the byte before it; and when codes of one and two bytes are all that they are.
use Rattle.std.specs.Prelude.{ℕ, ◌+◌, ◌-◌, ◌/◌, ◌%◌, ◌<◌, ◌≡◌, List, [], ◌∷◌, ltb, length}
use Rattle.paper.specs.Bytes.{byte_at}
use Rattle.paper.specs.Lists.{pick}

-- the digits, summed
unfoldable pub digits : List ℕ → ℕ
digits [] = 0
digits (b ∷ r) = b % 128 + digits r

-- a digit, where the byte p before it leads on to it; else 0
unfoldable pub led_to : ℕ → ℕ → ℕ
led_to p b = pick (ltb p 128) 0 (b % 128)

-- these digits, summed, p standing before the bytes
unfoldable pub seconds : ℕ → List ℕ → ℕ
seconds p [] = 0
seconds p (b ∷ r) = led_to p b + seconds b r

-- how many bytes lead on
unfoldable pub leads : List ℕ → ℕ
leads [] = 0
leads (b ∷ r) = b / 128 + leads r

-- behind p: a byte that is led to ends its code and is not 0, and the last byte does not lead on
pub data Pairs : ℕ → List ℕ → Type 0 where
  none : {p : ℕ} → p < 128 → Pairs p []
  fresh : {p b : ℕ} {r : List ℕ} → p < 128 → Pairs b r → Pairs p (b ∷ r)
  second : {p b : ℕ} {r : List ℕ} → 0 < b → b < 128 → Pairs b r → Pairs p (b ∷ r)

-- what a glance at the bytes s tells: whether a byte that is led to is wrong (0: none), the digits, those led to, and how many bytes lead on
pub record Told (s : List ℕ) (wrong low led on : ℕ) : Type 0 where
  pub fine : wrong ≡ 0 → byte_at s (length s - 1) < 128 → Pairs 0 s
  pub lows : low ≡ digits s
  pub leds : led ≡ seconds 0 s
  pub ons : on ≡ leads s
  pub low_small : low < 65535
  pub led_small : led < 65535
  pub on_small : on < 255

-- the same of bytes that are to be codes of one byte each: whether one leads on (0: none), and the digits
pub record Flat (s : List ℕ) (wrong low : ℕ) : Type 0 where
  pub fine : wrong ≡ 0 → leads s ≡ 0
  pub lows : low ≡ digits s
  pub low_small : low < 65535

-- a digit, where both bytes before it lead on to it (q, then p); else 0
unfoldable pub third_of : ℕ → ℕ → ℕ → ℕ
third_of q p b = pick (ltb q 128) 0 (led_to p b)

-- these digits, summed
unfoldable pub thirds : ℕ → ℕ → List ℕ → ℕ
thirds q p [] = 0
thirds q p (b ∷ r) = third_of q p b + thirds p b r

-- behind q and p: a byte that is led to is not 0, one that is led to twice ends its code, and the last byte does not lead on
pub data Threes : ℕ → ℕ → List ℕ → Type 0 where
  none : {q p : ℕ} → p < 128 → Threes q p []
  fresh : {q p b : ℕ} {r : List ℕ} → p < 128 → Threes p b r → Threes q p (b ∷ r)
  second : {q p b : ℕ} {r : List ℕ} → q < 128 → 0 < b → Threes p b r → Threes q p (b ∷ r)
  third : {q p b : ℕ} {r : List ℕ} → 0 < b → b < 128 → Threes p b r → Threes q p (b ∷ r)

-- what a glance at the bytes s tells where codes may have three bytes
pub record Told3 (s : List ℕ) (wrong low led on far : ℕ) : Type 0 where
  pub fine : wrong ≡ 0 → byte_at s (length s - 1) < 128 → Threes 0 0 s
  pub lows : low ≡ digits s
  pub leds : led ≡ seconds 0 s
  pub ons : on ≡ leads s
  pub fars : far ≡ thirds 0 0 s
  pub low_small : low < 65535
  pub led_small : led < 65535
  pub on_small : on < 255
  pub far_small : far < 65535
