-- What the code does to eight bytes at once, as numbers. `w` spells eight bytes, and `p` the eight that begin one before.
use Rattle.std.specs.Prelude.{ℕ, ◌+◌, ◌-◌, ◌/◌}
use Rattle.std.specs.Int.Bits.{bit_and, bit_or}

-- eight bytes 127, eight bytes 128, and 255 in each second byte
abbrev pub of_low : ℕ
of_low = 9187201950435737471

abbrev pub of_top : ℕ
of_top = 9259542123273814144

abbrev pub of_even : ℕ
of_even = 71777214294589695

-- not 0 where a byte that is led to leads on or is 0
unfoldable pub wrong_of : ℕ → ℕ → ℕ
wrong_of w p = bit_or (bit_and (bit_and p of_top) w) (bit_and p of_top - bit_and (bit_and w of_low + of_low) (bit_and p of_top))

-- the digits that are led to
unfoldable pub led_of : ℕ → ℕ → ℕ
led_of w p = bit_and (bit_and w of_low) (bit_and p of_top - bit_and p of_top / 128)

-- eight bytes added up in pairs: four sums
unfoldable pub in_pairs : ℕ → ℕ
in_pairs x = bit_and x of_even + bit_and (x / 256) of_even

-- a 1 for each byte that leads on
unfoldable pub on_of : ℕ → ℕ
on_of w = bit_and w of_top / 128

-- the same two with `q`, the eight bytes that begin two before: not 0 where a byte that is led to is 0, or one that is led to twice leads on
unfoldable pub wrong3_of : ℕ → ℕ → ℕ → ℕ
wrong3_of w p q = bit_or (bit_and (bit_and (bit_and p of_top) q) w) (bit_and p of_top - bit_and (bit_or (bit_and w of_low + of_low) w) (bit_and p of_top))

-- the digits that are led to twice
unfoldable pub far_of : ℕ → ℕ → ℕ → ℕ
far_of w p q = bit_and (bit_and w of_low) (bit_and (bit_and p of_top) q - bit_and (bit_and p of_top) q / 128)
