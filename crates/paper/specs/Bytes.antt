-- [The index, read from its end] Whole numbers in four bytes, the lowest byte first; and parts of a list of bytes.
use Rattle.std.specs.Prelude.{ℕ, ◌+◌, ◌-◌, ◌*◌, ◌/◌, ◌%◌, List, [], ◌∷◌, get_or, take, drop}

-- the byte at position i; 0 past the end
abbrev pub byte_at : List ℕ → ℕ → ℕ
byte_at bs i = get_or bs i 0

-- the number that the four bytes from position i on spell
unfoldable pub u32_at : List ℕ → ℕ → ℕ
u32_at bs i = byte_at bs i + 256 * byte_at bs (i + 1) + 65536 * byte_at bs (i + 2) + 16777216 * byte_at bs (i + 3)

-- the four bytes of a number
unfoldable pub u32_bytes : ℕ → List ℕ
u32_bytes x = x % 256 ∷ x / 256 % 256 ∷ x / 65536 % 256 ∷ x / 16777216 % 256 ∷ []

-- the bytes from position a up to position e
abbrev pub part : List ℕ → ℕ → ℕ → List ℕ
part bs a e = take (e - a) (drop a bs)

-- x / y rounded up
unfoldable pub ceil_div : ℕ → ℕ → ℕ
ceil_div x y = (x + (y - 1)) / y
