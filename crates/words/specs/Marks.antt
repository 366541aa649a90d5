-- A byte, and bytes of bits, with one bit set.
use Rattle.std.specs.Prelude.{ℕ, ◌+◌, ◌-◌, ◌*◌, ◌^◌, List, set}
use Rattle.paper.specs.Bytes.{byte_at}
use Rattle.paper.specs.Record.{byte_of, digit_of, digit}

-- a byte with its digit s set: where it was not, its weight is added
unfoldable pub with_digit : ℕ → ℕ → ℕ
with_digit b s = b + (1 - digit b s) * 2 ^ s

-- the bytes with bit x set
unfoldable pub with_bit : List ℕ → ℕ → List ℕ
with_bit bits x = set bits (byte_of x) (with_digit (byte_at bits (byte_of x)) (digit_of x))
