-- The set bits of one byte, from its top bit down.
use Rattle.std.specs.Prelude.{ℕ, zero, suc, ◌+◌, ◌-◌}
use Rattle.paper.specs.Record.{digit}

-- how many of the top p bits of a byte are set
unfoldable pub top_ones : ℕ → ℕ → ℕ
top_ones b zero = 0
top_ones b (suc p) = top_ones b p + digit b (7 - p)
