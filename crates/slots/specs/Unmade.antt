-- The answer of a writing or a closing that is refused.
use Rattle.std.specs.Prelude.{ℕ}
use Rattle.paper.specs.declared.Written.{Written}

-- a number and a place, and no length
abbrev pub unmade : ℕ → ℕ → Written
unmade number place = record { number = number; place = place; length = 0 }
