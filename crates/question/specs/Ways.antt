-- The number of a way: 0 is plainly, 1 by skips.
use Rattle.std.specs.Prelude.{ℕ}
use Rattle.question.specs.declared.way.Way.{Way}
use Rattle.question.specs.declared.way.Way.TheVariants.{Plainly, BySkips}

abbrev pub number_of : Way → ℕ
number_of Plainly = 0
number_of BySkips = 1
