use Rattle.std.proofs.Common.{◌-◌}
use Rattle.search.proofs.+halve.Given as goal

abbrev pub decreases-halve : goal.decreases-halve
decreases-halve l = l.hi - l.lo
