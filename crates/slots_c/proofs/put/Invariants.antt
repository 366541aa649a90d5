use mathlib.Core.Path.{◌≡◌}
use lib.Seq.{sets}
use Rattle.slots_c.proofs.Fields.{putting}
use Rattle.slots_c.proofs.put.Given as goal

abbrev pub invariant-loop-i : goal.invariant-loop-i
invariant-loop-i l = putting l.out l.from l.fields l.i ≡ sets l.initial.out l.from l.fields
