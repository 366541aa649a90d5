use mathlib.Core.List.{map, flatten}
use lib.ListN.{length}
use lib.Seq.{sets}
use Rattle.paper.specs.Bytes.{u32_bytes}
use Rattle.closing.proofs.Puts.{Putting}
use Rattle.closing.proofs.put_starts.Given as goal

abbrev pub invariant-loop-i : goal.invariant-loop-i
invariant-loop-i l = Putting (sets l.initial.room l.at (flatten (map u32_bytes l.starts))) (length l.initial.room) l.at l.starts l.room l.i
