use Prim.Native.Nat.{◌+◌, ◌*◌}
use mathlib.Core.List.{◌++◌}
use lib.ListN.{length, take}
use Rattle.paper.specs.Lists.{keep, up_from}
use Rattle.paper.specs.Record.{bit_at}
use Rattle.gather.proofs.InBits.{Word}
use Rattle.gather.proofs.put_word.Given as goal

abbrev pub invariant-loop-v : goal.invariant-loop-v
invariant-loop-v l = Word l.bits (8 * l.at + 64) (take l.from l.initial.slots ++ keep (bit_at l.bits) (up_from (8 * l.at + 1) 64)) (length l.initial.slots) l.slots l.v l.w

abbrev pub decreases-loop-v : goal.decreases-loop-v
decreases-loop-v l = l.v
