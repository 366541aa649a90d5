use Prim.Native.Nat.{◌+◌, ◌*◌}
use Rattle.paper.specs.Record.{slots_to_cut}
use Rattle.gather.proofs.InBits.{Bits}
use Rattle.gather.proofs.gather_bits.Given as goal

abbrev pub invariant-loop-nth : goal.invariant-loop-nth
invariant-loop-nth l = Bits l.bits l.cut (slots_to_cut l.cut l.bits) l.n l.slots (8 * (8 * l.nth) + 1) l.w

abbrev pub invariant-loop-x : goal.invariant-loop-x
invariant-loop-x l = Bits l.bits l.cut (slots_to_cut l.cut l.bits) l.n l.slots l.x l.w
