use Prim.Native.Nat.{◌≤◌}
use lib.ListN.{length}
use Rattle.paper.specs.Block.{read_codes}
use Rattle.paper.specs.Walk.{seek}
use Rattle.codes.specs.InBlock.{stopped}
use Rattle.codes.proofs.Turns.{Head}
use Rattle.codes.proofs.seek_in.Given as goal

abbrev pub invariant-loop-codes : goal.invariant-loop-codes
invariant-loop-codes l = (l.at ≤ length l.s) × Head l.x l.u l.s l.count (stopped 0 (seek l.x l.first (read_codes l.u l.count l.first l.s).slots)) l.at l.codes l.slot
