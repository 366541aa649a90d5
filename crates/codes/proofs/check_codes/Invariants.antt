use Rattle.paper.specs.Block.{read_codes}
use Rattle.codes.specs.InBlock.{checked}
use Rattle.codes.proofs.Turns.{Left}
use Rattle.codes.proofs.check_codes.Given as goal

abbrev pub invariant-loop-read : goal.invariant-loop-read
invariant-loop-read l = Left l.u l.s l.count (checked l.first (read_codes l.u l.count l.first l.s)) l.at l._read l.last
