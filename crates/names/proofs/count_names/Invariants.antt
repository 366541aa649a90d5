use lib.ListN.{length}
use Rattle.names.proofs.Records.{Counting}
use Rattle.names.proofs.count_names.Given as goal

abbrev pub invariant-loop-i : goal.invariant-loop-i
invariant-loop-i l = Counting l.index.bytes.now l.names (length l.initial.counts) l.counts l.i
