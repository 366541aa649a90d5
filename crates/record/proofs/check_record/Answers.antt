use Rattle.record.proofs.Spans.{bits_reach, heads}
use Rattle.record.proofs.check_record.Goals.{then-u-cut-via-then-u-cut, then-u-cut-via-else-u-cut+then-u-cut-2, then-u-cut-via-else-u-cut+else-u-cut-2+then-stray}
use Rattle.record.proofs.check_record.Goals as goal

pub returns-then-u-cut : goal.returns-then-u-cut
returns-then-u-cut c =
    elim c.then-u-cut.branch [
      | then-u-cut-via-then-u-cut w ↦ search heads
      | then-u-cut-via-else-u-cut+then-u-cut-2 w ↦ search heads
      | then-u-cut-via-else-u-cut+else-u-cut-2+then-stray w ↦ search heads
    ]

pub returns-then-to-len : goal.returns-then-to-len
returns-then-to-len c = search heads

pub rubbish-requires : goal.rubbish-requires
rubbish-requires c = search bits_reach

pub returns-then-rubbish : goal.returns-then-rubbish
returns-then-rubbish c = search heads

pub returns : goal.returns
returns c = search heads
