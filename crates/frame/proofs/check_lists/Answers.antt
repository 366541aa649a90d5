use Rattle.frame.proofs.Steps.{records_lie}
use Rattle.frame.proofs.check_lists.Goals as goal

pub check_records-requires-clause-laid : goal.check_records-requires-clause-laid
check_records-requires-clause-laid c = search records_lie
