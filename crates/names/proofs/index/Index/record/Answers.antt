use borrow.Author.Rules.{rules}
use Rattle.names.proofs.Records.{directory_held, record_forward, record_within, record_told}
use Rattle.names.proofs.index.Index.record.Goals as goal

pub start_of-from-requires : goal.start_of-from-requires
start_of-from-requires c = search directory_held

pub start_of-to-requires : goal.start_of-to-requires
start_of-to-requires c = search directory_held

pub slice_bounds-result-count : goal.slice_bounds-result-count
slice_bounds-result-count c = search (record_forward, rules)

pub slice_bounds-result-start : goal.slice_bounds-result-start
slice_bounds-result-start c = search record_forward

pub slice_bounds-result-end : goal.slice_bounds-result-end
slice_bounds-result-end c = search record_within

pub returns : goal.returns
returns c = search record_told
