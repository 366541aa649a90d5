use Rattle.pack.proofs.Laying.{layings}
use borrow.Author.Rules.{rules}
use Rattle.pack.proofs.lay_out.Goals as goal

pub overflow_sub-n : goal.overflow_sub-n
overflow_sub-n c = search (layings, rules)

pub overflow_cast-n : goal.overflow_cast-n
overflow_cast-n c = search (layings, rules)

pub overflow_add-codes : goal.overflow_add-codes
overflow_add-codes c = search (layings, rules)

pub offset_bounds-slots-low : goal.offset_bounds-slots-low
offset_bounds-slots-low c = search (layings, rules)

pub slice_bounds-tail_size-count : goal.slice_bounds-tail_size-count
slice_bounds-tail_size-count c = search (layings, rules)

pub slice_bounds-tail_size-start : goal.slice_bounds-tail_size-start
slice_bounds-tail_size-start c = search (layings, rules)

pub tail_size-requires : goal.tail_size-requires
tail_size-requires c = (search (layings, rules), search (layings, rules))

pub overflow_add-end : goal.overflow_add-end
overflow_add-end c = search (layings, rules)

pub returns : goal.returns
returns c = search (layings, rules)
