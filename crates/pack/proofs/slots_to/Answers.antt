use Rattle.std.proofs.Common.{leb, rules}
use Rattle.std.proofs.lemmas.List.Sorted.{IsPartitionPoint-from_clause}
use Rattle.pack.proofs.Judging.{parted_by, point_is}
use Rattle.pack.proofs.slots_to.Goals as goal

pub returns : goal.returns
returns c =
    let slots = c.args.slots.now in
    let cut = c.args.cut in
    let parted = parted_by cut slots c.requires in
    let point = IsPartitionPoint-from_clause (λ x. leb x cut) slots _ c.partition_point.ensures.partitioned parted (λ a r q k. search rules) in
    point_is cut slots _ c.requires c.partition_point.ensures.bound point
