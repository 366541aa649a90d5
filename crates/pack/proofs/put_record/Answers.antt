use mathlib.Core.Path.{◌≡◌}
use lib.ListN.{length}
use lib.Seq.{length-take-le}
use Rattle.pack.proofs.Laying.{placings, low_small, high_rise, entries_there, codes_there, assembled}
use borrow.Author.Rules.{rules}
use Rattle.pack.proofs.put_record.Goals as goal

pub overflow_sub-n : goal.overflow_sub-n
overflow_sub-n c = search (placings, rules)

pub overflow_cast-n : goal.overflow_cast-n
overflow_cast-n c = search (placings, rules)

pub slice_bounds-put_bits-end-2 : goal.slice_bounds-put_bits-end-2
slice_bounds-put_bits-end-2 c = search (placings, rules, length-take-le)

pub put_bits-requires : goal.put_bits-requires
put_bits-requires c = search (placings, rules)

pub offset_bounds-slots-low : goal.offset_bounds-slots-low
offset_bounds-slots-low c = search (low_small c.requires.0 _ c.requires.1.low, rules)

pub slice_bounds-put_tail-count : goal.slice_bounds-put_tail-count
slice_bounds-put_tail-count c = search (placings, rules)

pub slice_bounds-put_tail-start : goal.slice_bounds-put_tail-start
slice_bounds-put_tail-start c = search (placings, rules)

pub put_tail-requires : goal.put_tail-requires
put_tail-requires c = let plan = c.requires.0 in
    let lay = c.requires.1 in
    let kept : length c.put_head.new.room ≡ length c.args.room.now = search rules in
    let there = codes_there plan lay c.args.room.now c.requires.2 c.put_head.new.room kept in (
      plan.some,
      high_rise plan _ lay.low,
      entries_there plan lay,
      search (there, c.put_bits.ensures),
    )

pub returns : goal.returns
returns c = let kept : length c.put_head.new.room ≡ length c.args.room.now = search rules in
    assembled c.requires.0 c.requires.1 _ c.requires.2 _ kept _ c.put_bits.ensures c.put_head.ensures _ c.put_tail.ensures
