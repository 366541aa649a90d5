use Rattle.std.proofs.Common.{ap, ◌∙◌, rules}
use Rattle.std.specs.Slice.Iter.{chunks_rest, chunks_size}
use Rattle.pack.proofs.Tailing.{first_small, others_rise, fill_begin, fill_end, fill_room, fill_codes, fill_turn}
use Rattle.pack.proofs.put_tail.Goals as goal

pub loop-slots-init : goal.loop-slots-init
loop-slots-init c =
    let all = c.chunks-slots-items.ensures in
    let e = c.into_iter-slots-iterator.ensures.into_iter_gives in
    (ap chunks_size e ∙ all.size, rw (ap chunks_rest e ∙ all.rest) (fill_begin c.args.block c.args.high.now _ _ _ c.requires.1 c.requires.2))

pub put_entry-requires : goal.put_entry-requires
put_entry-requires c =
    let i = c.loop-slots.invariant in
    let s = rw i.0 at c.in-Some.ensures.steps.1 in
    fill_room i.1 c.requires.0 _ _ s.0 s.1 s.2 c.requires.3

pub put_gaps-at-requires : goal.put_gaps-at-requires
put_gaps-at-requires c =
    let i = c.loop-slots.invariant in
    let s = rw i.0 at c.in-Some.ensures.steps.1 in
    let rising = i.1.sized.rising in (
      first_small c.args.block c.requires.0 _ _ _ s.0 s.1 s.2 rising,
      others_rise c.args.block c.requires.0 _ _ _ s.0 s.1 s.2 rising,
      fill_codes i.1 c.requires.0 _ _ s.0 s.1 s.2 c.requires.3 _ (search rules),
    )

pub loop-slots-preserved : goal.loop-slots-preserved
loop-slots-preserved c =
    let i = c.loop-slots.invariant in
    let s = rw i.0 at c.in-Some.ensures.steps.1 in
    let gaps = c.put_gaps-at.ensures in
    (c.in-Some.ensures.steps.0 ∙ i.0, fill_turn i.1 c.requires.0 _ _ s.0 s.1 s.2 _ _ _ c.put_entry.ensures gaps.0 gaps.1)

pub returns : goal.returns
returns c = fill_end c.loop-slots.invariant.1 c.requires.0 c.in-None.ensures.steps.1.0
