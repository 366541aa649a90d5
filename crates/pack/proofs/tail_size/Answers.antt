use Rattle.std.proofs.Common.{ap, ◌∙◌}
use Rattle.std.specs.Slice.Iter.{chunks_rest, chunks_size}
use Rattle.pack.proofs.Tailing.{first_small, others_rise, size_begin, size_end, size_few, size_turn}
use Rattle.pack.proofs.tail_size.Goals as goal

pub loop-slots-init : goal.loop-slots-init
loop-slots-init c =
    let all = c.chunks-slots-items.ensures in
    let e = c.into_iter-slots-iterator.ensures.into_iter_gives in
    (ap chunks_size e ∙ all.size, rw (ap chunks_rest e ∙ all.rest) (size_begin c.args.block c.args.high.now c.requires.1))

pub gaps_size-size-requires : goal.gaps_size-size-requires
gaps_size-size-requires c =
    let i = c.loop-slots.invariant in
    let s = rw i.0 at c.in-Some.ensures.steps.1 in
    (first_small c.args.block c.requires.0 _ _ _ s.0 s.1 s.2 i.1.rising, others_rise c.args.block c.requires.0 _ _ _ s.0 s.1 s.2 i.1.rising)

pub loop-slots-preserved : goal.loop-slots-preserved
loop-slots-preserved c =
    let i = c.loop-slots.invariant in
    let s = rw i.0 at c.in-Some.ensures.steps.1 in
    let g = c.gaps_size-size.ensures in
    (c.in-Some.ensures.steps.0 ∙ i.0, size_turn i.1 c.requires.0 _ _ s.0 s.1 s.2 _ g.1 g.0)

pub returns : goal.returns
returns c = let i = c.loop-slots.invariant.1 in
    (size_end i c.requires.0 c.in-None.ensures.steps.1.0, size_few i)
