use Rattle.pack.proofs.Marking.{cleared, blanked, still_rises, marked_all}
use Rattle.pack.proofs.put_bits.Goals as goal

pub mark-requires : goal.mark-requires
mark-requires c =
    let e = cleared _ _ c.fill.ensures.after in
    (blanked c.args.low.now _ _ e, still_rises c.args.low.now _ _ e c.requires)

pub returns : goal.returns
returns c = marked_all c.args.low.now _ _ (cleared _ _ c.fill.ensures.after) _ c.mark.ensures
