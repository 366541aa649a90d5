use mathlib.Core.Path.{◌∙◌}
use native.Mathlib.Omega.{arith}
use Rattle.std.proofs.lemmas.Grind.{div_ceil_times}
use Rattle.paper.specs.Bytes.{ceil_div}
use Rattle.laws.proofs.Rounding.{rounds_ceil, rounds_one, ceil_few}
use Rattle.record.proofs.ceil.Goals as goal

-- both round up, so they are the same
pub returns : goal.returns
returns c =
    let x = c.args.x in
    let y = c.args.y in
    let e = c.div_ceil.ensures ∙ rounds_one x y _ (ceil_div x y) (div_ceil_times x y c.requires) (rounds_ceil x y (omega arith)) in
    (e, let f = ceil_few y c.requires x in omega arith)
