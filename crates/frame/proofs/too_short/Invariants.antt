use Prim.Native.Nat.{◌-◌, ◌<◌}
use mathlib.Core.Path.{◌≡◌}
use Rattle.paper.specs.Refusal.{too_short}
use Rattle.frame.proofs.too_short.Given as goal

abbrev pub invariant-loop-i : goal.invariant-loop-i
invariant-loop-i g l =
    let start = g.S.Starts.begins l.starts in
    (l.from ≡ start l.i) × (l.from < 4294967296) × (too_short start (l.k - l.i) l.i ≡ too_short start l.k 0)
