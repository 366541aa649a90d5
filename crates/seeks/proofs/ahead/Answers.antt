use native.Mathlib.Omega.{arith}
use borrow.Author.Rules.{rules}
use Rattle.seeks.proofs.Hops.{ahead_fits, ahead_turn}
use Rattle.seeks.proofs.ahead.Goals as goal

pub overflow_add-to : goal.overflow_add-to
overflow_add-to c = let f = ahead_fits _ _ _ _ _ _ _ _ c.loop-hop.invariant (search rules) _ c.eight.ensures in record { fits = omega (arith, f) }

pub overflow_add-to-in-loop-hop : goal.overflow_add-to-in-loop-hop
overflow_add-to-in-loop-hop c = let f = ahead_fits _ _ _ _ _ _ _ _ c.loop-hop.invariant (search rules) _ c.eight.ensures in record { fits = omega (arith, f) }

pub loop-hop-preserved : goal.loop-hop-preserved
loop-hop-preserved c = search (ahead_turn, rules)
