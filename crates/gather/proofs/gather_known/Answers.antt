use native.Mathlib.Omega.{arith}
use borrow.Author.Rules.{rules}
use Rattle.gather.proofs.InCodes.{code_below, code_turns}
use Rattle.gather.proofs.gather_known.Goals as goal

pub known_code-got-requires : goal.known_code-got-requires
known_code-got-requires c = search (code_turns, rules)

pub overflow_add-slot : goal.overflow_add-slot
overflow_add-slot c = search (code_turns, rules)

pub overflow_add-slot-in-loop-w : goal.overflow_add-slot-in-loop-w
overflow_add-slot-in-loop-w c =
    let got = c.known_code-got in
    let f = code_below _ _ _ _ _ _ _ _ _ c.loop-w.invariant (search rules) got.result.value got.result.next got.ensures.0 in
    record { fits = omega (arith, f) }

pub loop-w-preserved : goal.loop-w-preserved
loop-w-preserved c = search (code_turns, rules)

pub returns : goal.returns
returns c = search (code_turns, rules)
