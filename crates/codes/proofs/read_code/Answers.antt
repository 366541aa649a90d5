use mathlib.Core.Path.{◌∙◌}
use Rattle.laws.proofs.Codes.{two, three}
use borrow.Author.Rules.{rules}
use Rattle.codes.proofs.read_code.Goals as goal

pub returns-then-b-lt128-clause-result_value : goal.returns-then-b-lt128-clause-result_value
returns-then-b-lt128-clause-result_value c =
    let a = c.in_ok-get.ensures.lookup in
    let b = c.in_ok-get-2.ensures.lookup in
    two _ _ _ a.3.0 (c.from-a.ensures ∙ a.3.1 0) (search rules) _ b.3.0 (c.from-b.ensures ∙ b.3.1 0) (search rules) (search rules)

pub returns-clause-result_value : goal.returns-clause-result_value
returns-clause-result_value c =
    let a = c.in_ok-get.ensures.lookup in
    let b = c.in_ok-get-2.ensures.lookup in
    let d = c.in_ok-get-3.ensures.lookup in
    three _ _ _ a.3.0 (c.from-a.ensures ∙ a.3.1 0) (search rules) _ b.3.0 (c.from-b.ensures ∙ b.3.1 0) (search rules) _ d.3.0 (c.from-c.ensures ∙ d.3.1 0) (search rules) (search rules)
