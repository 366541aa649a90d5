use borrow.Author.Rules.{rules}
use Rattle.laws.proofs.Links.{number_links}
use Rattle.laws.proofs.Faults.{fault_on}
use Rattle.frame.proofs.check_numbers.Goals as goal

pub returns-in_err-check_sizes : goal.returns-in_err-check_sizes
returns-in_err-check_sizes c = rw (fault_on c.from_residual.result _ c.from_residual.ensures.1) (search (rules, number_links))

pub returns-in_err-check_count : goal.returns-in_err-check_count
returns-in_err-check_count c =
    let e = c.from_residual-in_err-check_count in
    rw (fault_on e.result _ e.ensures.1) (search (rules, number_links))
