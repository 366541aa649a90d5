use borrow.Author.Rules.{rules}
use Rattle.pack.proofs.Judging.{goods}
use Rattle.pack.proofs.good_front.Goals as goal
use Rattle.pack.proofs.good_front.Goals.{then-x-prev-via-then-x-prev, then-x-prev-via-else-x-prev+then-u-x}

pub returns-then-x-prev : goal.returns-then-x-prev
returns-then-x-prev c =
    elim c.then-x-prev.branch [
      | then-x-prev-via-then-x-prev w ↦ (search (goods, rules), search (goods, rules))
      | then-x-prev-via-else-x-prev+then-u-x w ↦ (search (goods, rules), search (goods, rules))
    ]
