-- What the refusals of a question cite.
use Rattle.laws.proofs.Links.{name_links}
use Rattle.laws.proofs.Faults.{told_on}

pub ruleset namings = (name_links, told_on)
