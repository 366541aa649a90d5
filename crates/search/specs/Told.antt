-- What the code answers, held against the definitions.
use Rattle.std.specs.Prelude.{ℕ, Bool, Option, eqb}
use Rattle.paper.specs.Lists.{some_slot}
use Rattle.paper.specs.Search.{Sought, looks_of}
use Rattle.paper.specs.Walk.{Try}
use Rattle.search.specs.declared.Found.{Found}
use Rattle.search.specs.declared.Step.{Step}

-- what a search gives
abbrev pub found : Sought → Found
found t = record { j = t.j; looks = looks_of t }

-- the next slot from one on, if there is one
abbrev pub reached : Try → Step (Option ℕ)
reached t = record { told = some_slot t.slot; finger = t.finger; looks = t.looks; codes = t.codes }

-- one candidate, tried: found where the next slot is the candidate
abbrev pub told : ℕ → Try → Step Bool
told x t = record { told = eqb t.slot x; finger = t.finger; looks = t.looks; codes = t.codes }
