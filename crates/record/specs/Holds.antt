-- An opened record, as the list that it is: what a search in it goes by, and its slots.
use Rattle.std.specs.Prelude.{ℕ, List}
use Rattle.paper.specs.Held.{Listed, listed, contents}
use Rattle.record.specs.declared.held.Held.{Held}

-- the list, as it is searched
abbrev pub list_of : Held → Listed
list_of h = listed h.parts.u h.parts.block h.rec.now

-- its slots
abbrev pub slots_of : Held → List ℕ
slots_of h = contents h.parts.u h.parts.block h.rec.now
