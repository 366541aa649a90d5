-- [Numbers of refusal] The rows of the table by name: the number of each, and what a result of the library's code tells by it.
use Rattle.std.specs.Prelude.{ℕ, Result, Ok, Err}
use Rattle.paper.specs.Refusal.{verdict, accepted}
use Rattle.paper.specs.declared.Verdict.{Verdict}
use Rattle.paper.specs.declared.refusal.Fault.{Fault}
use Rattle.paper.specs.declared.refusal.Fault.TheVariants.{Size, Tag, Edition, Range, Directory, Head, Offset, Code, Slot, Names, Name, Room, Rising, Way, Cut, Asked, Unused}
use Rattle.paper.specs.declared.refusal.Refusal.{Refusal}

-- the number of a row
abbrev pub number_of : Fault → ℕ
number_of Size = 1
number_of Tag = 2
number_of Edition = 3
number_of Range = 4
number_of Directory = 5
number_of Head = 6
number_of Offset = 7
number_of Code = 8
number_of Slot = 9
number_of Names = 10
number_of Name = 11
number_of Room = 12
number_of Rising = 13
number_of Way = 14
number_of Cut = 15
number_of Asked = 16
number_of Unused = 17

-- the number that a result tells: 0 where it is well, whatever it then holds
abbrev pub fault : {A : Type 0} → Result A Fault → ℕ
fault (Ok _) = 0
fault (Err f) = number_of f

-- the verdict of a result: its number, and its place
abbrev pub told : {A : Type 0} → Result A Refusal → Verdict
told (Ok _) = accepted
told (Err r) = verdict (number_of r.fault) r.place
