-- [Numbers of refusal] The rows by name against the rows by number, as one claim each: the names stand in the order of the table, 1 to 17; a result tells its
-- fault's number and its place; and a slot is handed on as itself, 0 as none.
use Prim.Native.Nat.{ℕ}
use mathlib.Core.Path.{◌≡◌, refl}
use mathlib.Core.List.{List, [], ◌∷◌, map}
use Rattle.std.specs.Prelude.{Ok, Err, Some, None}
use Rattle.paper.specs.Lists.{some_slot}
use Rattle.paper.specs.Fault.{number_of, fault, told}
use Rattle.paper.specs.declared.Verdict.{Verdict}
use Rattle.paper.specs.declared.refusal.Fault.{Fault}
use Rattle.paper.specs.declared.refusal.Fault.TheVariants.{Size, Tag, Edition, Range, Directory, Head, Offset, Code, Slot, Names, Name, Room, Rising, Way, Cut, Asked, Unused}
use Rattle.paper.specs.declared.refusal.Refusal.{Refusal}

-- the rows, as the table has them
abbrev rows : List Fault
rows = Size ∷ Tag ∷ Edition ∷ Range ∷ Directory ∷ Head ∷ Offset ∷ Code ∷ Slot ∷ Names ∷ Name ∷ Room ∷ Rising ∷ Way ∷ Cut ∷ Asked ∷ Unused ∷ []

pub rows_numbered : map number_of rows ≡ 1 ∷ 2 ∷ 3 ∷ 4 ∷ 5 ∷ 6 ∷ 7 ∷ 8 ∷ 9 ∷ 10 ∷ 11 ∷ 12 ∷ 13 ∷ 14 ∷ 15 ∷ 16 ∷ 17 ∷ []
rows_numbered = refl

abbrev unused_in_list_3 : Refusal
unused_in_list_3 = record { fault = Unused; place = 3 }

abbrev verdict_17_3 : Verdict
verdict_17_3 = record { number = 17; place = 3 }

abbrev verdict_0_0 : Verdict
verdict_0_0 = record { number = 0; place = 0 }

pub refused_told : told {A = ℕ} (Err unused_in_list_3) ≡ verdict_17_3
refused_told = refl

pub well_told : told {A = ℕ} (Ok 5) ≡ verdict_0_0
well_told = refl

pub faults_told : map (fault {A = ℕ}) (Err Code ∷ Ok 5 ∷ []) ≡ 8 ∷ 0 ∷ []
faults_told = refl

pub slots_handed_on : map some_slot (0 ∷ 1 ∷ 1048576 ∷ []) ≡ None ∷ Some 1 ∷ Some 1048576 ∷ []
slots_handed_on = refl
