-- A result of the code, and the number and the verdict that it tells: no fault is told as 0, and a fault that is handed on is told as it was.
use Prim.Native.Nat.{◌<◌}
use mathlib.Core.Path.{◌≡◌, sym, ap}
use native.Mathlib.Omega.{arith}
use Rattle.std.specs.Prelude.{Result, Ok, Err}
use Rattle.std.specs.Result.{IsErrAnd}
use Rattle.paper.specs.Refusal.{verdict, accepted}
use Rattle.paper.specs.Fault.{number_of, fault, told}
use Rattle.paper.specs.declared.Verdict.{Verdict}
use Rattle.paper.specs.declared.refusal.Fault.{Fault}
use Rattle.paper.specs.declared.refusal.Fault.TheVariants.{Size, Tag, Edition, Range, Directory, Head, Offset, Code, Slot, Names, Name, Room, Rising, Way, Cut, Asked, Unused}
use Rattle.paper.specs.declared.refusal.Refusal.{Refusal}

-- a row of the table has a number
pub some_number : (f : Fault) → 0 < number_of f
some_number Size = omega arith
some_number Tag = omega arith
some_number Edition = omega arith
some_number Range = omega arith
some_number Directory = omega arith
some_number Head = omega arith
some_number Offset = omega arith
some_number Code = omega arith
some_number Slot = omega arith
some_number Names = omega arith
some_number Name = omega arith
some_number Room = omega arith
some_number Rising = omega arith
some_number Way = omega arith
some_number Cut = omega arith
some_number Asked = omega arith
some_number Unused = omega arith

-- so it refuses
pub no_zero : (f : Fault) → ¬ (number_of f ≡ 0)
no_zero f z = let s = some_number f in omega arith

-- what is told as accepted accepts
pub passes : (w : Verdict) → accepted ≡ w → w.number ≡ 0
passes w is = sym (ap (λ (v : Verdict). v.number) is)

module _ {A : Type 0} where
  -- a fault handed on by `?`
  pub fault_on : (r : Result A Fault) (f : Fault) → IsErrAnd r (λ e. e ≡ f) → fault r ≡ number_of f
  fault_on (Ok x) f h = absurd h
  fault_on (Err e) f is = ap number_of is

  -- a refusal handed on
  pub told_on : (r : Result A Refusal) (w : Refusal) → IsErrAnd r (λ e. e ≡ w) → told r ≡ verdict (number_of w.fault) w.place
  told_on (Ok x) w h = absurd h
  told_on (Err e) w is = ap (λ (v : Refusal). verdict (number_of v.fault) v.place) is
