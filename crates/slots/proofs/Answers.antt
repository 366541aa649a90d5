-- What the public functions cite: one law for each way out of each of them, where f or r is the refusal that the tests before it told. What they need of
-- an accepted index and of its records are the laws of `names`.
use Prim.Native.Nat.{ℕ, zero, suc, ◌+◌, ◌-◌, ◌≤◌, ◌<◌}
use mathlib.Core.Path.{◌≡◌, refl, sym, ap, ◌∙◌}
use mathlib.Core.Bool.{Bool, false}
use mathlib.Core.List.{List, []}
use native.Mathlib.Nat.{le_of_lt}
use native.Mathlib.Omega.{arith}
use lib.ListN.{length, take}
use lib.Seq.{take_all}
use borrow.Author.Tests.{ne_eqb}
use Rattle.std.specs.Prelude.{Option}
use Rattle.std.specs.Option.{unwrap_or}
use Rattle.paper.specs.Bytes.{part}
use Rattle.paper.specs.Lists.{some_slot, has, first_from}
use Rattle.paper.specs.Held.{count_of}
use Rattle.paper.specs.Refusal.{verdict, accepted, fault16}
use Rattle.paper.specs.Index.{u_of, k_of, start_of, record_of, held}
use Rattle.paper.specs.Look.{frame_fault, in_lists, look}
use Rattle.paper.specs.OneList.{name_fault, test_fault, test_answer, next_answer, count_answer, lent, part_answer}
use Rattle.paper.specs.Fault.{number_of}
use Rattle.paper.specs.declared.Verdict.{Verdict}
use Rattle.paper.specs.declared.refusal.Fault.{Fault}
use Rattle.paper.specs.declared.refusal.Refusal.{Refusal}
use Rattle.laws.proofs.Faults.{no_zero, passes, told_on}
use Rattle.laws.proofs.Frames.{or_first, or_second}
use Rattle.names.specs.Asked.{slots_named}
use Rattle.names.proofs.Records.{directory_held, record_forward, record_within, bits_there, sum_small}
use Rattle.laws.proofs.Names.{Named, named, name_below, name_past, placed}
use Rattle.laws.proofs.Links.{sixteen_small, sixteen_large, sixteen}

-- a slot as the paper says it, from a slot that may not be there
or_zero : (s : ℕ) → unwrap_or (some_slot s) 0 ≡ s
or_zero zero = refl
or_zero (suc s) = refl

-- looking
module _ (bs : List ℕ) where
  -- one of 1 to 5 refuses
  pub frame_refuses : (f : Fault) → verdict (number_of f) 0 ≡ frame_fault bs (length bs) → verdict (number_of f) 0 ≡ look bs
  unfolding look
  frame_refuses f is = rw (← is) (sym (or_first _ _ (no_zero f)))

  -- none does, and the lists tell
  pub lists_tell : accepted ≡ frame_fault bs (length bs) → (v : Verdict) → v ≡ in_lists bs → v ≡ look bs
  unfolding look
  lists_tell is v e = e ∙ rw (← is) (sym (or_second accepted _ refl))

-- a name of an index; cs is the index that looking has accepted
module _ (bs : List ℕ) (name : ℕ) where
  -- the index is refused
  pub look_refuses : (r : Refusal) → verdict (number_of r.fault) r.place ≡ look bs → verdict (number_of r.fault) r.place ≡ name_fault bs name
  unfolding name_fault
  look_refuses r is = rw (← is) (sym (or_first _ _ (no_zero r.fault)))

  module _ (is : accepted ≡ look bs) (cs : List ℕ) (same : cs ≡ bs) (k : ℕ) (isK : k ≡ k_of cs) where
    k_is : k ≡ k_of bs
    k_is = isK ∙ ap k_of same

    -- the name is
    pub name_refused : k ≤ name → verdict 11 0 ≡ name_fault bs name
    unfolding name_fault
    name_refused l = sym (name_past (k_of bs) name accepted (rw (← k_is) l)) ∙ rw (← is) (sym (or_second accepted _ refl))

    -- neither is
    pub name_good : name < k → accepted ≡ name_fault bs name
    unfolding name_fault
    name_good l = sym (name_below (k_of bs) name accepted (rw (← k_is) l)) ∙ rw (← is) (sym (or_second accepted _ refl))

-- all of these (le_of_lt: no proof needs it today; with it, a test by `<` in place of `<=` fails at what it breaks)
pub ruleset names = (look_refuses, name_refused, name_good, passes, told_on, le_of_lt)

-- a record ends within the index
pub ends_within : (bs : List ℕ) → (look bs).number ≡ 0 → (name : ℕ) → name < k_of bs → (e : ℕ) → e ≡ start_of bs (name + 1) → e ≤ length bs
ends_within bs ok name l e isE = record_within bs ok name l (start_of bs name) e refl isE

-- a refused name; n is the number that is told
module _ (bs : List ℕ) (name : ℕ) (r : Refusal) (is : verdict (number_of r.fault) r.place ≡ name_fault bs name) where
  -- nothing is lent
  pub nothing_lent : [] ≡ lent bs name
  unfolding lent
  nothing_lent = rw (← is) (sym (simp (ne_eqb _ _ (no_zero r.fault))))

  module _ (n : ℕ) (isN : n ≡ number_of r.fault) where
    -- no part is told
    pub part_refused : record { number = n; place = r.place; start = 0; length = 0 } ≡ part_answer bs name
    unfolding part_answer
    part_refused = rw (isN, ← is) (simp (ne_eqb _ _ (no_zero r.fault)))

    -- nothing is counted
    pub count_refused : record { number = n; place = r.place; count = 0 } ≡ count_answer bs name
    unfolding count_answer
    count_refused = rw (isN, ← is) (simp (ne_eqb _ _ (no_zero r.fault)))

-- a good name
module _ (bs : List ℕ) (name : ℕ) (is : accepted ≡ name_fault bs name) where
  the_name : Named bs name
  the_name = named bs name (passes _ is)

  -- the index has its directory
  pub name_looked : (look bs).number ≡ 0
  name_looked = the_name.looked

  -- the name is one of its lists
  pub name_known : name < k_of bs
  name_known = the_name.below

  -- its record lies from a to e
  pub part_told : (a e : ℕ) → a ≡ start_of bs name → e ≡ start_of bs (name + 1) → record { number = 0; place = 0; start = a; length = e - a } ≡ part_answer bs name
  unfolding part_answer
  part_told a e is_a isE = rw (the_name.is, is_a, isE)

  -- cs is the index that looking has accepted
  module _ (cs : List ℕ) (same : cs ≡ bs) where
    module _ (r : List ℕ) (isR : r ≡ record_of cs name) where
      -- its record is lent
      pub record_lent : r ≡ lent bs name
      unfolding lent
      record_lent = isR ∙ rw (same, ← is)

      -- and so are its first n bytes, where these are all
      pub front_lent : (n : ℕ) → length r ≤ n → take n r ≡ lent bs name
      front_lent n l = take_all n r l ∙ record_lent

      -- and counted
      pub count_told : (n : ℕ) → n ≡ count_of r → record { number = 0; place = 0; count = n } ≡ count_answer bs name
      unfolding count_answer
      count_told n e = rw (e, isR, same, ← is)

    -- what lies from its start to that of the next one is lent
    pub part_lent : (a e : ℕ) → a ≡ start_of cs name → e ≡ start_of cs (name + 1) → part cs a e ≡ lent bs name
    part_lent a e is_a isE = record_lent (part cs a e) (rw (is_a, isE))

-- a slot of a list
module _ (bs : List ℕ) (name x : ℕ) where
  -- the index or the name is refused
  pub name_refuses : (r : Refusal) → verdict (number_of r.fault) r.place ≡ name_fault bs name → verdict (number_of r.fault) r.place ≡ test_fault bs name x
  unfolding test_fault
  name_refuses r is = rw (← is) (sym (or_first _ _ (no_zero r.fault)))

  module _ (is : accepted ≡ name_fault bs name) (cs : List ℕ) (same : cs ≡ bs) (u : ℕ) (isU : u ≡ u_of cs) where
    u_is : u ≡ u_of bs
    u_is = isU ∙ ap u_of same

    so : (f : Verdict) → f ≡ fault16 (u_of bs) x accepted → f ≡ test_fault bs name x
    unfolding test_fault
    so f e = e ∙ rw (← is) (sym (or_second accepted _ refl))

    -- slot 0
    pub slot_small : x < 1 → verdict 16 0 ≡ test_fault bs name x
    slot_small l = so _ (sixteen_small accepted (u_of bs) x u u_is l)

    module _ (g : 1 ≤ x) where
      -- a slot above u
      pub slot_large : u < x → verdict 16 0 ≡ test_fault bs name x
      slot_large l = so _ (sixteen_large accepted (u_of bs) x u u_is g l)

      -- a slot in 1..u
      pub slot_inside : x ≤ u → accepted ≡ test_fault bs name x
      slot_inside l = so _ (sixteen accepted (u_of bs) x u u_is g l _ refl)

-- the slots of the list are those that it holds
pub list_held : (bs : List ℕ) (name : ℕ) (cs : List ℕ) → cs ≡ bs → (xs : List ℕ) → xs ≡ slots_named cs name → xs ≡ held bs name
unfolding held
list_held bs name cs same xs e = e ∙ ap (λ (ds : List ℕ). slots_named ds name) same

-- a number above another is not 0
pub above_some : (a k : ℕ) → a < k → 0 < k
above_some a k l = omega arith

-- all of these (le_of_lt and above_some: as above)
pub ruleset slot_tests = (above_some, name_refuses, slot_small, slot_large, slot_inside, name_looked, told_on, le_of_lt)

-- what was said of the slot
module _ (bs : List ℕ) (name x : ℕ) where
  module _ (r : Refusal) (is : verdict (number_of r.fault) r.place ≡ test_fault bs name x) (n : ℕ) (isN : n ≡ number_of r.fault) where
    -- what refuses is told by testing
    pub test_refused : record { number = n; place = r.place; yes = false } ≡ test_answer bs name x
    unfolding test_answer
    test_refused = rw (isN, ← is) (simp (ne_eqb _ _ (no_zero r.fault)))

    -- and by telling the next slot
    pub next_refused : record { number = n; place = r.place; slot = 0 } ≡ next_answer bs name x
    unfolding next_answer
    next_refused = rw (isN, ← is) (simp (ne_eqb _ _ (no_zero r.fault)))

  module _ (is : accepted ≡ test_fault bs name x) where
    -- the slot is not 0
    pub slot_some : 0 < x
    slot_some = (placed bs name x (passes _ is)).low

    -- the index is accepted, and the name is one of its lists
    pub slot_looked : (look bs).number ≡ 0
    slot_looked = (placed bs name x (passes _ is)).name_is.looked

    pub slot_known : name < k_of bs
    slot_known = (placed bs name x (passes _ is)).name_is.below

    -- xs are the slots of the list
    module _ (xs : List ℕ) (isX : xs ≡ held bs name) where
      -- they tell whether they hold the slot
      pub test_told : (t : Bool) → t ≡ has x xs → record { number = 0; place = 0; yes = t } ≡ test_answer bs name x
      unfolding test_answer
      test_told t e = rw (e, isX, ← is)

      -- and the next one
      pub next_told : (o : Option ℕ) → o ≡ some_slot (first_from x xs) → (y : ℕ) → y ≡ unwrap_or o 0 → record { number = 0; place = 0; slot = y } ≡ next_answer bs name x
      unfolding next_answer
      next_told o isO y is_y = rw (is_y, isO, or_zero (first_from x xs), isX, ← is)

-- all of these
pub ruleset looking = (frame_refuses, lists_tell, told_on)

pub ruleset parts = (part_refused, name_looked, name_known, part_told, directory_held, record_forward)

-- (directory_held and what follows it: no proof needs it today; with it, what cuts the record otherwise fails at what it breaks)
pub ruleset lending = (nothing_lent, name_looked, name_known, record_lent, directory_held, record_forward, ends_within, front_lent, part_lent)

pub ruleset counting = (count_refused, name_looked, name_known, bits_there, sum_small, count_told)

pub ruleset tests = (test_refused, slot_some, slot_looked, slot_known, list_held, test_told)

pub ruleset nexts = (next_refused, slot_some, slot_looked, slot_known, list_held, next_told)
