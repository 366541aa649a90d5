-- What the checks of closing cite: a start of the list, and the refusals before the lists, one law for each way out.
use Prim.Native.Nat.{ℕ, ◌≤◌, ◌<◌}
use mathlib.Core.Path.{◌≡◌, refl, sym, ap, ◌∙◌}
use mathlib.Core.Bool.{false}
use mathlib.Core.List.{List}
use native.Mathlib.Omega.{arith}
use lib.ListN.{length, get_or-eq_default}
use Rattle.paper.specs.Refusal.{verdict, accepted, finished, too_short, starts_fault, fault1, fault4, fault4k, fault12}
use Rattle.paper.specs.Look.{list_fault, lists_fault}
use Rattle.paper.specs.Close.{start_in, close_fault}
use Rattle.paper.specs.Fault.{number_of}
use Rattle.paper.specs.declared.Verdict.{Verdict}
use Rattle.paper.specs.declared.refusal.Refusal.{Refusal}
use Rattle.laws.proofs.Frames.{one_up, within_passed, starts_passed, room_passed, k_within, Laid, laid, lists_accept}
use Rattle.laws.proofs.Links.{number_links, Link, link_bad, link_good, link_both, link_closed, one_large, one, twelve_small, twelve}
use Rattle.laws.proofs.Faults.{some_number, told_on}
use Rattle.closing.specs.Given.{room_fault, given_fault}

-- 1, 12 and 5, the finished index having so many bytes
module _ (room D : ℕ) (starts : List ℕ) (size : ℕ) (is : size ≡ finished D (length starts)) where
  least : 24 ≤ size
  least = omega arith

  -- too many
  pub size_large : 16777216 < size → verdict 1 0 ≡ room_fault room D starts
  unfolding room_fault
  size_large l = rw (← is) (one_large _ size least l)

  module _ (l : size ≤ 16777216) where
    -- too many for the room
    pub size_roomless : room < size → verdict 12 size ≡ room_fault room D starts
    unfolding room_fault
    size_roomless g = rw (← is) (one _ size least l _ (twelve_small _ room size g))

    -- as many as there may be: the starts tell
    pub starts_tell : size ≤ room → (v : Verdict) → v ≡ starts_fault (start_in starts D) (length starts) accepted → v ≡ room_fault room D starts
    unfolding room_fault
    starts_tell g v e = rw (← is) (one _ size least l _ (twelve _ room size g _ e))

-- all of these
pub ruleset rooms = (size_large, size_roomless, starts_tell, told_on)

-- 4 before them
pub given : (room u B D : ℕ) (starts : List ℕ) (r : Verdict) → r ≡ fault4 u B (fault4k (length starts) (room_fault room D starts))
    → r ≡ given_fault room u B D starts
unfolding given_fault
given room u B D starts r e = e

-- the links of 4, with these behind them
pub ruleset before_lists = (number_links, given, k_within, told_on)

-- what these say where they pass
pub record Given (room B D : ℕ) (starts : List ℕ) : Type 0 where
  pub some_b : 0 < B
  pub some : 1 ≤ length starts
  pub few : length starts ≤ 4096
  pub small : finished D (length starts) ≤ 16777216
  pub fits : finished D (length starts) ≤ room
  pub first : start_in starts D 0 ≡ 0
  pub short : too_short (start_in starts D) (length starts) 0 ≡ false

module _ (room u B D : ℕ) (starts : List ℕ) (ok : (given_fault room u B D starts).number ≡ 0) where
  passed : Given room B D starts
  unfolding given_fault room_fault fault1 fault4 fault4k
  passed =
      let a = within_passed 4 (one_up 3) _ 1 1048576 u ok in
      let b = within_passed 4 (one_up 3) _ 1 128 B a.2 in
      let c = within_passed 4 (one_up 3) _ 1 4096 (length starts) b.2 in
      let d = within_passed 1 (one_up 0) _ 24 16777216 (finished D (length starts)) c.2 in
      let e = room_passed room (finished D (length starts)) _ d.2 in
      let f = starts_passed (start_in starts D) (length starts) accepted e.1 in
      record { some_b = b.0; some = c.0; few = c.1; small = d.1; fits = e.0; first = f.0; short = f.1 }

-- the lists of a buffer that passes them
module _ (bs : List ℕ) (u B D : ℕ) (starts : List ℕ) (ok : accepted ≡ given_fault (length bs) u B D starts) where
  given_passed : Given (length bs) B D starts
  given_passed = passed (length bs) u B D starts (sym (ap (λ (v : Verdict). v.number) ok))

  -- the records lie one behind the other
  pub records_lie : Laid (length bs) (start_in starts D) (length starts)
  records_lie =
      let s = given_passed in
      let z : start_in starts D (length starts) ≡ D = get_or-eq_default starts D {n = length starts} (omega arith) in
      laid (length bs) (start_in starts D) (length starts) s.first s.short (rw z (let g = s.fits in omega arith))

  -- and so do those of xs, which are the same
  pub same_lie : (xs : List ℕ) → xs ≡ starts → Laid (length bs) (start_in xs D) (length xs)
  same_lie xs is = rw is records_lie

  -- they are few
  pub lists_few : length starts ≤ 4096
  lists_few = given_passed.few

  -- there is one
  pub lists_some : 1 ≤ length starts
  lists_some = given_passed.some

  -- and a block has a slot
  pub block_some : 0 < B
  block_some = given_passed.some_b

-- closing: these, and then the lists
module _ (bs : List ℕ) (u B D : ℕ) (starts : List ℕ) where
  abbrev lists : Verdict
  lists = lists_fault (list_fault u B) bs (start_in starts D) (length starts) 0

  -- the tests before them, and then whatever follows
  abbrev given_then : Verdict → Verdict
  given_then rest =
      let k = length starts in
      fault4 u B (fault4k k (fault1 (finished D k) (fault12 (length bs) (finished D k) (starts_fault (start_in starts D) k rest))))

  link_given : Link given_then
  link_given = link_closed (length bs) u B (finished D (length starts)) (length starts) (start_in starts D)

  -- a refusal before the lists stands
  pub given_refuse : (r : Refusal) → verdict (number_of r.fault) r.place ≡ given_fault (length bs) u B D starts → verdict (number_of r.fault) r.place ≡ close_fault bs u B D starts
  unfolding close_fault given_fault room_fault
  given_refuse r is = sym (link_bad given_then link_given _ is lists (λ z. let s = some_number r.fault in omega arith))

  -- where nothing refuses there, the lists tell
  pub lists_tell : accepted ≡ given_fault (length bs) u B D starts → (v : Verdict) → v ≡ lists → v ≡ close_fault bs u B D starts
  unfolding close_fault given_fault room_fault
  lists_tell is v e = e ∙ sym (link_good given_then link_given _ is lists refl)

  -- xs are the starts: w, which its lists tell, is what v tells
  pub same_tell : accepted ≡ given_fault (length bs) u B D starts → (v w : Verdict) (xs : List ℕ)
      → w ≡ lists_fault (list_fault u B) bs (start_in xs D) (length xs) 0 → xs ≡ starts → v ≡ w → v ≡ close_fault bs u B D starts
  same_tell is v w xs e same told = lists_tell is v (told ∙ e ∙ rw same refl)

  module _ (ok : (close_fault bs u B D starts).number ≡ 0) where
    neither : ((given_fault (length bs) u B D starts).number ≡ 0) × (lists.number ≡ 0)
    unfolding close_fault given_fault room_fault
    neither = link_both given_then link_given lists ok

    -- where closing is not refused, these pass
    pub close_passed : Given (length bs) B D starts
    close_passed = passed (length bs) u B D starts neither.0

    -- and the place is 0
    pub close_accepted : close_fault bs u B D starts ≡ accepted
    unfolding close_fault given_fault room_fault
    close_accepted = link_good given_then link_given _ refl lists neither.0 ∙ lists_accept (list_fault u B) bs (start_in starts D) (length starts) 0 neither.1

-- the ways out of closing
-- (lists_some: no proof needs it today; with it, what leaves the first start out fails at what it breaks)
pub ruleset closings = (given_refuse, lists_tell, records_lie, lists_few, lists_some, block_some, told_on)
