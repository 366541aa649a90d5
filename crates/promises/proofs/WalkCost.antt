-- The looks of a walk of candidates through one list: they are the positions looked at, and few.
use Prim.Native.Nat.{ℕ, zero, suc, ◌+◌, ◌-◌, ◌*◌, ◌/◌, ◌^◌, ◌≤◌, ◌<◌}
use mathlib.Core.Path.{◌≡◌, refl, ap}
use mathlib.Core.List.{List, [], ◌∷◌, ◌++◌}
use native.Mathlib.Decide.{dec_le, ℕ_discrete}
use native.Mathlib.Nat.{le_trans, le_refl}
use native.Mathlib.Omega.{arith}
use lib.Dec.{ltb, leb, eqb}
use lib.ListN.{length, length-append}
use borrow.Author.Tests.{lt-ltb, le-ltb, le-leb, lt-leb, eq-eqb, ne_eqb}
use Rattle.paper.specs.Lists.{pick, keep}
use Rattle.paper.specs.Held.{Listed, entry_of}
use Rattle.paper.specs.Search.{Sought, looks_of, searched}
use Rattle.paper.specs.Walk.{tried, walk_list}
use Rattle.laws.proofs.Lists.{keep_pass, keep_fail}
use Rattle.meaning.proofs.Trying.{try_bit, try_search}
use Rattle.promises.proofs.SearchCost.{Enough, billed, search_cost, search_ahead}
use Rattle.promises.proofs.SearchPrices.{search_priced, search_under}
use Rattle.promises.proofs.BinaryDigits.{digits}
use Rattle.promises.proofs.Bills.{bill, bill_by, old_bill, floors_add, bill_grows, bill_old, bill_none}

-- how many of the candidates xs a list is searched for: those above its cut
abbrev pub searches : Listed → List ℕ → ℕ
searches l xs = length (keep (λ x. ltb l.cut x) xs)

-- the search of a list for x, from finger p on
abbrev pub search_of : Listed → ℕ → ℕ → Sought
search_of l p x = searched (entry_of l.cut l.entries) x l.m p

-- the positions looked at for x: none where its bit is tested
abbrev pub looked_at : Listed → ℕ → ℕ → List ℕ
looked_at l p x = let seen = (search_of l p x).seen in pick (leb x l.cut) [] seen

-- those of a walk, candidate after candidate, the finger carried on
unfoldable pub walked_over : Listed → ℕ → List ℕ → List ℕ
walked_over l p [] = []
walked_over l p (x ∷ xs) = looked_at l p x ++ walked_over l (tried l p x).finger xs

-- THE LOOKS ARE THE POSITIONS LOOKED AT: of one candidate
pub try_looks : (l : Listed) (p x : ℕ) → (tried l p x).looks ≡ length (looked_at l p x)
try_looks l p x =
    elim (dec_le x l.cut) [
      | yes a ↦ rw (try_bit l p x a, le-leb x l.cut a)
      | no a ↦ let h : l.cut < x = omega arith in rw (try_search l p x h, lt-leb x l.cut h)
    ]

-- and of a walk
pub walk_seen : (l : Listed) (p : ℕ) (xs : List ℕ) → (walk_list l p xs).looks ≡ length (walked_over l p xs)
unfolding walk_list walked_over
walk_seen l p [] = refl
walk_seen l p (x ∷ xs) =
    let rest = walked_over l (tried l p x).finger xs in
    let later = walk_seen l (tried l p x).finger xs in
    let e = length-append (looked_at l p x) rest in
    let h = try_looks l p x in
    omega arith

-- what a search may cost that moves the finger on by d: two looks for each binary digit of d, one where d is 0
abbrev pub allowance : ℕ → ℕ
allowance d = pick (eqb d 0) 1 (2 * digits d)

-- and what the searches of a walk may cost together
unfoldable pub allowed : Listed → ℕ → List ℕ → ℕ
allowed l p [] = 0
allowed l p (x ∷ xs) = let search = allowance ((search_of l p x).j - p) in pick (leb x l.cut) 0 search + allowed l (tried l p x).finger xs

-- no search costs more
search_allowed : (l : Listed) (p x : ℕ) → looks_of (search_of l p x) ≤ allowance ((search_of l p x).j - p)
search_allowed l p x =
    let c = search_cost (entry_of l.cut l.entries) x l.m p in
    elim (ℕ_discrete ((search_of l p x).j - p) 0) [
      | yes e ↦ rw (eq-eqb _ _ e) (c.stayed e)
      | no n ↦ rw (ne_eqb _ _ n) (c.moved (omega arith))
    ]

-- and no walk
pub walk_allowed : (l : Listed) (p : ℕ) (xs : List ℕ) → (walk_list l p xs).looks ≤ allowed l p xs
unfolding walk_list allowed
walk_allowed l p [] = omega arith
walk_allowed l p (x ∷ xs) =
    let rest = walk_allowed l (tried l p x).finger xs in
    elim (dec_le x l.cut) [
      | yes a ↦ let z : (tried l p x).looks ≡ 0 = rw (try_bit l p x a) in rw (le-leb x l.cut a) (omega arith)
      | no a ↦
          let h : l.cut < x = omega arith in
          let z : (tried l p x).looks ≡ looks_of (search_of l p x) = rw (try_search l p x h) in
          let c = search_allowed l p x in
          rw (lt-leb x l.cut h) (omega arith)
    ]

-- The searches, candidate after candidate: none of none
searches_none : (l : Listed) → searches l [] ≡ 0
unfolding keep
searches_none l = refl

module _ (l : Listed) (x : ℕ) (xs : List ℕ) where
  -- one up to the cut does not count
  pub searches_low : x ≤ l.cut → searches l (x ∷ xs) ≡ 0 + searches l xs
  searches_low h = let e = ap length (keep_fail (λ x. ltb l.cut x) x xs (le-ltb l.cut x h)) in omega arith

  -- one above it counts once
  pub searches_high : l.cut < x → searches l (x ∷ xs) ≡ 1 + searches l xs
  searches_high h = let e = ap length (keep_pass (λ x. ltb l.cut x) x xs (lt-ltb l.cut x h)) in omega arith

-- [Order 14] THE LOOKS OF A WALK, from any finger on: a price for each search that is enough, and two looks for each 2 to the power of e blocks ahead of the finger
module _ (l : Listed) (e w : ℕ) (h : Enough e w) where
  -- a search, and the walk of the others: the two ways together are not longer than what lay ahead
  walk_more : (p x q rest : ℕ) → rest ≤ q * w + 2 * ((l.m - (search_of l p x).j) / 2 ^ e)
      → looks_of (search_of l p x) + rest ≤ (1 + q) * w + 2 * ((l.m - p) / 2 ^ e)
  walk_more p x q rest r =
      let s = entry_of l.cut l.entries in
      let c = search_priced s x l.m p e w h in
      let f = floors_add e _ _ _ (search_ahead s x l.m p) in
      omega arith

  pub walk_priced : (xs : List ℕ) (p : ℕ) → (walk_list l p xs).looks ≤ searches l xs * w + 2 * ((l.m - p) / 2 ^ e)
  unfolding walk_list
  walk_priced [] p = omega arith
  walk_priced (x ∷ xs) p =
      elim (dec_le x l.cut) [
        | yes a ↦ let r = walk_priced xs p in rw (searches_low l x xs a, try_bit l p x a) (omega arith)
        | no a ↦
            let c : l.cut < x = omega arith in
            rw (searches_high l x xs c, try_search l p x c) (walk_more p x (searches l xs) _ (walk_priced xs (search_of l p x).j))
      ]

-- THE BILL: the price is one look, and two for each of e digits
module _ (l : Listed) (xs : List ℕ) where
  pub walk_ahead : (e p : ℕ) → (walk_list l p xs).looks ≤ bill e (searches l xs) (l.m - p)
  walk_ahead e p = let h = walk_priced l e (1 + 2 * e) (billed e) xs p in omega arith

  -- so from any finger at most what all blocks allow
  pub walk_bill : (e p : ℕ) → (walk_list l p xs).looks ≤ bill e (searches l xs) l.m
  walk_bill e p = le_trans (walk_ahead e p) (bill_grows e _ _ _ _ (le_refl _) (omega arith))

  -- THE OLD BOUND, with e = 0: one look for each search, and two for each block ahead of the finger
  pub walk_looks : (p : ℕ) → (walk_list l p xs).looks ≤ old_bill (searches l xs) (l.m - p)
  walk_looks p = rw bill_old at (walk_ahead 0 p)

-- HOW NEAR. A walk with a search in it leaves one look over, for its last search does
module _ (l : Listed) (e w : ℕ) (h : Enough e w) where
  -- without a search there is no look
  walk_none : (xs : List ℕ) (p : ℕ) → searches l xs ≡ 0 → (walk_list l p xs).looks ≡ 0
  walk_none xs p z = let b = rw z at (walk_ahead l xs (digits (l.m - p)) p) in let n = bill_none (l.m - p) in omega arith

  walk_last : (p x q rest : ℕ) → (q ≡ 0 → rest ≡ 0) → (0 < q → rest < q * w + 2 * ((l.m - (search_of l p x).j) / 2 ^ e))
      → looks_of (search_of l p x) + rest < (1 + q) * w + 2 * ((l.m - p) / 2 ^ e)
  walk_last p x zero rest z r = let u = search_under (entry_of l.cut l.entries) x l.m p e w h in let n = z refl in omega arith
  walk_last p x (suc q) rest z r = let n = r (omega arith) in let m = walk_more l e w h p x (suc q) (suc rest) (omega arith) in omega arith

  pub walk_under : (xs : List ℕ) (p : ℕ) → 0 < searches l xs → (walk_list l p xs).looks < searches l xs * w + 2 * ((l.m - p) / 2 ^ e)
  unfolding walk_list
  walk_under [] p n = let z = searches_none l in absurd (omega arith)
  walk_under (x ∷ xs) p n =
      elim (dec_le x l.cut) [
        | yes a ↦ let s = searches_low l x xs a in let r = walk_under xs p (omega arith) in rw (s, try_bit l p x a) (omega arith)
        | no a ↦
            let c : l.cut < x = omega arith in
            let j = (search_of l p x).j in
            rw (searches_high l x xs c, try_search l p x c) (walk_last p x (searches l xs) _ (walk_none xs j) (walk_under xs j))
      ]

module _ (l : Listed) (xs : List ℕ) (e p : ℕ) (n : 0 < searches l xs) where
  -- so no bill is reached
  pub walk_below : (walk_list l p xs).looks < bill e (searches l xs) (l.m - p)
  walk_below = let h = walk_under l e (1 + 2 * e) (billed e) xs p n in omega arith

  -- and where e is not 0, one look of each search is to spare besides: two for each of e digits are price enough
  pub walk_spare : 0 < e → (walk_list l p xs).looks + searches l xs < bill e (searches l xs) (l.m - p)
  walk_spare h = let u = walk_under l e (2 * e) (record { one = omega arith; twice = omega arith }) xs p n in omega arith

-- what holds of every walk from finger 0 on, of its looks, its searches and the blocks of its list
abbrev pub OfWalks : (ℕ → ℕ → ℕ → Type 0) → Type 0
OfWalks R = (l : Listed) (xs : List ℕ) → R (walk_list l 0 xs).looks (searches l xs) l.m

-- what bounds its looks
abbrev pub Bounds : (ℕ → ℕ → ℕ) → Type 0
Bounds b = OfWalks (λ n q m. n ≤ b q m)

-- the bill does, with an e chosen for each by q and m
pub bill_bounds : (e : ℕ → ℕ → ℕ) → Bounds (bill_by e)
bill_bounds e l xs = walk_bill l xs (e (searches l xs) l.m) 0

-- and the old bound, being the bill with e = 0
pub old_bounds : Bounds old_bill
old_bounds l xs = rw bill_old at (walk_bill l xs 0 0)
