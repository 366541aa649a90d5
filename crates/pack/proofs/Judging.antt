-- The slots to be written, one after the other: those that are good, and those that lie up to the cut.
use Prim.Native.Nat.{ℕ, zero, suc, ◌+◌, ◌-◌, ◌≤◌, ◌<◌}
use mathlib.Core.Path.{◌≡◌, refl, sym}
use mathlib.Core.Bool.{Bool, true, false}
use mathlib.Core.List.{List, [], ◌∷◌}
use native.Mathlib.Decide.{dec_le}
use native.Mathlib.Omega.{arith}
use lib.Dec.{ltb, leb}
use lib.ListN.{length, get_or, drop}
use Rattle.std.specs.List.Sorted.{IsPartitionedBy, IsPartitionPoint}
use Rattle.std.proofs.lemmas.List.{get_or_default}
use borrow.Author.Tests.{lt-ltb, le-ltb, le-leb, lt-leb, leb-false, leb-true, ltb-false}
use Rattle.paper.specs.Lists.{pick, keep}
use Rattle.paper.specs.Refusal.{verdict, accepted, good_slots, fault4, fault13, fault15}
use Rattle.laws.proofs.Parts.{front, nothing}
use Rattle.laws.proofs.Frames.{one_up, failed, within_passed}
use Rattle.laws.proofs.Links.{write_links}
use Rattle.laws.proofs.Faults.{told_on}
use Rattle.meaning.proofs.Rising.{Ascends, rise_higher, rise_at, rise_length, good_all}
use Rattle.meaning.proofs.Parting.{up_to, low_yes, low_no, none_low}
use Rattle.pack.specs.Measures.{RisesTo, before_room, Judged}

-- The slots before position i are good, prev is the last of them (0 where there is none), and the count is that of those behind, and i
pub record Good (u : ℕ) (slots : List ℕ) (prev i : ℕ) : Type 0 where
  pub inside : i ≤ length slots
  pub few : i ≤ prev
  pub within : prev ≤ u
  pub same : i + good_slots u prev (drop i slots) ≡ good_slots u 0 slots

-- at first
pub good_begin : (u : ℕ) (slots : List ℕ) → Good u slots 0 0
good_begin u slots = record { inside = omega arith; few = omega arith; within = omega arith; same = omega arith }

module _ {u : ℕ} {slots : List ℕ} {prev i : ℕ} (h : Good u slots prev i) where
  -- no more than u of them are good
  pub good_few : i ≤ u
  good_few = omega (arith, h.few, h.within)

  -- all are
  pub good_end : length slots ≤ i → i ≡ good_slots u 0 slots
  unfolding good_slots
  good_end l = let e = rw (nothing slots i l) at h.same in omega arith

  module _ (l : i < length slots) (x : ℕ) (is : x ≡ get_or slots i 0) where
    next : i + good_slots u prev (x ∷ drop (i + 1) slots) ≡ good_slots u 0 slots
    next = rw (← front slots i x l is) h.same

    -- the next does not rise
    pub good_low : x ≤ prev → i ≡ good_slots u 0 slots
    unfolding good_slots
    good_low g = let e = simp (le-leb x prev g) at next in omega arith

    module _ (r : prev < x) where
      -- it is above u
      pub good_high : u < x → i ≡ good_slots u 0 slots
      unfolding good_slots
      good_high g = let e = simp (lt-leb x prev r, lt-ltb u x g) at next in omega arith

      -- it is good
      pub good_turn : x ≤ u → Good u slots x (i + 1)
      unfolding good_slots
      good_turn g =
          let e = simp (lt-leb x prev r, le-ltb u x g) at next in
          record { inside = omega arith; few = omega (arith, h.few); within = g; same = omega arith }

-- all of these
pub ruleset goods = (good_begin, good_few, good_end, good_low, good_high, good_turn)

-- slots that rise one after the other, from above p up to u
ascending : (u p : ℕ) (xs : List ℕ) → (0 < length xs → p < get_or xs 0 0) → ((k : ℕ) → suc k < length xs → get_or xs k 0 < get_or xs (suc k) 0)
    → ((k : ℕ) → suc k ≡ length xs → get_or xs k 0 ≤ u) → Ascends u p xs
ascending u p [] f e l = tt
ascending u p (x ∷ []) f e l = (f (omega arith), l 0 refl, tt)
ascending u p (x ∷ y ∷ r) f e l =
    let rest = ascending u x (y ∷ r) (λ z. e 0 (omega arith)) (λ k h. e (suc k) (omega arith)) (λ k h. l (suc k) (omega arith)) in
    let b = rest.1 in
    (f (omega arith), omega (arith, rest.0), rest)

-- Of the first i slots, `count` are not above the one before
pub record Falls (slots : List ℕ) (i count : ℕ) : Type 0 where
  pub some : 1 ≤ i
  pub few : count ≤ i
  pub rises : count ≡ 0 → RisesTo slots i

-- they rise, if the first is not 0 and the last is not above u
pub rises_all : (u n : ℕ) (slots : List ℕ) → n ≡ length slots → ¬ (n ≡ 0) → ¬ (get_or slots 0 0 ≡ 0) → get_or slots (n - 1) 0 ≤ u → RisesTo slots (length slots) → Ascends u 0 slots
rises_all u n slots is some f l r = ascending u 0 slots (λ z. omega (arith, f)) (λ k b. r.each k b) (λ k e. let i : n - 1 ≡ k = omega arith in rw i at l)

-- none do
pub rises_none : (u n : ℕ) (slots : List ℕ) → n ≡ length slots → n ≡ 0 → Ascends u 0 slots
rises_none u n [] is z = tt
rises_none u n (x ∷ xs) is z = absurd (omega arith)

-- where all rise, all are good
pub rising_good : (u : ℕ) (slots : List ℕ) → Ascends u 0 slots → length slots ≡ good_slots u 0 slots
rising_good u slots a = sym (good_all u 0 slots a)

pub rising_few : (u : ℕ) (slots : List ℕ) → Ascends u 0 slots → length slots ≤ u
rising_few u slots a = omega (arith, rise_length u 0 slots (omega arith) a)

-- where all slots are good, they rise within u
pub all_good : (u prev : ℕ) (xs : List ℕ) → length xs ≤ good_slots u prev xs → Ascends u prev xs
unfolding good_slots
all_good u prev [] l = tt
all_good u prev (x ∷ xs) l = go (leb x prev) refl (ltb u x) refl (all_good u x xs) l
  where
    go : (s : Bool) → leb x prev ≡ s → (t : Bool) → ltb u x ≡ t → (length xs ≤ good_slots u x xs → Ascends u x xs)
        → suc (length xs) ≤ pick s 0 (pick t 0 (1 + good_slots u x xs)) → Ascends u prev (x ∷ xs)
    go true p t q on l = absurd (omega arith)
    go false p true q on l = absurd (omega arith)
    go false p false q on l = (leb-false _ _ p, ltb-false _ _ q, on (omega arith))

-- the links of 4, 15 and 13
pub ruleset writings = (write_links, told_on)

-- where 4, 15 and 13 refuse nothing, the record can be measured and written
pub judged : (u B cut : ℕ) (slots : List ℕ) → (before_room u B cut slots).number ≡ 0 → Judged B cut slots
unfolding fault4 fault13 fault15
judged u B cut slots ok =
    let p = within_passed 4 (one_up 3) _ 1 1048576 u ok in
    let q = within_passed 4 (one_up 3) _ 1 128 B p.2 in
    let r = failed (verdict 15 0) (one_up 14) _ (ltb u cut) q.2 in
    let s = failed (verdict 13 (good_slots u 0 slots)) (one_up 12) accepted (ltb (good_slots u 0 slots) (length slots)) r.1 in
    let c = ltb-false u cut r.0 in
    record {
      some = q.0;
      cut_within = omega (arith, p.1);
      rising = rise_higher 1048576 u 0 slots p.1 (all_good u 0 slots (ltb-false _ _ s.0));
    }

-- One of the slots lies above the cut: no more than those before it lie up to it
few_low : (cut u p i : ℕ) (xs : List ℕ) → Ascends u p xs → i < length xs → cut < get_or xs i 0 → length (up_to cut xs) ≤ i
few_low cut u p i [] r l g = absurd (omega arith)
few_low cut u p zero (x ∷ xs) r l g = rw (none_low cut u (x ∷ xs) (g, r.1, r.2)) (omega arith)
few_low cut u p (suc i) (x ∷ xs) r l g = more (dec_le x cut) (few_low cut u x i xs r.2 (omega arith) g)
  where
    more : Dec (x ≤ cut) → length (up_to cut xs) ≤ i → length (up_to cut (x ∷ xs)) ≤ suc i
    more (yes h) e = rw (low_yes cut x xs h) (omega arith)
    more (no n) e = rw (low_no cut x xs (omega arith)) (omega arith)

-- one of them lies up to it, and so do those before it
more_low : (cut u p i : ℕ) (xs : List ℕ) → Ascends u p xs → i < length xs → get_or xs i 0 ≤ cut → i + 1 ≤ length (up_to cut xs)
more_low cut u p i [] r l g = absurd (omega arith)
more_low cut u p zero (x ∷ xs) r l g = rw (low_yes cut x xs g) (omega arith)
more_low cut u p (suc i) (x ∷ xs) r l g =
    let b = rise_at u x i xs r.2 (omega arith) (get_or xs i 0) refl in
    rw (low_yes cut x xs (omega (arith, b.0))) (omega (arith, more_low cut u x i xs r.2 (omega arith) g))

-- no more of a list are kept than it has
up_to_few : (cut : ℕ) (xs : List ℕ) → length (up_to cut xs) ≤ length xs
unfolding keep
up_to_few cut [] = omega arith
up_to_few cut (x ∷ xs) = more (dec_le x cut) (up_to_few cut xs)
  where
    more : Dec (x ≤ cut) → length (up_to cut xs) ≤ length xs → length (up_to cut (x ∷ xs)) ≤ suc (length xs)
    more (yes h) e = rw (low_yes cut x xs h) (omega arith)
    more (no n) e = rw (low_no cut x xs (omega arith)) (omega arith)

-- one that lies up to the cut has none before it that does not
pub parted_by : (cut : ℕ) (slots : List ℕ) → Ascends 1048576 0 slots → IsPartitionedBy (λ x. leb x cut) slots
parted_by cut slots r i j d l b h =
    go (dec_le (get_or slots i 0) cut)
  where
    go : Dec (get_or slots i 0 ≤ cut) → leb (get_or slots i d) cut ≡ true
    go (yes a) = rw (get_or_default slots i d 0 (omega arith)) (le-leb _ _ a)
    go (no n) =
        let high = more_low cut 1048576 0 j slots r b (rw (get_or_default slots j d 0 b) at (leb-true _ _ h)) in
        absurd (omega (arith, high, few_low cut 1048576 0 i slots r (omega arith) (omega arith)))

-- where those before place i lie up to the cut and the others do not, so many do
pub point_is : (cut : ℕ) (slots : List ℕ) (i : ℕ) → Ascends 1048576 0 slots → i ≤ length slots
    → IsPartitionPoint (λ x. leb x cut ≡ true) (λ x. leb x cut ≡ false) slots i → i ≡ length (up_to cut slots)
point_is cut slots i r b p =
    let low : i ≤ length (up_to cut slots) = least (dec_le 1 i) in
    let high : length (up_to cut slots) ≤ i = most (dec_le (length slots) i) in
    omega arith
  where
    least : Dec (1 ≤ i) → i ≤ length (up_to cut slots)
    least (yes a) =
        let before = leb-true _ _ (p.0 (i - 1) 0 (omega arith) (omega arith)) in
        let n : i - 1 + 1 ≤ length (up_to cut slots) = more_low cut 1048576 0 (i - 1) slots r (omega arith) before in
        omega arith
    least (no n) = omega arith

    most : Dec (length slots ≤ i) → length (up_to cut slots) ≤ i
    most (yes a) = omega (arith, up_to_few cut slots)
    most (no n) = few_low cut 1048576 0 i slots r (omega arith) (leb-false _ _ (p.1 i 0 (omega arith) (omega arith)))

-- The slots before position i lie up to the cut, and the count is that of those behind, and i
pub record Low (cut : ℕ) (slots : List ℕ) (i : ℕ) : Type 0 where
  pub inside : i ≤ length slots
  pub same : i + length (up_to cut (drop i slots)) ≡ length (up_to cut slots)

-- at first
pub low_begin : (cut : ℕ) (slots : List ℕ) → Low cut slots 0
low_begin cut slots = record { inside = omega arith; same = omega arith }

module _ {cut : ℕ} {slots : List ℕ} {i : ℕ} (h : Low cut slots i) where
  -- all do
  pub low_end : length slots ≤ i → i ≡ length (up_to cut slots)
  unfolding keep
  low_end l = let e = rw (nothing slots i l) at h.same in omega arith

  module _ (l : i < length slots) (x : ℕ) (is : x ≡ get_or slots i 0) where
    behind : i + length (up_to cut (x ∷ drop (i + 1) slots)) ≡ length (up_to cut slots)
    behind = rw (← front slots i x l is) h.same

    -- the next lies above it, and so do all behind
    pub low_stop : Ascends 1048576 0 slots → cut < x → i ≡ length (up_to cut slots)
    low_stop a g =
        let b = rise_at 1048576 0 i slots a l x is in
        let n = none_low cut 1048576 (x ∷ drop (i + 1) slots) (g, b.1, b.2) in
        let e = rw n at behind in omega arith

    -- it does too
    pub low_turn : x ≤ cut → Low cut slots (i + 1)
    low_turn g = let e = rw (low_yes cut x (drop (i + 1) slots) g) at behind in record { inside = omega arith; same = omega arith }

-- all of these
pub ruleset lows = (low_begin, low_end, low_stop, low_turn)
