-- An index that passes 1 to 5, and one that looking accepts: what is then known of its trailer, its directory and its records.
use Prim.Native.Nat.{ℕ, zero, suc, ◌+◌, ◌*◌, ◌-◌, ◌≤◌, ◌<◌}
use mathlib.Core.Path.{◌≡◌, refl, sym, ap, ◌∙◌}
use mathlib.Core.Bool.{Bool, true, false, ◌||◌}
use mathlib.Core.List.{List}
use native.Mathlib.Decide.{ℕ_discrete}
use native.Mathlib.Omega.{arith}
use lib.Dec.{ltb}
use lib.ListN.{length, drop}
use borrow.Author.Tests.{le-ltb, eq-eqb, ne_eqb, ltb-false, eqb-true}
use Rattle.paper.specs.Lists.{pick, same}
use Rattle.paper.specs.Record.{record_fault}
use Rattle.paper.specs.Refusal.{verdict, accepted, or_else, within, tag, too_short, starts_fault, fault1, fault2, fault3, fault4, fault4k, fault5, fault12}
use Rattle.paper.specs.Index.{edition_of, u_of, block_length, k_of, d_of, start_of, record_in, record_of}
use Rattle.paper.specs.Look.{frame_fault, list_fault, lists_fault, look}
use Rattle.paper.specs.declared.Verdict.{Verdict}

-- a number of refusal is not 0
pub one_up : (n : ℕ) → ¬ (suc n ≡ 0)
one_up n z = omega arith

-- a link that accepts has passed its test, and so have those behind it
module _ (v : Verdict) (not : ¬ (v.number ≡ 0)) (rest : Verdict) where
  -- a test that is to pass
  passed : (t : Bool) → (pick t rest v).number ≡ 0 → (t ≡ true) × (rest.number ≡ 0)
  passed true e = (refl, e)
  passed false e = absurd (not e)

  -- a test that is to fail
  pub failed : (t : Bool) → (pick t v rest).number ≡ 0 → (t ≡ false) × (rest.number ≡ 0)
  failed true e = absurd (not e)
  failed false e = (refl, e)

-- a range
pub within_passed : (n : ℕ) → ¬ (n ≡ 0) → (rest : Verdict) (lo hi x : ℕ) → (within lo hi x (verdict n 0) rest).number ≡ 0
    → (lo ≤ x) × (x ≤ hi) × (rest.number ≡ 0)
within_passed n not rest lo hi x e =
    let p = failed (verdict n 0) not _ _ e in
    let q = failed (verdict n 0) not rest _ p.1 in
    (ltb-false _ _ p.0, ltb-false _ _ q.0, q.1)

-- 5 of the starts
pub starts_passed : (start : ℕ → ℕ) (k : ℕ) (rest : Verdict) → (starts_fault start k rest).number ≡ 0
    → (start 0 ≡ 0) × (too_short start k 0 ≡ false) × (rest.number ≡ 0)
unfolding starts_fault
starts_passed start k rest e =
    let p = passed (verdict 5 0) (one_up 4) _ _ e in
    let q = failed (verdict 5 0) (one_up 4) rest _ p.1 in
    (eqb-true _ _ p.0, q.0, q.1)

-- 12
pub room_passed : (room need : ℕ) (rest : Verdict) → (fault12 room need rest).number ≡ 0 → (need ≤ room) × (rest.number ≡ 0)
unfolding fault12
room_passed room need rest e = let p = failed (verdict 12 need) (one_up 11) rest (ltb room need) e in (ltb-false _ _ p.0, p.1)

-- k, where 4 by itself finds no fault in it: there are not too many lists
pub k_within : (k : ℕ) → accepted ≡ fault4k k accepted → k ≤ 4096
unfolding fault4k
k_within k judged = (within_passed 4 (one_up 3) accepted 1 4096 k (sym (ap (λ (v : Verdict). v.number) judged))).1

-- no record is too short: the starts rise by 12 or more
either : (s t : Bool) → (s || t) ≡ false → (s ≡ false) × (t ≡ false)
either true t e = absurd (let z : ◌≡◌ {A = ℕ} 0 1 = cc in omega arith)
either false t e = (refl, e)

module _ (start : ℕ → ℕ) where
  -- each is 12 or more before the next
  apart_from : (k i : ℕ) → too_short start k i ≡ false → (j : ℕ) → i ≤ j → j < i + k → start j + 12 ≤ start (j + 1)
  unfolding too_short
  apart_from zero i e j l m = absurd (omega arith)
  apart_from (suc k) i e j l m = let s = either _ _ e in go s.0 (λ a b. apart_from k (i + 1) s.1 j a b) (ℕ_discrete i j)
    where
      go : ltb (start (i + 1)) (start i + 12) ≡ false → (i + 1 ≤ j → j < i + 1 + k → start j + 12 ≤ start (j + 1)) → Dec (i ≡ j) → start j + 12 ≤ start (j + 1)
      go here behind (yes z) = rw (← z) (ltb-false _ _ here)
      go here behind (no n) = behind (omega arith) (omega arith)

  -- so none is above a later one
  rise_to : (d i : ℕ) → ((j : ℕ) → i ≤ j → j < i + d → start j + 12 ≤ start (j + 1)) → start i ≤ start (i + d)
  rise_to zero i f = let e : i + 0 ≡ i = omega arith in rw e (omega arith)
  rise_to (suc d) i f =
      let e : i + 1 + d ≡ i + suc d = omega arith in
      let r = rise_to d (i + 1) (λ j l m. f j (omega arith) (omega arith)) in
      let h = f i (omega arith) (omega arith) in
      let q = rw e at r in omega arith

-- k records lie one behind the other from 0 on, none of them beyond `size`
pub record Laid (size : ℕ) (start : ℕ → ℕ) (k : ℕ) : Type 0 where
  pub first : start 0 ≡ 0
  pub apart : (i : ℕ) → i < k → start i + 12 ≤ start (i + 1)
  pub inside : (i : ℕ) → i ≤ k → start i ≤ size

-- what 5 says of the starts where it passes, and an end that is not beyond it
pub laid : (size : ℕ) (start : ℕ → ℕ) (k : ℕ) → start 0 ≡ 0 → too_short start k 0 ≡ false → start k ≤ size → Laid size start k
laid size start k first short end = record { first = first; apart = apart; inside = inside }
  where
    apart : (i : ℕ) → i < k → start i + 12 ≤ start (i + 1)
    apart i l = apart_from start k 0 short i (omega arith) (omega arith)

    inside : (i : ℕ) → i ≤ k → start i ≤ size
    inside i l =
        let e : i + (k - i) ≡ k = omega arith in
        let r = rw e at (rise_to start (k - i) i (λ j a b. apart j (omega arith))) in
        omega arith

-- what 1 to 5 say where they pass
pub record Framed (bs : List ℕ) : Type 0 where
  pub least : 24 ≤ length bs
  pub most : length bs ≤ 16777216
  pub tagged : same (drop (length bs - 4) bs) tag ≡ true
  pub edition : edition_of bs ≡ 1
  pub some_u : 1 ≤ u_of bs
  pub most_u : u_of bs ≤ 1048576
  pub some_b : 1 ≤ block_length bs
  pub most_b : block_length bs ≤ 128
  pub some_k : 1 ≤ k_of bs
  pub most_k : k_of bs ≤ 4096
  pub sum : d_of bs + 4 * k_of bs + 24 ≡ length bs
  pub first : start_of bs 0 ≡ 0
  pub short : too_short (start_of bs) (k_of bs) 0 ≡ false

-- where 1 to 5 find no fault
pub framed : (bs : List ℕ) → (frame_fault bs (length bs)).number ≡ 0 → Framed bs
unfolding frame_fault fault1 fault2 fault3 fault4 fault4k fault5
framed bs ok =
    let a = within_passed 1 (one_up 0) _ 24 16777216 (length bs) ok in
    let b = passed (verdict 2 0) (one_up 1) _ _ a.2 in
    let c = passed (verdict 3 0) (one_up 2) _ _ b.1 in
    let d = within_passed 4 (one_up 3) _ 1 1048576 (u_of bs) c.1 in
    let e = within_passed 4 (one_up 3) _ 1 128 (block_length bs) d.2 in
    let f = within_passed 4 (one_up 3) _ 1 4096 (k_of bs) e.2 in
    let g = passed (verdict 5 0) (one_up 4) _ _ f.2 in
    let h = starts_passed (start_of bs) (k_of bs) accepted g.1 in
    record {
      least = a.0;
      most = a.1;
      tagged = b.0;
      edition = eqb-true _ _ c.0;
      some_u = d.0;
      most_u = d.1;
      some_b = e.0;
      most_b = e.1;
      some_k = f.0;
      most_k = f.1;
      sum = eqb-true _ _ g.0;
      first = h.0;
      short = h.1;
    }

-- behind the last record lies D
pub start_end : (bs : List ℕ) → start_of bs (k_of bs) ≡ d_of bs
unfolding start_of
start_end bs = simp (le-ltb (k_of bs) (k_of bs) (omega arith))

module _ (bs : List ℕ) (f : Framed bs) where
  -- its records lie before D
  pub records_laid : (size : ℕ) → d_of bs ≤ size → Laid size (start_of bs) (k_of bs)
  records_laid size l = laid size (start_of bs) (k_of bs) f.first f.short (rw (start_end bs) l)

  -- and so within the index
  pub records_within : Laid (length bs) (start_of bs) (k_of bs)
  records_within = records_laid (length bs) (let s = f.sum in omega arith)

  -- each has 12 bytes or more
  pub start_apart : (i : ℕ) → i < k_of bs → start_of bs i + 12 ≤ start_of bs (i + 1)
  start_apart = records_within.apart

  -- and none starts behind the end of the index
  pub start_within : (i : ℕ) → i ≤ k_of bs → start_of bs i ≤ length bs
  start_within = records_within.inside

-- the lists, one after the other
module _ (test : ℕ → List ℕ → Verdict) (bs : List ℕ) (start : ℕ → ℕ) (k i : ℕ) where
  -- no list is left
  pub lists_end : k ≤ 0 → lists_fault test bs start k i ≡ accepted
  unfolding lists_fault
  lists_end l = let z : k ≡ 0 = omega arith in rw z

  module _ (h : 0 < k) where
    some : k ≡ suc (k - 1)
    some = omega arith

    -- the next list is refused
    pub lists_bad : ¬ ((test i (record_in bs start i)).number ≡ 0) → lists_fault test bs start k i ≡ test i (record_in bs start i)
    unfolding lists_fault
    lists_bad n = ap (λ (m : ℕ). lists_fault test bs start m i) some ∙ simp (ne_eqb _ _ n)

    -- it passes
    pub lists_next : (test i (record_in bs start i)).number ≡ 0 → lists_fault test bs start k i ≡ lists_fault test bs start (k - 1) (i + 1)
    unfolding lists_fault
    lists_next z = ap (λ (m : ℕ). lists_fault test bs start m i) some ∙ simp (eq-eqb _ _ z)

-- where no list is refused, each one passes its test
module _ (test : ℕ → List ℕ → Verdict) (bs : List ℕ) (start : ℕ → ℕ) where
  all_pass : (k i : ℕ) → (lists_fault test bs start k i).number ≡ 0 → (j : ℕ) → i ≤ j → j < i + k → (test j (record_in bs start j)).number ≡ 0
  all_pass zero i ok j l m = absurd (omega arith)
  all_pass (suc k) i ok j l m = go (ℕ_discrete (test i (record_in bs start i)).number 0) (ℕ_discrete i j) (λ on a b. all_pass k (i + 1) on j a b)
    where
      go : Dec ((test i (record_in bs start i)).number ≡ 0) → Dec (i ≡ j)
          → ((lists_fault test bs start k (i + 1)).number ≡ 0 → i + 1 ≤ j → j < i + 1 + k → (test j (record_in bs start j)).number ≡ 0)
          → (test j (record_in bs start j)).number ≡ 0
      go (no n) d behind = absurd (n (sym (ap (λ (v : Verdict). v.number) (lists_bad test bs start (suc k) i (omega arith) n)) ∙ ok))
      go (yes z) (yes e) behind = rw (← e) z
      go (yes z) (no n) behind =
          let s : suc k - 1 ≡ k = omega arith in
          let on = sym (ap (λ (v : Verdict). v.number) (lists_next test bs start (suc k) i (omega arith) z)) ∙ ok in
          behind (rw s at on) (omega arith) (omega arith)

-- the first fault of two: the first where it refuses, else the second
module _ (v w : Verdict) where
  -- the first refuses
  pub or_first : ¬ (v.number ≡ 0) → or_else v w ≡ v
  or_first n = simp (ne_eqb _ _ n)

  -- the first accepts
  pub or_second : v.number ≡ 0 → or_else v w ≡ w
  or_second z = simp (eq-eqb _ _ z)

  -- the first refuses with a number
  pub or_given : (r p : ℕ) → v ≡ verdict r p → ¬ (r ≡ 0) → or_else v w ≡ verdict r p
  or_given r p e n = or_first (rw e n) ∙ e

  -- where there is none, neither refuses
  pub or_both : (or_else v w).number ≡ 0 → (v.number ≡ 0) × (w.number ≡ 0)
  or_both ok = go (ℕ_discrete v.number 0)
    where
      go : Dec (v.number ≡ 0) → (v.number ≡ 0) × (w.number ≡ 0)
      go (yes z) = (z, rw (or_second z) at ok)
      go (no n) = absurd (n (rw (or_first n) at ok))

-- lists without a fault are accepted, the place being 0
pub lists_accept : (test : ℕ → List ℕ → Verdict) (bs : List ℕ) (start : ℕ → ℕ) (k i : ℕ) → (lists_fault test bs start k i).number ≡ 0
    → lists_fault test bs start k i ≡ accepted
unfolding lists_fault
lists_accept test bs start zero i ok = refl
lists_accept test bs start (suc k) i ok =
    let here = test i (record_in bs start i) in
    let later = lists_fault test bs start k (i + 1) in
    let p = or_both here later ok in
    or_second here later p.0 ∙ lists_accept test bs start k (i + 1) p.1

-- an index that looking accepts
pub record Accepted (bs : List ℕ) : Type 0 where
  pub frame : Framed bs
  pub lists : (i : ℕ) → i < k_of bs → record_fault (u_of bs) (block_length bs) (length (record_of bs i)) (record_of bs i) ≡ 0

-- 1 to 5 find no fault where looking finds none
pub frame_looked : (bs : List ℕ) → (look bs).number ≡ 0 → (frame_fault bs (length bs)).number ≡ 0
unfolding look
frame_looked bs ok = (or_both _ _ ok).0

-- and the index is accepted
pub looked : (bs : List ℕ) → (look bs).number ≡ 0 → Accepted bs
unfolding look
looked bs ok =
    let p = or_both _ _ ok in
    record {
      frame = framed bs p.0;
      lists = λ i l. all_pass (list_fault (u_of bs) (block_length bs)) bs (start_of bs) (k_of bs) 0 p.1 i (omega arith) (omega arith);
    }
