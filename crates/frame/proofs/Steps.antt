-- What the functions of the frame cite: numbers by their distance from the end, the loop over the starts, the loop over the lists.
use Prim.Native.Nat.{ℕ, suc, ◌+◌, ◌*◌, ◌-◌, ◌≤◌, ◌<◌}
use mathlib.Core.Path.{◌≡◌, sym, ap, ◌∙◌}
use mathlib.Core.Bool.{Bool, true, false}
use mathlib.Core.List.{List}
use mathlib.Core.Logic.{◌⊎◌, inl, inr}
use lib.Dec.{eqb}
use native.Mathlib.Omega.{arith}
use lib.ListN.{length, drop}
use borrow.Author.Tests.{lt-ltb, le-ltb}
use Rattle.paper.specs.Lists.{same}
use Rattle.paper.specs.Bytes.{part}
use Rattle.paper.specs.Record.{record_fault}
use Rattle.paper.specs.Refusal.{verdict, tag, too_short, fault1, fault2}
use Rattle.paper.specs.Index.{from_end, start_of, block_length, k_of, record_in}
use Rattle.paper.specs.Look.{numbers_fault, frame_fault, list_fault, lists_fault}
use Rattle.paper.specs.declared.Verdict.{Verdict}
use Rattle.std.specs.List.{ends_with}
use Rattle.std.proofs.lemmas.Slice.Eq.{slice_eq-Decides}
use Rattle.std.proofs.lemmas.Bool.Decides.{Decides-eqb}
use Rattle.laws.proofs.Parts.{length_part}
use Rattle.laws.proofs.Equals.{same_is}
use Rattle.laws.proofs.Frames.{Laid, framed, records_within, lists_end, lists_bad, lists_next}
use Rattle.laws.proofs.Links.{frame_links, number_links}
use Rattle.laws.proofs.Faults.{fault_on}

-- a start by its distance from the end: in the directory, or behind the last list, where D stands
pub start_found : (bs : List ℕ) (i k d r : ℕ) → k ≡ from_end bs 12 → (i < k) × (d ≡ 24 + 4 * (k - i)) ⊎ (k ≤ i) × (d ≡ 8) → r ≡ from_end bs d → r ≡ start_of bs i
unfolding start_of
start_found bs i k d r is (inl p) e = e ∙ rw (p.1) (let l = p.0 in simp (← is, lt-ltb _ _ l))
start_found bs i k d r is (inr p) e = e ∙ rw (p.1) (let l = p.0 in simp (← is, le-ltb _ _ l))

-- the tag: the last four bytes are held against it
pub tag_ends : (r : Bool) (bs : List ℕ) → r ≡ ends_with eqb bs tag → r ≡ same (drop (length bs - 4) bs) tag
tag_ends r bs is =
    let d = slice_eq-Decides Decides-eqb tag (drop (length bs - 4) bs) r is in
    same_is r (drop (length bs - 4) bs) tag (λ e. sym (d.0 e)) (λ e. d.1 (sym e))

-- records that would be too short: k of them are left, from record i on
module _ (start : ℕ → ℕ) (k i : ℕ) (t : Bool) (same : too_short start (k - i) i ≡ t) where
  -- none is left
  pub short_none : k ≤ i → false ≡ t
  unfolding too_short
  short_none l = let z : k - i ≡ 0 = omega arith in ap (λ (m : ℕ). too_short start m i) (sym z) ∙ same

  module _ (h : i < k) (from to : ℕ) (is_f : from ≡ start i) (isT : to ≡ start (i + 1)) where
    some : too_short start (suc (k - (i + 1))) i ≡ t
    some = let z : k - i ≡ suc (k - (i + 1)) = omega arith in ap (λ (m : ℕ). too_short start m i) (sym z) ∙ same

    -- the next is too short
    pub short_here : to < from + 12 → true ≡ t
    unfolding too_short
    short_here l = simp (← is_f, ← isT, lt-ltb _ _ l) at some

    -- it is not
    pub short_next : from + 12 ≤ to → too_short start (k - (i + 1)) (i + 1) ≡ t
    unfolding too_short
    short_next l = simp (← is_f, ← isT, le-ltb _ _ l) at some

-- at first all are left
pub short_all : (start : ℕ → ℕ) (k : ℕ) → too_short start (k - 0) 0 ≡ too_short start k 0
short_all start k = let z : k - 0 ≡ k = omega arith in ap (λ (m : ℕ). too_short start m 0) z

-- all of these
pub ruleset shorts = (short_none, short_here, short_next, short_all)

-- a sum that is greater than the size is not the size. (No proof needs it today; with it, a test by `>` in place of `!=` fails at what it breaks)
pub not_same : (a b : ℕ) → b < a → ¬ (a ≡ b)
not_same a b l = omega arith

-- the links of 3 to 5
pub ruleset numbers = (number_links, not_same, fault_on)

-- the whole frame
pub frame_is : (bs : List ℕ) (r : Verdict) → r ≡ fault1 (length bs) (fault2 bs (numbers_fault bs (length bs))) → r ≡ frame_fault bs (length bs)
unfolding frame_fault
frame_is bs r e = e

-- its links
pub ruleset frame = (frame_links, frame_is)

-- the lists: k of them lie in bs, those from list i on are left, and the next record starts at from
pub record Head (bs : List ℕ) (start : ℕ → ℕ) (u B k : ℕ) (t : Verdict) (from i : ℕ) : Type 0 where
  pub laid : Laid (length bs) start k
  pub few : i ≤ k
  pub at : from ≡ start i
  pub same : lists_fault (list_fault u B) bs start (k - i) i ≡ t

-- all lists are left
pub all_left : (bs : List ℕ) (start : ℕ → ℕ) (u B k : ℕ) → Laid (length bs) start k → Head bs start u B k (lists_fault (list_fault u B) bs start k 0) 0 0
all_left bs start u B k h = let z : k - 0 ≡ k = omega arith in record { laid = h; few = omega arith; at = sym h.first; same = rw z }

-- an index that passes 1 to 5
module _ (bs : List ℕ) (ok : (frame_fault bs (length bs)).number ≡ 0) where
  -- the trailer and the directory are there
  pub directory_there : 24 + 4 * k_of bs ≤ length bs
  directory_there = let s = (framed bs ok).sum in omega arith

  -- the number u
  pub u_there : 20 ≤ length bs
  u_there = let l = (framed bs ok).least in omega arith

  -- the number B
  pub b_there : 16 ≤ length bs
  b_there = let l = (framed bs ok).least in omega arith

  -- the number k
  pub k_there : 12 ≤ length bs
  k_there = let l = (framed bs ok).least in omega arith

  -- B is not 0
  pub block_some : (B : ℕ) → B ≡ block_length bs → 0 < B
  block_some B is = rw is (framed bs ok).some_b

  -- its records lie one behind the other
  pub records_lie : Laid (length bs) (start_of bs) (k_of bs)
  records_lie = records_within bs (framed bs ok)

  -- and they are few
  pub lists_few : k_of bs ≤ 4096
  lists_few = (framed bs ok).most_k

module _ {bs : List ℕ} {start : ℕ → ℕ} {u B k : ℕ} {t : Verdict} {from i : ℕ} (h : Head bs start u B k t from i) where
  -- no list is left
  pub lists_done : k ≤ i → verdict 0 0 ≡ t
  lists_done l = sym (lists_end (list_fault u B) bs start (k - i) i (omega arith)) ∙ h.same

  module _ (l : i < k) (to : ℕ) (isT : to ≡ start (i + 1)) where
    apart : from + 12 ≤ to
    apart = rw (isT, h.at) (h.laid.apart i l)

    -- the next record lies forward
    pub part_start : from ≤ to
    part_start = omega (arith, apart)

    -- within bs
    pub part_end_in : to ≤ length bs
    part_end_in = rw isT (h.laid.inside (i + 1) (omega arith))

    -- and has 12 bytes or more
    pub record_long : 12 ≤ length (part bs from to)
    record_long = rw (length_part bs from to part_end_in) (omega (arith, apart))

    record_is : part bs from to ≡ record_in bs start i
    record_is = rw (h.at, isT)

    module _ (r : ℕ) (isR : r ≡ record_fault u B (length (part bs from to)) (part bs from to)) where
      fault_is : r ≡ record_fault u B (length (record_in bs start i)) (record_in bs start i)
      fault_is = isR ∙ ap (λ (l : List ℕ). record_fault u B (length l) l) record_is

      -- it has a fault
      pub fault_of_lists : ¬ (r ≡ 0) → verdict r i ≡ t
      fault_of_lists n =
          ap (λ (m : ℕ). verdict m i) fault_is
          ∙ sym (lists_bad (list_fault u B) bs start (k - i) i (omega arith) (λ z. n (fault_is ∙ z)))
          ∙ h.same

      -- it has none
      pub lists_turn : r ≡ 0 → Head bs start u B k t to (i + 1)
      lists_turn z =
          let m : k - i - 1 ≡ k - (i + 1) = omega arith in
          record {
            laid = h.laid;
            few = omega arith;
            at = isT;
            same = rw (← m) (sym (lists_next (list_fault u B) bs start (k - i) i (omega arith) (sym fault_is ∙ z)) ∙ h.same);
          }

-- all of these
pub ruleset lists = (all_left, lists_done, part_start, part_end_in, record_long, fault_of_lists, lists_turn)

-- of an index that passes 1 to 5
pub ruleset accepted = (directory_there, u_there, b_there, k_there, block_some, records_lie, lists_few)
