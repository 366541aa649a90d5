-- [Order 8] The walk in the words of the paper, which knows found and not found and no next slot; and that it keeps, looks at and reads the same.
use Prim.Native.Nat.{ℕ, suc, ◌+◌, ◌-◌, ◌≤◌, ◌<◌}
use mathlib.Core.Path.{◌≡◌, refl, sym, ap, ◌∙◌}
use mathlib.Core.Bool.{Bool, true, false}
use mathlib.Core.List.{List, [], ◌∷◌, map}
use native.Mathlib.Decide.{dec_lt, dec_le, ℕ_discrete}
use native.Mathlib.Omega.{arith}
use lib.Dec.{leb, eqb}
use lib.ListN.{length, drop}
use borrow.Author.Tests.{lt-ltb, le-ltb, le-leb, lt-leb, eq-eqb, ne_eqb}
use Rattle.paper.specs.Lists.{pick}
use Rattle.paper.specs.Record.{bit_at, next_bit, record_fault}
use Rattle.paper.specs.Held.{Listed, listed, contents, entry_of}
use Rattle.paper.specs.Walk.{Walk, seek_in, or_behind, tried, walk_list, walks}
use Rattle.paper.specs.Question.{Charge, positions, in_order, from_smallest, charges, by_skips}
use Rattle.laws.proofs.Lists.{Each}
use Rattle.laws.proofs.Bits.{next_hit, next_miss, next_found}
use Rattle.meaning.proofs.Rising.{Ascends}
use Rattle.meaning.proofs.Sound.{entry_rise, contents_rise}
use Rattle.meaning.proofs.Greatest.{search_stops}
use Rattle.meaning.proofs.Trying.{try_bit, try_search}
use Rattle.meaning.proofs.Walking.{AllSound, keep_rise, walk_keeps}
use Rattle.meaning.proofs.Common.{ordered_sound}
use Rattle.promises.proofs.WalkCost.{search_of, looked_at, try_looks}
use Rattle.promises.proofs.SearchFinds.{entry_at, finger_left}

-- A candidate up to the cut is a bit test and no search. Above it block j is read until a slot that is not below x, or to its end: the candidate is
-- found where that slot is x. Where j is 0 it is absent
abbrev pub found_at : Listed → ℕ → ℕ → Bool
found_at l p x = let read = eqb (seek_in l.blocks x (search_of l p x).j).slot x in pick (leb x l.cut) (bit_at l.bits x) read

-- the finger becomes j
abbrev pub finger_at : Listed → ℕ → ℕ → ℕ
finger_at l p x = let j = (search_of l p x).j in pick (leb x l.cut) p j

-- the codes read
abbrev pub read_at : Listed → ℕ → ℕ → ℕ
read_at l p x = let read = (seek_in l.blocks x (search_of l p x).j).codes in pick (leb x l.cut) 0 read

-- candidates tried one after the other: those not found are dropped
unfoldable pub found_walk : Listed → ℕ → List ℕ → Walk
found_walk l p [] = record { kept = []; looks = 0; codes = 0 }
found_walk l p (x ∷ xs) =
    let on = found_walk l (finger_at l p x) xs in
    record { kept = pick (found_at l p x) (x ∷ on.kept) on.kept; looks = length (looked_at l p x) + on.looks; codes = read_at l p x + on.codes }

-- in one list after the other
unfoldable pub found_walks : List Listed → List ℕ → List Walk
found_walks [] xs = []
found_walks (l ∷ ls) xs = let w = found_walk l 0 xs in w ∷ found_walks ls w.kept

-- from the slots of the first record on
unfoldable pub found_from : ℕ → ℕ → List (List ℕ) → List Walk
found_from u B [] = []
found_from u B (r ∷ rs) = found_walks (map (listed u B) rs) (contents u B r)

-- what that is charged to the positions of a question
abbrev pub found_charges : ℕ → ℕ → List (List ℕ) → List Charge
found_charges u B rs = charges (drop 1 (positions rs)) (found_from u B (in_order rs))

-- the first block, where there is one, begins above the cut
abbrev pub Apart : Listed → Type 0
Apart l = 0 < l.m → l.cut < entry_at l 1

-- One list
module _ (l : Listed) where
  -- the first slot of the block behind j is no candidate that is sought: it is above x
  behind_alike : (j s x : ℕ) → 0 < x → (j < l.m → x < entry_at l (suc j)) → eqb (or_behind l j s) x ≡ eqb s x
  unfolding or_behind
  behind_alike j s x some h =
      elim (ℕ_discrete s 0) [
        | no n ↦ rw (ne_eqb s 0 n)
        | yes z ↦
            let n : ¬ (0 ≡ x) = omega arith in
            elim (dec_lt j l.m) [
              | yes k ↦ let a = h k in let d : ¬ (entry_at l (suc j) ≡ x) = omega arith in rw (z, lt-ltb j l.m k) (ne_eqb _ x d ∙ sym (ne_eqb 0 x n))
              | no g ↦ rw (z, le-ltb j l.m (omega arith))
            ]
      ]

  -- the next set bit is that of x exactly where the bit of x is set
  bit_alike : (bits : List ℕ) (x k : ℕ) → 0 < x → eqb (next_bit bits x (suc k)) x ≡ bit_at bits x
  bit_alike bits x k some = go (bit_at bits x) refl
    where
      go : (t : Bool) → bit_at bits x ≡ t → eqb (next_bit bits x (suc k)) x ≡ t
      go true e = rw (next_hit bits x k e) (eq-eqb x x refl)
      go false e = rw (next_miss bits x k e) (ne_eqb _ x λ i. let f = next_found bits (x + 1) k (omega arith) in let a = f.0 in omega arith)

  module _ (apart : Apart l) (p x : ℕ) (some : 0 < x) where
    -- the next slot is x exactly where x is found
    found_alike : eqb (tried l p x).slot x ≡ found_at l p x
    found_alike =
        elim (dec_le x l.cut) [
          | yes h ↦
              let k : l.cut + 1 - x ≡ suc (l.cut - x) = omega arith in
              rw (try_bit l p x h, le-leb x l.cut h, k)
              (behind_alike 0 _ x some (λ m. let a = apart m in omega arith) ∙ bit_alike l.bits x (l.cut - x) some)
          | no g ↦
              let h : l.cut < x = omega arith in
              rw (try_search l p x h, lt-leb x l.cut h)
              (behind_alike _ _ x some (search_stops (entry_of l.cut l.entries) x l.m p))
        ]

    finger_alike : (tried l p x).finger ≡ finger_at l p x
    finger_alike =
        elim (dec_le x l.cut) [
          | yes h ↦ rw (le-leb x l.cut h) ((finger_left l x p).0 h)
          | no g ↦ let h : l.cut < x = omega arith in rw (lt-leb x l.cut h) ((finger_left l x p).1 h)
        ]

    read_alike : (tried l p x).codes ≡ read_at l p x
    read_alike =
        elim (dec_le x l.cut) [
          | yes h ↦ rw (try_bit l p x h, le-leb x l.cut h)
          | no g ↦ let h : l.cut < x = omega arith in rw (try_search l p x h, lt-leb x l.cut h)
        ]

  -- THE WALK IS THE SAME: what it keeps, its looks and its codes
  pub walk_alike : Apart l → (p : ℕ) (xs : List ℕ) → Each (λ x. 0 < x) xs → walk_list l p xs ≡ found_walk l p xs
  unfolding walk_list found_walk
  walk_alike apart p [] e = refl
  walk_alike apart p (x ∷ xs) e =
      let on = walk_alike apart (finger_at l p x) xs e.1 in
      rw (found_alike apart p x e.0, try_looks l p x, read_alike apart p x e.0, finger_alike apart p x e.0, on)

-- Sound records
module _ (u B : ℕ) (pos : 1 ≤ B) where
  pub apart_sound : (r : List ℕ) → record_fault u B (length r) r ≡ 0 → Apart (listed u B r)
  unfolding listed entry_of
  apart_sound r ok h = entry_rise u B r pos ok 0 1 (omega arith) h

  all_some : (v a : ℕ) (xs : List ℕ) → Ascends v a xs → Each (λ x. 0 < x) xs
  all_some v a [] o = tt
  all_some v a (x ∷ xs) o = (omega (arith, o.0), all_some v x xs o.2)

  walks_alike : (rs : List (List ℕ)) → AllSound u B rs → (xs : List ℕ) → Ascends u 0 xs
      → walks (map (listed u B) rs) xs ≡ found_walks (map (listed u B) rs) xs
  unfolding walks found_walks
  walks_alike [] ok xs o = refl
  walks_alike (r ∷ rs) ok xs o =
      let sound = ok 0 (omega arith) in
      let w = walk_alike (listed u B r) (apart_sound r sound) 0 xs (all_some u 0 xs o) in
      let k = walk_keeps u B r pos sound xs o in
      let rise : Ascends u 0 (found_walk (listed u B r) 0 xs).kept = rw (sym (ap (λ (w : Walk). w.kept) w) ∙ k) (keep_rise _ u 0 xs o) in
      rw w (ap (λ (t : List Walk). found_walk (listed u B r) 0 xs ∷ t) (walks_alike rs (λ i l. ok (suc i) (omega arith)) _ rise))

  from_alike : (rs : List (List ℕ)) → AllSound u B rs → from_smallest u B rs ≡ found_from u B rs
  unfolding from_smallest found_from
  from_alike [] ok = refl
  from_alike (r ∷ rs) ok = walks_alike rs (λ i l. ok (suc i) (omega arith)) (contents u B r) (contents_rise u B r pos (ok 0 (omega arith)))

  -- SO IS WHAT IS CHARGED
  pub charges_alike : (rs : List (List ℕ)) → AllSound u B rs → by_skips u B rs ≡ found_charges u B rs
  unfolding by_skips
  charges_alike rs ok = ap (charges (drop 1 (positions rs))) (from_alike (in_order rs) (ordered_sound u B pos rs ok))
