-- The codes of slots behind a slot, one after the other: measured, and written.
use Prim.Native.Nat.{ℕ, ◌+◌, ◌-◌, ◌*◌, ◌≤◌, ◌<◌}
use mathlib.Core.Path.{◌≡◌, refl, sym, ap, ◌∙◌}
use mathlib.Core.List.{List, [], ◌∷◌, ◌++◌}
use native.Mathlib.Omega.{arith}
use lib.ListN.{length, get_or, drop, length-append}
use lib.Seq.{sets}
use Rattle.paper.specs.Code.{code_bytes}
use Rattle.paper.specs.Write.{gap_codes}
use Rattle.laws.proofs.Parts.{front, nothing}
use Rattle.laws.proofs.Stores.{sets_join}
use Rattle.meaning.proofs.Rising.{Ascends}

-- The slots from position i on rise above last. There are no more before it than numbers up to last
pub record Along (slots : List ℕ) (last i : ℕ) : Type 0 where
  pub inside : i ≤ length slots
  pub few : i ≤ last
  pub small : last ≤ 1048576
  pub rising : Ascends 1048576 last (drop i slots)

-- at first
pub along_begin : (prev : ℕ) (slots : List ℕ) → prev ≤ 1048576 → Ascends 1048576 prev slots → Along slots prev 0
along_begin prev slots l r = record { inside = omega arith; few = omega arith; small = l; rising = r }

module _ {slots : List ℕ} {last i : ℕ} (a : Along slots last i) where
  -- no slot is left, and no code
  codes_end : length slots ≤ i → gap_codes last (drop i slots) ≡ []
  unfolding gap_codes
  codes_end l = rw (nothing slots i l)

  module _ (l : i < length slots) (x : ℕ) (is : x ≡ get_or slots i 0) where
    rises : Ascends 1048576 last (x ∷ drop (i + 1) slots)
    rises = rw (front slots i x l is) at a.rising

    -- the next slot is above the last
    pub along_above : last ≤ x
    along_above = omega (arith, rises.0)

    -- by 1 or more
    pub along_gap : 1 ≤ x - last
    along_gap = omega (arith, rises.0)

    -- a code holds any slot, and so any difference
    pub along_within : x ≤ 1048576
    along_within = rises.1

    -- its code, and those behind
    codes_next : gap_codes last (drop i slots) ≡ code_bytes (x - last - 1) ++ gap_codes x (drop (i + 1) slots)
    unfolding gap_codes
    codes_next = rw (front slots i x l is)

    -- and so on from there
    pub along_turn : Along slots x (i + 1)
    along_turn = record { inside = omega arith; few = omega (arith, a.few, rises.0); small = rises.1; rising = rises.2 }

-- all of these
pub ruleset alongs = (along_begin, along_above, along_gap, along_turn)

-- MEASURING: what was measured so far, with the codes that are left, is the size of all
pub record Measured (prev : ℕ) (slots : List ℕ) (last size i : ℕ) : Type 0 where
  pub few : size ≤ 3 * i
  pub same : size + length (gap_codes last (drop i slots)) ≡ length (gap_codes prev slots)

-- at first
pub measure_begin : (prev : ℕ) (slots : List ℕ) → Measured prev slots prev 0 0
measure_begin prev slots = record { few = omega arith; same = omega arith }

module _ {prev : ℕ} {slots : List ℕ} {last size i : ℕ} (a : Along slots last i) (h : Measured prev slots last size i) where
  -- no slot is left
  pub measure_end : length slots ≤ i → size ≡ length (gap_codes prev slots)
  measure_end l = let e = rw (codes_end a l) at h.same in omega arith

  -- and the size is small
  pub measure_few : size ≤ 3 * length slots
  measure_few = omega (arith, h.few, a.inside)

  -- there is room for a code in the numbers of the machine
  pub measure_small : (more : ℕ) → more ≤ 3 → size + more < 18446744073709551616
  measure_small more l = omega (arith, h.few, a.few, a.small)

  -- one more code is measured
  pub measure_turn : i < length slots → (x : ℕ) → x ≡ get_or slots i 0 → (more : ℕ) → more ≡ length (code_bytes (x - last - 1)) → more ≤ 3
      → Measured prev slots x (size + more) (i + 1)
  measure_turn l x is more e m =
      let s = rw (codes_next a l x is, length-append, ← e) at h.same in
      record { few = omega (arith, h.few); same = omega arith }

-- all of these
pub ruleset measures = (alongs, measure_begin, measure_end, measure_few, measure_small, measure_turn)

-- WRITING: the room with the codes that are left written to it is the room with all of them
pub record Putting (prev : ℕ) (slots room₀ : List ℕ) (at : ℕ) (room : List ℕ) (last to i : ℕ) : Type 0 where
  pub long : length room ≡ length room₀
  pub behind : to + length (gap_codes last (drop i slots)) ≡ at + length (gap_codes prev slots)
  pub same : sets room to (gap_codes last (drop i slots)) ≡ sets room₀ at (gap_codes prev slots)

-- at first
pub put_begin : (prev : ℕ) (slots room : List ℕ) (at : ℕ) → Putting prev slots room at room prev at 0
put_begin prev slots room at = record { long = refl; behind = refl; same = refl }

module _ {prev : ℕ} {slots room₀ : List ℕ} {at : ℕ} {room : List ℕ} {last to i : ℕ} (a : Along slots last i)
    (h : Putting prev slots room₀ at room last to i) where
  -- no slot is left
  pub put_end : length slots ≤ i → room ≡ sets room₀ at (gap_codes prev slots)
  put_end l = rw (codes_end a l) at h.same

  -- and this is the position behind
  pub put_behind : length slots ≤ i → to ≡ at + length (gap_codes prev slots)
  put_behind l = let e = rw (codes_end a l) at h.behind in omega arith

  -- the room has kept its length
  pub put_long : length room ≡ length room₀
  put_long = h.long

  module _ (l : i < length slots) (x : ℕ) (is : x ≡ get_or slots i 0) where
    -- the next code has its room
    pub put_room : at + length (gap_codes prev slots) ≤ length room₀ → to + length (code_bytes (x - last - 1)) ≤ length room
    put_room m = let s = rw (codes_next a l x is, length-append) at h.behind in omega (arith, h.long)

    -- it is written
    pub put_turn : (next : ℕ) (room' : List ℕ) → next ≡ to + length (code_bytes (x - last - 1)) → room' ≡ sets room to (code_bytes (x - last - 1))
        → length room' ≡ length room → Putting prev slots room₀ at room' x next (i + 1)
    put_turn next room' n r k =
        let c = codes_next a l x is in
        let s = rw (c, length-append) at h.behind in
        let e = sets_join (code_bytes (x - last - 1)) (gap_codes x (drop (i + 1) slots)) room to in
        record {
          long = k ∙ h.long;
          behind = omega arith;
          same = rw (r, n) (sym e ∙ ap (λ (g : List ℕ). sets room to g) (sym c) ∙ h.same);
        }

-- all of these
pub ruleset puts = (alongs, put_begin, put_end, put_behind, put_long, put_room, put_turn)
