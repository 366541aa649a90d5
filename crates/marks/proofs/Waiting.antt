-- A merge on its way through the slots behind the cut: a piece is told, slots are passed over, and the end is reached.
use Prim.Native.Nat.{ℕ, ◌≤◌, ◌<◌}
use mathlib.Core.Path.{◌≡◌, refl, sym, ap, ◌∙◌}
use mathlib.Core.Bool.{Bool, false, ◌||◌}
use mathlib.Core.List.{List, [], ◌∷◌, ◌++◌, append_assoc}
use native.Mathlib.Decide.{dec_lt}
use native.Mathlib.Omega.{arith}
use lib.ListN.{get_or, take}
use Rattle.paper.specs.Lists.{has, keep, last_of}
use Rattle.paper.specs.Bytes.{part}
use Rattle.laws.proofs.Lists.{has_none, has_joined, has_front, has_behind}
use Rattle.laws.proofs.Parts.{part_cons, part_none}
use Rattle.laws.proofs.Blocks.{slots_none}
use Rattle.meaning.proofs.Rising.{Ascends, rise_join, rise_front, rise_back, last_most, has_low, stop_above, pass_below}
use Rattle.meaning.proofs.Blocks.{codes_rise}
use Rattle.plain.specs.Sifted.{behind, up_to, Told}
use Rattle.codes.specs.declared.block.Block.{Block}
use Rattle.codes.specs.InBlock.{read_block}
use Rattle.record.specs.Opened.{block_slots}
use Rattle.marks.specs.Marks.{marked, Clear, slots_left, Piece}
use Rattle.marks.specs.Waiting.{whole, Waits}
use Rattle.plain.proofs.Meant.{left_rise, both}

module _ (u : ℕ) (slots rest w t : List ℕ) (count kept next : ℕ) (s : List ℕ) where
  -- the merge goes on by what stands there
  pub anew : Waits u slots rest w t count kept next s → Waits u slots rest (whole slots count kept next s) t count kept next s
  anew h =
      record {
        floor = h.floor;
        low = h.low;
        within = h.within;
        room = h.room;
        rise = h.rise;
        clear = h.clear;
        ahead = h.ahead;
        above = h.above;
        same = refl;
      }

  -- and comes to the same
  pub carried : Waits u slots rest w t count kept next s → (rest' t' : List ℕ) (c m n : ℕ) (s' : List ℕ)
      → Waits u slots rest' (whole slots count kept next s) t' c m n s' → Waits u slots rest' w t' c m n s'
  carried h rest' t' c m n s' g =
      record {
        floor = g.floor;
        low = g.low;
        within = g.within;
        room = g.room;
        rise = g.rise;
        clear = g.clear;
        ahead = g.ahead;
        above = g.above;
        same = g.same ∙ h.same;
      }

-- what is above the last of rising slots is none of them
has_after : (u p x : ℕ) (xs : List ℕ) → Ascends u p xs → last_of p xs < x → has x xs ≡ false
has_after u p x [] a l = has_none x
has_after u p x (y ∷ ys) a l = let m = last_most u y ys a.2 in pass_below x y ys (omega arith) ∙ has_after u y x ys a.2 l

-- slots xs, and then others, are to come
module _ (u : ℕ) (slots xs after w t : List ℕ) (count kept next : ℕ) (s : List ℕ) (h : Waits u slots (xs ++ after) w t count kept next s) where
  -- all candidates left are above xs
  pub passed : Ascends u (last_of h.floor xs) (part s next count) → Waits u slots after w t count kept next s
  passed r =
      let f = h.floor in
      let a = rise_front u f xs after h.above in
      let m = last_most u f xs a in
      record {
        floor = last_of f xs;
        low = h.low;
        within = h.within;
        room = h.room;
        rise = r;
        clear = record { long = h.clear.long; none = λ x l k. h.clear.none x (omega arith) k };
        ahead = λ x l. h.ahead x (omega arith) ∙ has_behind x xs after (has_after u f x xs a l);
        above = rise_back u f xs after h.above;
        same = h.same;
      }

  -- there are none
  pub none_left : count ≤ next → Waits u slots after w t count kept next s
  none_left l = passed (rw (part_none s next count l) tt)

  -- the first of the others is not above the first candidate left
  pub passed_over : (y : ℕ) (ys : List ℕ) → after ≡ y ∷ ys → next < count → y ≤ get_or s next 0 → Waits u slots after w t count kept next s
  passed_over y ys is l k =
      let c = part_cons s next count l h.room in
      let r = rw c at h.rise in
      let b = rw is at (rise_back u h.floor xs after h.above) in
      passed (rw c (omega arith, r.1, r.2))

-- The slots of a block are to come, its first slot being the base of a piece, and then those behind it
pub record Comes (u : ℕ) (slots after w t : List ℕ) (count kept next : ℕ) (s : List ℕ) (b : Block) : Type 0 where
  pub same : b.u ≡ u
  pub small : u ≤ 1048576
  pub waits : Waits u slots (block_slots b ++ after) w t count kept next s

module _ (u : ℕ) (slots after w t₀ : List ℕ) (count kept next : ℕ) (s : List ℕ) (d : Block) (c : Comes u slots after w t₀ count kept next s d) where
  abbrev y : ℕ
  y = d.first

  abbrev zs : List ℕ
  zs = (read_block d).slots

  h : Waits u slots ((y ∷ zs) ++ after) w t₀ count kept next s
  h = c.waits

  -- no mark is made above the largest slot
  pub small_here : d.u ≤ 1048576
  small_here = rw c.same c.small

  -- no slot from y on is marked
  pub clear_here : Clear y t₀
  clear_here = let a = h.above.0 in record { long = h.clear.long; none = λ x l k. h.clear.none x (omega arith) k }

  -- it is marked up to y'
  module _ (t : List ℕ) (d' : Block) (g : Piece d.u d'.codes.now (block_slots d) t₀ y d.count t 0 d'.count d'.first) (of : d'.u ≡ d.u) where
    abbrev y' : ℕ
    y' = d'.first

    abbrev zs' : List ℕ
    zs' = slots_left d.u d'.codes.now 0 d'.count y'

    back : Ascends u (last_of y zs) after
    back = rise_back u h.floor (y ∷ zs) after h.above

    codes : Ascends u y' zs'
    codes = rw (← c.same) (codes_rise d.u d'.count y' _ g.reads.sound)

    -- so far the table tells what the slots do
    agree : (x : ℕ) → h.floor < x → x ≤ y' → marked t x ≡ has x slots
    agree x l k =
        let b = g.reads.low in
        let m = c.small in
        let k' = c.same in
        elim (dec_lt x y) [
          | yes a ↦ g.old x a (h.clear.none x (omega arith) (omega arith)) ∙ sym (h.ahead x l ∙ stop_above x y (zs ++ after) u h.above.2 a)
          | no a ↦
              let m : y' ≤ last_of y' zs' = last_most u y' zs' codes in
              let e : last_of y' zs' ≡ last_of y zs = g.last in
              g.new x (omega arith) k ∙ sym (h.ahead x l ∙ has_front x (y ∷ zs) after (has_low u (last_of y zs) x after back (omega arith)))
        ]

    -- and the candidates up to y' are told by it
    module _ (m n : ℕ) (s' : List ℕ) (told : Told (behind (take kept s) (up_to y' (marked t) (part s next count))) count m n s') where
      told_by : Waits u slots (zs' ++ after) w t count m n s'
      told_by =
          let up = g.up in
          let b = h.above.0 in
          record {
            floor = y';
            low = told.low;
            within = told.within;
            room = told.room;
            rise = rw told.rest (left_rise u y' (marked t) h.floor (part s next count) h.rise);
            clear = g.clear;
            ahead = λ x l.
                h.ahead x (omega arith)
                ∙ has_joined x (y ∷ zs) after
                ∙ ap (λ (b : Bool). b || has x after) (sym (g.onward x l))
                ∙ sym (has_joined x zs' after);
            above = rise_join u y' zs' after codes (rw g.last back);
            same =
                rw (told.front, told.rest, append_assoc)
                (ap (λ (l : List ℕ). take kept s ++ l) (both u y' (marked t) (keep (λ x. has x slots)) (λ x. has x slots) (λ xs r. refl) h.floor agree (part s next count) h.rise) ∙ h.same);
          }

      -- no code is left
      pub block_done : d'.count ≡ 0 → (c : ℕ) → c ≡ count → Waits u slots after w t c m n s'
      block_done z c e = rw e (rw (slots_none d.u y' d'.count (omega arith) d'.codes.now) at told_by)

      -- no candidate is left
      pub block_none : count ≤ n → (c : ℕ) → c ≡ count → Waits u slots after w t c m n s'
      block_none l c e = rw e (none_left u slots zs' after w t count m n s' told_by l)

      -- the next code gives the base of the next piece
      pub block_next : (d'' : Block) → (read_block d').slots ≡ block_slots d'' → d''.u ≡ d'.u → Comes u slots after w t count m n s' d''
      block_next d'' is now = record { same = now ∙ of ∙ c.same; small = c.small; waits = rw (rw of at is) at told_by }
