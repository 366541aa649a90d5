-- The next slot from one on in an opened record, and one candidate tried in it, as code does it: what the record's parts tell is what the definition
-- says of the list.
use Prim.Native.Nat.{ℕ, zero, suc, ◌+◌, ◌-◌, ◌≤◌, ◌<◌}
use mathlib.Core.Path.{◌≡◌, refl, sym, ap, ◌∙◌}
use mathlib.Core.Bool.{Bool, true, false}
use mathlib.Core.List.{List}
use Rattle.std.specs.Prelude.{Option, Some, None}
use Rattle.std.specs.Option.{is_some}
use native.Mathlib.Nat.{zero-add}
use native.Mathlib.Omega.{arith}
use lib.Dec.{eqb}
use borrow.Author.Tests.{lt-ltb, le-ltb, ne_eqb}
use Rattle.paper.specs.Lists.{some_slot, has, first_from}
use Rattle.paper.specs.Record.{cut_of, bits_of, bit_at, next_bit}
use Rattle.paper.specs.Held.{Listed, contents, listed, entry_of}
use Rattle.paper.specs.Search.{searched}
use Rattle.paper.specs.Walk.{Seek, Try, seek_in, or_behind, tried}
use Rattle.laws.proofs.Searches.{search_alike, search_below}
use Rattle.meaning.proofs.Sound.{skips_of, entry_rise, has_bit}
use Rattle.meaning.proofs.Trying.{none_sought, try_bit, try_search, try_found, next_is, holds_is}
use Rattle.codes.specs.declared.Stopped.{Stopped}
use Rattle.codes.specs.InBlock.{stopped}
use Rattle.record.specs.declared.Parts.{Parts}
use Rattle.record.specs.Opened.{Opened}
use Rattle.record.proofs.Opening.{cut_is, m_is, m_listed}
use Rattle.search.specs.declared.Found.{Found}
use Rattle.search.specs.declared.Step.{Step}
use Rattle.search.specs.Told.{found, reached, told}

-- s(0) plays no part in a search
alike : (c : ℕ) (es : List ℕ) (i : ℕ) → 1 ≤ i → entry_of 0 es i ≡ entry_of c es i
unfolding entry_of
alike c es zero l = absurd (omega arith)
alike c es (suc b) l = refl

-- the slot v, none where it is 0, or that of the block behind j
module _ (l : Listed) (j : ℕ) where
  -- v is a slot
  kept : (v : ℕ) → is_some (some_slot v) ≡ true → v ≡ or_behind l j v
  unfolding or_behind
  kept zero t = cc
  kept (suc v) t = rw (ne_eqb (suc v) 0 (omega arith))

  -- it is none, and j is the last block
  none_behind : (v : ℕ) → is_some (some_slot v) ≡ false → l.m ≤ j → 0 ≡ or_behind l j v
  unfolding or_behind
  none_behind zero t h = rw (le-ltb j l.m h)
  none_behind (suc v) t h = cc

  -- it is none, and a block follows
  block_behind : (v : ℕ) → is_some (some_slot v) ≡ false → j < l.m → entry_of l.cut l.entries (suc j) ≡ or_behind l j v
  unfolding or_behind
  block_behind zero t h = rw (lt-ltb j l.m h)
  block_behind (suc v) t h = cc

-- a slot that is one
slot_some : (w : ℕ) → 0 < w → Some w ≡ some_slot w
slot_some zero h = absurd (omega arith)
slot_some (suc w) h = refl

-- in an opened record: the slot that a block behind j begins with
module _ (u B : ℕ) (r : List ℕ) (p : Parts) (o : Opened u B r p) where
  module _ (j v : ℕ) (s : Option ℕ) (is : s ≡ some_slot v) (b : Bool) (isB : b ≡ is_some s) where
    pub slot_stays : b ≡ true → s ≡ some_slot (or_behind (listed u B r) j v)
    slot_stays t = is ∙ ap some_slot (kept (listed u B r) j v (rw (isB, is) at t))

    pub no_block : b ≡ false → p.m ≤ j → None ≡ some_slot (or_behind (listed u B r) j v)
    no_block t h = ap some_slot (none_behind (listed u B r) j v (rw (isB, is) at t) (rw (← m_listed u B r p o) h))

    pub next_block : (es : List ℕ) (w : ℕ) → b ≡ false → j < p.m → es ≡ (listed u B r).entries → w ≡ entry_of 0 es (j + 1)
        → Some w ≡ some_slot (or_behind (listed u B r) j v)
    unfolding listed
    next_block es w t h a e =
        let n : j + 1 ≡ suc j = omega arith in
        let q : w ≡ entry_of (cut_of r) (skips_of B r) (suc j) = rw (a, n) at e ∙ alike (cut_of r) (skips_of B r) (suc j) (omega arith) in
        let low = entry_rise u B r o.some_b o.sound 0 (suc j) (omega arith) (omega (arith, m_is u B r p o)) in
        slot_some w (rw q (omega arith)) ∙ ap some_slot (q ∙ block_behind (listed u B r) j v (rw (isB, is) at t) (rw (← m_is u B r p o) h))

-- w is the slot of the next set bit, or the first of the first block
pub by_bits : (u B : ℕ) (r : List ℕ) (p : Parts) → Opened u B r p → (q x : ℕ) → x ≤ p.cut → (bits : List ℕ) (s w : Option ℕ) → bits ≡ bits_of r
    → s ≡ some_slot (next_bit bits x (p.cut + 1 - x)) → ((v : ℕ) → s ≡ some_slot v → w ≡ some_slot (or_behind (listed u B r) 0 v))
    → record { told = w; finger = q; looks = 0; codes = 0 } ≡ reached (tried (listed u B r) q x)
unfolding listed
by_bits u B r p o q x h bits s w b e f =
    let c = cut_is u B r p o in
    let g : s ≡ some_slot (next_bit (bits_of r) x (cut_of r + 1 - x)) = rw (b, c) at e in
    rw (f _ g, try_bit (listed u B r) q x (rw (← c) h))

-- a search ends at a block, or before the first
pub j_within : (es : List ℕ) (q x m : ℕ) (t : Found) → t ≡ found (searched (entry_of 0 es) x m q) → q ≤ m → t.j ≤ m
j_within es q x m t is h = rw is (search_below (entry_of 0 es) x m q h)

-- above the cut c of a list with m blocks, t is what the search gave
module _ (l : Listed) (q x c m : ℕ) (es : List ℕ) (isC : c ≡ l.cut) (isM : m ≡ l.m) (isE : es ≡ l.entries) (t : Found)
    (is : t ≡ found (searched (entry_of 0 es) x m q)) (h : c < x) where
  led : t ≡ found (searched (entry_of l.cut l.entries) x l.m q)
  led = is ∙ rw (isE, isM) (ap found (search_alike (entry_of 0 l.entries) (entry_of l.cut l.entries) x (alike l.cut l.entries) l.m q))

  so : (b : Seek) (w : Option ℕ) → b ≡ seek_in l.blocks x t.j → w ≡ some_slot (or_behind l t.j b.slot)
      → record { told = w; finger = t.j; looks = t.looks; codes = b.codes } ≡ reached (tried l q x)
  so b w e n = rw (n, e, led, try_search l q x (rw (← isC) h))

  -- before the first block, that block tells
  pub by_none : (w : Option ℕ) → t.j ≡ 0 → ((v : ℕ) → None ≡ some_slot v → w ≡ some_slot (or_behind l 0 v))
      → record { told = w; finger = 0; looks = t.looks; codes = 0 } ≡ reached (tried l q x)
  by_none w z f =
      let g = so (record { slot = 0; codes = 0 }) w (sym (ap (seek_in l.blocks x) z ∙ none_sought _ x)) (rw z (f 0 refl)) in
      rw z at g

  -- block j tells, or the one behind it
  pub by_block : (s : Stopped) (w : Option ℕ) → s ≡ stopped 0 (seek_in l.blocks x t.j)
      → ((v : ℕ) → s.slot ≡ some_slot v → w ≡ some_slot (or_behind l t.j v))
      → record { told = w; finger = t.j; looks = t.looks; codes = s.codes } ≡ reached (tried l q x)
  by_block s w e f =
      let b = seek_in l.blocks x t.j in
      let c : s.codes ≡ b.codes = ap (λ (s : Stopped). s.codes) e ∙ zero-add b.codes in
      rw c (so b w refl (f b.slot (ap (λ (s : Stopped). s.slot) e)))

-- a candidate's own bit tells whether it is found
pub by_bit : (u B : ℕ) (r : List ℕ) (p : Parts) → Opened u B r p → (q x : ℕ) → x ≤ p.cut → 0 < x → q ≤ p.m → (bits : List ℕ) (t : Bool) → bits ≡ bits_of r
    → t ≡ bit_at bits x → record { told = t; finger = q; looks = 0; codes = 0 } ≡ told x (tried (listed u B r) q x)
unfolding listed
by_bit u B r p o q x l some h bits t b e =
    let low : x ≤ cut_of r = rw (← cut_is u B r p o) l in
    let f = try_found u B r o.some_b o.sound x q (rw (← m_is u B r p o) h) (λ g. absurd (omega arith)) some in
    let d = has_bit u B r o.some_b o.sound x some low in
    let g : t ≡ eqb (tried (listed u B r) q x).slot x = rw b at e ∙ sym d ∙ sym f in
    rw (g, try_bit (listed u B r) q x low)

-- a candidate is found where the next slot is the candidate
pub by_next : (x : ℕ) (n : Step (Option ℕ)) (t : Try) → n ≡ reached t → (g : Bool) → g ≡ eqb t.slot x
    → record { told = g; finger = n.finger; looks = n.looks; codes = n.codes } ≡ told x t
by_next x n t e g f = rw (e, f)

-- by one try from finger 0
module _ (u B : ℕ) (r : List ℕ) (p : Parts) (x : ℕ) (o : Opened u B r p) (some : 0 < x) where
  -- whether the record holds x
  pub holds_told : (t : Step Bool) → t ≡ told x (tried (listed u B r) 0 x) → t.told ≡ has x (contents u B r)
  holds_told t e = ap (λ (t : Step Bool). t.told) e ∙ holds_is u B r o.some_b o.sound x some

  -- its next slot from x on
  pub next_told : (t : Step (Option ℕ)) → t ≡ reached (tried (listed u B r) 0 x) → t.told ≡ some_slot (first_from x (contents u B r))
  next_told t e = ap (λ (t : Step (Option ℕ)). t.told) e ∙ ap some_slot (next_is u B r o.some_b o.sound x some)

-- a slot, or that of the block behind
pub ruleset behind = (slot_stays, no_block, next_block)
