-- The search, the block and one candidate, as code goes through them: one law for each way out and one for a turn of the loop.
use Prim.Native.Nat.{ℕ, zero, suc, ◌+◌, ◌-◌, ◌*◌, ◌≤◌, ◌<◌}
use mathlib.Core.Path.{◌≡◌, sym, ap, ◌∙◌}
use mathlib.Core.List.{List, []}
use native.Mathlib.Omega.{arith}
use lib.ListN.{get_or}
use Rattle.paper.specs.Bytes.{u32_at}
use Rattle.paper.specs.Record.{tail_of}
use Rattle.paper.specs.Held.{listed, entry_of}
use Rattle.paper.specs.Search.{Sought, saw, mid, halved, galloped, searched}
use Rattle.paper.specs.Walk.{seek, seek_in}
use Rattle.laws.proofs.Searches.{entry_at, halve_one, halve_up, halve_down, halve_few, gallop_past, gallop_fail, gallop_good}
use Rattle.codes.specs.declared.Stopped.{Stopped}
use Rattle.codes.specs.declared.block.Block.{Block}
use Rattle.codes.specs.InBlock.{stopped, read_block}
use Rattle.record.specs.Opened.{block_slots}
use Rattle.search.specs.declared.Found.{Found}
use Rattle.search.specs.Told.{found}

-- an entry
pub entry_told : (es : List ℕ) (j v : ℕ) → 1 ≤ j → v ≡ u32_at es (8 * (j - 1)) → v ≡ entry_of 0 es j
entry_told es j v h e = e ∙ sym (entry_at 0 es j h)

-- n looks more
abbrev pub plus : ℕ → Found → Found
plus n r = record { j = r.j; looks = n + r.looks }

counted : (n i : ℕ) (t : Sought) → plus (n + 1) (found t) ≡ plus n (found (saw i t))
counted n i t = ap {B = Found} (λ (k : ℕ). record { j = t.j; looks = k }) (omega arith)

none : (r : Found) → plus 0 r ≡ r
none r = ap {B = Found} (λ (k : ℕ). record { j = r.j; looks = k }) (omega arith)

module _ (s : ℕ → ℕ) (x lo hi : ℕ) where
  -- neighbours: nothing is looked at
  pub narrow : hi - lo ≤ 1 → record { j = lo; looks = 0 } ≡ found (halved s x lo hi)
  narrow h = ap found (sym (halve_one s x lo hi h))

  -- halving makes at most hi − lo looks
  pub few : (r : Found) → r ≡ found (halved s x lo hi) → r.looks ≤ hi - lo
  few r e = rw e (halve_few s x lo hi)

  module _ (v : ℕ) (r : Found) (h : 1 < hi - lo) (e : v ≡ s (mid lo hi)) where
    looked : (t : Sought) (a : Found) → a ≡ plus 1 r → r ≡ found t → halved s x lo hi ≡ saw (mid lo hi) t → a ≡ found (halved s x lo hi)
    looked t a k q g = k ∙ ap (plus 1) q ∙ counted 0 (mid lo hi) t ∙ none (found (saw (mid lo hi) t)) ∙ ap found (sym g)

    module _ (a : Found) (k : a ≡ plus 1 r) where
      -- the middle is not above x
      pub upper : v ≤ x → r ≡ found (halved s x (mid lo hi) hi) → a ≡ found (halved s x lo hi)
      upper b q = looked _ a k q (halve_up s x lo hi h (rw e at b))

      -- it is
      pub lower : x < v → r ≡ found (halved s x lo (mid lo hi)) → a ≡ found (halved s x lo hi)
      lower b q = looked _ a k q (halve_down s x lo hi h (rw e at b))

-- Doubling: n looks are made, and what is left of the search goes on from distance d, lo being the last good position
pub record Head (s : ℕ → ℕ) (x m p d lo n : ℕ) : Type 0 where
  pub some : 1 ≤ d
  pub far : d ≤ 2 * m + 1
  pub ahead : lo < p + d
  pub within : lo ≤ m
  pub few : n + p ≤ lo
  pub same : plus n (found (galloped s x m p d lo)) ≡ found (searched s x m p)

module _ (s : ℕ → ℕ) (x m p : ℕ) where
  -- no look is made
  pub begin : p ≤ m → Head s x m p 1 p 0
  unfolding searched
  begin l = record { some = omega arith; far = omega arith; ahead = omega arith; within = l; few = omega arith; same = none _ }

  module _ (d lo n : ℕ) (h : Head s x m p d lo n) where
    go : (t : Sought) → galloped s x m p d lo ≡ t → plus n (found t) ≡ found (searched s x m p)
    go t e = ap (λ (t : Sought). plus n (found t)) (sym e) ∙ h.same

    -- past m: the rest is halved
    pub ended : (r w : Found) → w ≡ plus n r → m - p < d → p ≤ m → r ≡ found (halved s x lo (m + 1)) → w ≡ found (searched s x m p)
    ended r w k f l q = k ∙ ap (plus n) q ∙ go _ (gallop_past s x m p d lo h.some (omega arith))

    module _ (v : ℕ) (e : v ≡ s (p + d)) (a : d ≤ m - p) (l : p ≤ m) where
      look : (t : Sought) → galloped s x m p d lo ≡ saw (p + d) t → plus (n + 1) (found t) ≡ found (searched s x m p)
      look t g = counted n (p + d) t ∙ go (saw (p + d) t) g

      -- an entry above x: what lies before it is halved
      pub failed : (r w : Found) → w ≡ plus (n + 1) r → x < v → r ≡ found (halved s x lo (p + d)) → w ≡ found (searched s x m p)
      failed r w k b q = k ∙ ap (plus (n + 1)) q ∙ look _ (gallop_fail s x m p d lo h.some (omega arith) (rw e at b))

      -- a good entry: twice as far
      pub turn : v ≤ x → Head s x m p (2 * d) (p + d) (n + 1)
      turn b =
          let f = h.few in
          let z = h.ahead in
          let o = h.some in
          let g = gallop_good s x m p d lo h.some (omega arith) (rw e at b) in
          record { some = omega arith; far = omega arith; ahead = omega arith; within = omega arith; few = omega arith; same = look _ g }

-- block j, read up to x as the definition says
pub block_told : (u B : ℕ) (r : List ℕ) (j x : ℕ) (b : Block) (t : Stopped) → 1 ≤ j → get_or (tail_of u B r).blocks (j - 1) [] ≡ block_slots b
    → t ≡ stopped 0 (seek x b.first (read_block b).slots) → t ≡ stopped 0 (seek_in (listed u B r).blocks x j)
unfolding seek_in listed
block_told u B r zero x b t l is e = absurd (omega arith)
block_told u B r (suc j) x b t l is e = let n : suc j - 1 ≡ j = omega arith in let s = rw n at is in rw s e
