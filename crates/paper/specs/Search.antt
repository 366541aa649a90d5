-- [The question and its search] The doubling search for a slot x over entries s(0) .. s(m) from a finger p. It is told by the positions
-- whose entries are held against x, one after the other: as many looks as positions.
use Rattle.std.specs.Prelude.{ℕ, zero, suc, ◌+◌, ◌-◌, ◌*◌, ◌/◌, List, [], ◌∷◌, length, leb, ltb}
use Rattle.paper.specs.Lists.{pick}

-- j, and the positions looked at
pub record Sought : Type 0 where
  pub j : ℕ
  pub seen : List ℕ

-- j with no look
abbrev pub at : ℕ → Sought
at j = record { j = j; seen = [] }

-- a look at position i, and then the rest
abbrev pub saw : ℕ → Sought → Sought
saw i t = record { j = t.j; seen = i ∷ t.seen }

-- the looks
abbrev pub looks_of : Sought → ℕ
looks_of t = length t.seen

-- the middle of lo and hi, rounded down
abbrev pub mid : ℕ → ℕ → ℕ
mid lo hi = lo + (hi - lo) / 2

module _ (s : ℕ → ℕ) (x : ℕ) where
  -- The gap between a good position lo and a failed one hi is halved until they are neighbours; at most f times
  unfoldable pub halved_f : ℕ → ℕ → ℕ → Sought
  halved_f zero lo hi = at lo
  halved_f (suc f) lo hi =
      let i = mid lo hi in
      let good = leb (s i) x in
      let half = saw i (halved_f f (pick good i lo) (pick good hi i)) in
      pick (ltb 1 (hi - lo)) half (at lo)

  -- hi − lo halvings are always enough, since each makes the gap smaller
  unfoldable pub halved : ℕ → ℕ → Sought
  halved lo hi = halved_f (hi - lo) lo hi

  -- The distance d from the finger doubles as long as the entry there is good; at most f times. Then the gap between the last good position lo and
  -- the one that failed is halved. A position past m is not looked at: the gap then goes up to m + 1
  unfoldable pub galloped_f : ℕ → ℕ → ℕ → ℕ → ℕ → Sought
  galloped_f zero m p d lo = halved lo (m + 1)
  galloped_f (suc f) m p d lo =
      let on = galloped_f f m p (2 * d) (p + d) in
      let failed = halved lo (p + d) in
      let looked = saw (p + d) (pick (leb (s (p + d)) x) on failed) in
      let past = halved lo (m + 1) in
      pick (leb (p + d) m) looked past

  -- m doublings are always enough, since each moves on by at least one position
  unfoldable pub galloped : ℕ → ℕ → ℕ → ℕ → Sought
  galloped m p d lo = galloped_f m m p d lo

  -- the search begins at distance 1, the finger itself being good: where p + 1 fails or lies past m, p and p + 1 are neighbours and j is p
  unfoldable pub searched : ℕ → ℕ → Sought
  searched m p = galloped m p 1 p
