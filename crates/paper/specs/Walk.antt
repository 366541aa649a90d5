-- [The question and its search; order 8] The next slot of a list from a slot on, and candidates tried in one list after the other: which are kept, and
-- what that costs in looks and codes.
use Rattle.std.specs.Prelude.{ℕ, zero, suc, ◌+◌, ◌-◌, List, [], ◌∷◌, get_or, leb, ltb, eqb}
use Rattle.paper.specs.Lists.{pick}
use Rattle.paper.specs.Record.{next_bit}
use Rattle.paper.specs.Held.{Listed, entry_of}
use Rattle.paper.specs.Search.{searched, looks_of}

-- Reading in a block stops at its first slot that is not below x: that slot (0: the block ran out), and the codes that it took to get there
pub record Seek : Type 0 where
  pub slot : ℕ
  pub codes : ℕ

-- it stops at y, the last slot read
abbrev pub stop_at : ℕ → ℕ → Seek
stop_at x y = record { slot = pick (leb x y) y 0; codes = 0 }

-- one code more was read
abbrev pub more : Seek → Seek
more t = record { slot = t.slot; codes = 1 + t.codes }

-- y is the slot read last and zs are those behind it: each of them costs a code
unfoldable pub seek : ℕ → ℕ → List ℕ → Seek
seek x y [] = stop_at x y
seek x y (z ∷ zs) = let on = more (seek x z zs) in pick (leb x y) (stop_at x y) on

-- in a block, whose first slot costs no code
abbrev pub seek_block : ℕ → List ℕ → Seek
seek_block x [] = record { slot = 0; codes = 0 }
seek_block x (y ∷ ys) = seek x y ys

-- the j-th block, counted from 1; where j is 0 nothing is read
unfoldable pub seek_in : List (List ℕ) → ℕ → ℕ → Seek
seek_in blocks x zero = seek_block x []
seek_in blocks x (suc b) = seek_block x (get_or blocks b [])

-- [Order 8] the slot s; where it is 0, since the bits or block j ran out or j is 0, the first slot of the block behind j, which costs
-- nothing; 0: there is no such block
unfoldable pub or_behind : Listed → ℕ → ℕ → ℕ
or_behind l j s =
    let first = pick (ltb j l.m) (entry_of l.cut l.entries (suc j)) 0 in
    pick (eqb s 0) first s

-- One slot x, sought in one list with the finger at p: the next slot (0: there is none), which in a sound list is its least that is not below x; and
-- what it took to get there. x is found where the next slot is x itself
pub record Try : Type 0 where
  pub slot : ℕ
  pub finger : ℕ
  pub looks : ℕ
  pub codes : ℕ

-- up to the cut: the bits from x on, with no search, and the finger stays. Above it: the search, whose j is the finger from then on, and block j
unfoldable pub tried : Listed → ℕ → ℕ → Try
tried l p x =
    let t = searched (entry_of l.cut l.entries) x l.m p in
    let b = seek_in l.blocks x t.j in
    let sought : Try = record { slot = or_behind l t.j b.slot; finger = t.j; looks = looks_of t; codes = b.codes } in
    let near = next_bit l.bits x (l.cut + 1 - x) in
    let tested : Try = record { slot = or_behind l 0 near; finger = p; looks = 0; codes = 0 } in
    pick (leb x l.cut) tested sought

-- The walk of all candidates through one list
pub record Walk : Type 0 where
  pub kept : List ℕ
  pub looks : ℕ
  pub codes : ℕ

-- candidate x, tried with t, and then the walk w of the others: x is kept where it is found
abbrev pub tally : ℕ → Try → Walk → Walk
tally x t w = record { kept = pick (eqb t.slot x) (x ∷ w.kept) w.kept; looks = t.looks + w.looks; codes = t.codes + w.codes }

-- in ascending order, from finger p on
unfoldable pub walk_list : Listed → ℕ → List ℕ → Walk
walk_list l p [] = record { kept = []; looks = 0; codes = 0 }
walk_list l p (x ∷ xs) = let t = tried l p x in tally x t (walk_list l t.finger xs)

-- a walk for each list: the finger starts at 0 anew, with the candidates that the list before kept
unfoldable pub walks : List Listed → List ℕ → List Walk
walks [] xs = []
walks (l ∷ ls) xs = let w = walk_list l 0 xs in w ∷ walks ls w.kept
