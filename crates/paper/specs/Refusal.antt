-- [Numbers of refusal] How a verdict is said, and the rows of the table as links: each has its test, the number and place where the test
-- fails, and `rest`, what follows where it passes. An operation is a chain of links in its own order. (6 to 9 and 17 are said of one record, in
-- Record, Tail and Block.)
use Rattle.std.specs.Prelude.{ℕ, zero, suc, ◌+◌, ◌-◌, ◌*◌, Bool, false, ◌||◌, List, [], ◌∷◌, length, drop, ltb, leb, eqb}
use Rattle.paper.specs.Lists.{pick, same, leading}
use Rattle.paper.specs.declared.Verdict.{Verdict}

-- a number, 0 for yes, and a place, 0 where the row names none
abbrev pub verdict : ℕ → ℕ → Verdict
verdict n p = record { number = n; place = p }

-- no fault
abbrev pub accepted : Verdict
accepted = verdict 0 0

-- a where v accepts, else b: how an answer's counts, a yes-or-no and a buffer go by the verdict
abbrev pub if_accepted : {A : Type 0} → Verdict → A → A → A
if_accepted v a b = pick (eqb v.number 0) a b

-- the first fault: v where it refuses, else w
abbrev pub or_else : Verdict → Verdict → Verdict
or_else v w = if_accepted v w v

-- rest where x lies in lo..hi, else the refusal v
abbrev pub within : ℕ → ℕ → ℕ → Verdict → Verdict → Verdict
within lo hi x v rest = pick (ltb x lo) v (pick (ltb hi x) v rest)

-- 1, of an index of some size
unfoldable pub fault1 : ℕ → Verdict → Verdict
fault1 size rest = within 24 16777216 size (verdict 1 0) rest

-- the last four bytes of every index
abbrev pub tag : List ℕ
tag = 0x53 ∷ 0x4c ∷ 0x4f ∷ 0x54 ∷ []

-- 2, of bytes that end as the index does
unfoldable pub fault2 : List ℕ → Verdict → Verdict
fault2 bs rest = pick (same (drop (length bs - 4) bs) tag) rest (verdict 2 0)

-- 3, of the edition
unfoldable pub fault3 : ℕ → Verdict → Verdict
fault3 edition rest = pick (eqb edition 1) rest (verdict 3 0)

-- 4, of u and B
unfoldable pub fault4 : ℕ → ℕ → Verdict → Verdict
fault4 u B rest = within 1 1048576 u (verdict 4 0) (within 1 128 B (verdict 4 0) rest)

-- 4, of k
unfoldable pub fault4k : ℕ → Verdict → Verdict
fault4k k rest = within 1 4096 k (verdict 4 0) rest

-- the size of an index: the records up to D, the directory of k starts, the trailer
abbrev pub finished : ℕ → ℕ → ℕ
finished D k = D + 4 * k + 24

-- Record i lies from start i up to start (i + 1), and start k is D.
-- Of k records from record i on, one would be shorter than 12 bytes
unfoldable pub too_short : (ℕ → ℕ) → ℕ → ℕ → Bool
too_short start zero i = false
too_short start (suc k) i = ltb (start (i + 1)) (start i + 12) || too_short start k (i + 1)

-- 5, of the starts alone: the first is 0, and no record is too short
unfoldable pub starts_fault : (ℕ → ℕ) → ℕ → Verdict → Verdict
starts_fault start k rest = pick (eqb (start 0) 0) (pick (too_short start k 0) (verdict 5 0) rest) (verdict 5 0)

-- 5, of a whole index: its parts make up its size, and then the starts
unfoldable pub fault5 : ℕ → ℕ → ℕ → (ℕ → ℕ) → Verdict → Verdict
fault5 size D k start rest = let starts = starts_fault start k rest in pick (eqb (finished D k) size) starts (verdict 5 0)

-- 10, of how many names there are
unfoldable pub fault10 : List ℕ → Verdict → Verdict
fault10 names rest = within 1 16 (length names) (verdict 10 0) rest

-- 11, at the first name that is k or more
unfoldable pub fault11 : ℕ → List ℕ → Verdict → Verdict
fault11 k names rest = let good = leading (λ i. ltb i k) names in pick (ltb good (length names)) (verdict 11 good) rest

-- 12, with the room needed
unfoldable pub fault12 : ℕ → ℕ → Verdict → Verdict
fault12 room need rest = pick (ltb room need) (verdict 12 need) rest

-- how many slots at the front rise, each above the one before (the first above prev), and stay within u
unfoldable pub good_slots : ℕ → ℕ → List ℕ → ℕ
good_slots u prev [] = 0
good_slots u prev (x ∷ xs) = pick (leb x prev) 0 (pick (ltb u x) 0 (1 + good_slots u x xs))

-- 13, at the first slot that is not so
unfoldable pub fault13 : ℕ → List ℕ → Verdict → Verdict
fault13 u slots rest = let good = good_slots u 0 slots in pick (ltb good (length slots)) (verdict 13 good) rest

-- 13, of n slots that are to lie above a cut, where only so many are left; the place is 0, since no slot is given
unfoldable pub fault13n : ℕ → ℕ → Verdict → Verdict
fault13n left n rest = pick (ltb left n) (verdict 13 0) rest

-- 14, of the way: 0 is plainly, 1 by skips
unfoldable pub fault14 : ℕ → Verdict → Verdict
fault14 way rest = pick (ltb 1 way) (verdict 14 0) rest

-- 15, of a cut to be written
unfoldable pub fault15 : ℕ → ℕ → Verdict → Verdict
fault15 u cut rest = pick (ltb u cut) (verdict 15 0) rest

-- 16, of a slot that is tested, or from which the next one is asked
unfoldable pub fault16 : ℕ → ℕ → Verdict → Verdict
fault16 u x rest = within 1 u x (verdict 16 0) rest
