-- [Numbers of refusal] Looking at an index: 1 to 5 of the index as a whole, then list by list.
use Rattle.std.specs.Prelude.{ℕ, zero, suc, ◌+◌, ◌≡◌, List, length}
use Rattle.paper.specs.Record.{record_fault}
use Rattle.paper.specs.Refusal.{verdict, accepted, or_else, fault1, fault2, fault3, fault4, fault4k, fault5}
use Rattle.paper.specs.Index.{edition_of, u_of, block_length, k_of, d_of, start_of, record_in}
use Rattle.paper.specs.declared.Verdict.{Verdict}

-- 3 to 5, of an index of some size that ends in bs: what its numbers say
abbrev pub numbers_fault : List ℕ → ℕ → Verdict
numbers_fault bs size =
    fault3 (edition_of bs) (fault4 (u_of bs) (block_length bs) (fault4k (k_of bs) (fault5 size (d_of bs) (k_of bs) (start_of bs) accepted)))

-- 1 to 5
unfoldable pub frame_fault : List ℕ → ℕ → Verdict
frame_fault bs size = fault1 size (fault2 bs (numbers_fault bs size))

-- the test of list i, whose record is r: 6 to 9 and 17, the place being the list
abbrev pub list_fault : ℕ → ℕ → ℕ → List ℕ → Verdict
list_fault u B i r = verdict (record_fault u B (length r) r) i

-- k lists from list i on, the first fault found
unfoldable pub lists_fault : (ℕ → List ℕ → Verdict) → List ℕ → (ℕ → ℕ) → ℕ → ℕ → Verdict
lists_fault test bs start zero i = accepted
lists_fault test bs start (suc k) i = let later = lists_fault test bs start k (i + 1) in or_else (test i (record_in bs start i)) later

-- all lists of an index
abbrev pub in_lists : List ℕ → Verdict
in_lists bs = lists_fault (list_fault (u_of bs) (block_length bs)) bs (start_of bs) (k_of bs) 0

-- the whole index
unfoldable pub look : List ℕ → Verdict
look bs = let lists = in_lists bs in or_else (frame_fault bs (length bs)) lists

-- the promise of looking
abbrev pub MeetsLook : List ℕ → Verdict → Type 0
MeetsLook index answer = answer ≡ look index
