-- [The index, read from its end] The trailer, the directory and the records of an index.
use Rattle.std.specs.Prelude.{ℕ, ◌+◌, ◌-◌, ◌*◌, List, length, ltb}
use Rattle.paper.specs.Lists.{pick}
use Rattle.paper.specs.Bytes.{u32_at, part}
use Rattle.paper.specs.Held.{contents}

-- the number that stands d bytes before the end. All of the trailer and the directory is found so: the last bytes alone tell it
unfoldable pub from_end : List ℕ → ℕ → ℕ
from_end bs d = u32_at bs (length bs - d)

-- The trailer: the edition, four numbers more, and the tag (Refusal)
abbrev pub edition_of : List ℕ → ℕ
edition_of bs = from_end bs 24

-- the highest slot
abbrev pub u_of : List ℕ → ℕ
u_of bs = from_end bs 20

-- B, the length of a block
abbrev pub block_length : List ℕ → ℕ
block_length bs = from_end bs 16

-- how many lists there are
abbrev pub k_of : List ℕ → ℕ
k_of bs = from_end bs 12

-- D, where the directory starts and the records end
abbrev pub d_of : List ℕ → ℕ
d_of bs = from_end bs 8

-- where record i starts: k starts stand before the trailer. Behind the last record lies D
unfoldable pub start_of : List ℕ → ℕ → ℕ
start_of bs i = pick (ltb i (k_of bs)) (from_end bs (24 + 4 * (k_of bs - i))) (d_of bs)

-- record i, given where each record starts: it ends where the next one starts
abbrev pub record_in : List ℕ → (ℕ → ℕ) → ℕ → List ℕ
record_in bs start i = part bs (start i) (start (i + 1))

-- record i of an index
abbrev pub record_of : List ℕ → ℕ → List ℕ
record_of bs i = record_in bs (start_of bs) i

-- the slots that list i holds
unfoldable pub held : List ℕ → ℕ → List ℕ
held bs i = contents (u_of bs) (block_length bs) (record_of bs i)
