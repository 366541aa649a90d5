-- A question that is passed on to be answered: its index and its names are good. And the list of one name.
use Rattle.std.specs.Prelude.{ℕ, ◌≤◌, ◌<◌, ◌≡◌, List, length, get_or}
use Rattle.paper.specs.Held.{Listed, listed, contents}
use Rattle.paper.specs.Index.{u_of, block_length, k_of, record_of}
use Rattle.paper.specs.Look.{look}

-- the index is accepted, there are 1 to 16 names, and each of them is below k
pub record Asked (index names : List ℕ) : Type 0 where
  pub looked : (look index).number ≡ 0
  pub some : 1 ≤ length names
  pub few : length names ≤ 16
  pub below : (i : ℕ) → i < length names → get_or names i 0 < k_of index

-- the list of a name, as it is searched
abbrev pub list_named : List ℕ → ℕ → Listed
list_named index name = listed (u_of index) (block_length index) (record_of index name)

-- and the slots that it holds
abbrev pub slots_named : List ℕ → ℕ → List ℕ
slots_named index name = contents (u_of index) (block_length index) (record_of index name)
