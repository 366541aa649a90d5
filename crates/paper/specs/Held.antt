-- [The index, read from its end; Numbers of refusal] What a list holds, how many slots that is, and what a search in it goes by.
use Rattle.std.specs.Prelude.{ℕ, zero, suc, ◌+◌, length}
use mathlib.Core.List.{List, ◌++◌, flatten}
use Rattle.paper.specs.Tail.{block_count, first_slot}
use Rattle.paper.specs.Record.{cut_of, tail_count, bits_of, behind_bits, entries_of, slots_to_cut, tail_of}

-- the slots up to the cut, then those of the tail. A slot is in the list when it stands here
unfoldable pub contents : ℕ → ℕ → List ℕ → List ℕ
contents u B r = slots_to_cut (cut_of r) (bits_of r) ++ flatten (tail_of u B r).blocks

-- the count of a list: its set bits up to the cut, and n
unfoldable pub count_of : List ℕ → ℕ
count_of r = length (slots_to_cut (cut_of r) (bits_of r)) + tail_count r

-- [The question and its search] A list as it is searched: the cut, the bits, m, the skip entries and the blocks
pub record Listed : Type 0 where
  pub cut : ℕ
  pub bits : List ℕ
  pub m : ℕ
  pub entries : List ℕ
  pub blocks : List (List ℕ)

-- these parts of a record
unfoldable pub listed : ℕ → ℕ → List ℕ → Listed
listed u B r =
    let k = block_count B (tail_count r) in
    record { cut = cut_of r; bits = bits_of r; m = k; entries = entries_of k (behind_bits r); blocks = (tail_of u B r).blocks }

-- what a search compares: s(0), the cut, and then for each block, counted from 1, its first slot
unfoldable pub entry_of : ℕ → List ℕ → ℕ → ℕ
entry_of c es zero = c
entry_of c es (suc b) = first_slot es b
