-- A record without a fault, opened: where its parts lie, and what its blocks hold.
use Rattle.std.specs.Prelude.{ℕ, ◌+◌, ◌*◌, ◌≤◌, ◌<◌, ◌≡◌, List, ◌∷◌, length}
use Rattle.paper.specs.Bytes.{part}
use Rattle.paper.specs.Tail.{block_count}
use Rattle.paper.specs.Record.{cut_of, tail_count, bit_length, record_fault}
use Rattle.codes.specs.declared.block.Block.{Block}
use Rattle.codes.specs.InBlock.{read_block}
use Rattle.record.specs.declared.Parts.{Parts}

-- the parts of a record, as its head says
abbrev pub parts_of : ℕ → ℕ → List ℕ → Parts
parts_of u B r =
    let m = block_count B (tail_count r) in
    let from = 12 + bit_length (cut_of r) in
    record { u = u; block = B; cut = cut_of r; n = tail_count r; m = m; from = from; to = from + 8 * m }

-- p are the parts of the record r, which has no fault: and so they lie within it, and its slots within u
pub record Opened (u B : ℕ) (r : List ℕ) (p : Parts) : Type 0 where
  pub some_b : 0 < B
  pub small : u ≤ 1048576
  pub sound : record_fault u B (length r) r ≡ 0
  pub is : p ≡ parts_of u B r
  pub slots : p.cut + p.n ≤ u
  pub blocks : p.m ≤ p.n
  pub head : 12 ≤ p.from
  pub span : p.to ≡ p.from + 8 * p.m
  pub inside : p.to ≤ length r

-- xs are the bytes of r from `start` up to `end`
pub record PartOf (xs r : List ℕ) : Type 0 where
  pub start : ℕ
  pub end : ℕ
  pub forward : start ≤ end
  pub within : end ≤ length r
  pub are : xs ≡ part r start end

-- the slots of a block: its first one, and those that its codes give
abbrev pub block_slots : Block → List ℕ
block_slots b = b.first ∷ (read_block b).slots
