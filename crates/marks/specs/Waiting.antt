-- A merge on its way through the slots behind the cut: which are still to come, and what the candidates come to.
use Rattle.std.specs.Prelude.{ℕ, ◌+◌, ◌*◌, ◌≤◌, ◌<◌, ◌≡◌, List, ◌++◌, length, take}
use Rattle.paper.specs.Lists.{has, keep}
use Rattle.paper.specs.Bytes.{part, u32_at}
use Rattle.meaning.proofs.Rising.{Ascends}
use Rattle.record.specs.declared.Parts.{Parts}
use Rattle.record.specs.declared.held.Held.{Held}
use Rattle.plain.specs.declared.Merged.{Merged}
use Rattle.record.proofs.Opening.{slots_from}
use Rattle.marks.specs.Marks.{Clear}

-- the candidates that stand kept at the front of the slice s, and those from `next` on that are slots
abbrev pub whole : List ℕ → ℕ → ℕ → ℕ → List ℕ → List ℕ
whole slots count kept next s = take kept s ++ keep (λ x. has x slots) (part s next count)

-- the candidates come to w. Those left, and the slots that are still to come, are above some floor, and no slot above it is marked in the table t
pub record Waits (u : ℕ) (slots rest w t : List ℕ) (count kept next : ℕ) (s : List ℕ) : Type 0 where
  pub floor : ℕ
  pub low : kept ≤ next
  pub within : next ≤ count
  pub room : count ≤ length s
  pub rise : Ascends u floor (part s next count)
  pub clear : Clear (floor + 1) t
  pub ahead : (x : ℕ) → floor < x → has x slots ≡ has x rest
  pub above : Ascends u floor rest
  pub same : whole slots count kept next s ≡ w

-- the slots of an opened record behind the cut, from block `nth` on
abbrev pub from_block : Held → ℕ → List ℕ
from_block h nth = slots_from h.parts.u h.parts.block h.rec.now nth

-- what a merge comes to that is at m: those of all blocks are slots
abbrev pub comes_to : Held → Merged → List ℕ → List ℕ
comes_to h m s = whole (from_block h 0) (length s) m.kept m.next s

-- it is at m: the slots of block `nth` and the blocks behind it are still to come
abbrev pub AtBlock : Held → ℕ → List ℕ → List ℕ → Merged → List ℕ → Type 0
AtBlock h nth w t m s = Waits h.parts.u (from_block h 0) (from_block h nth) w t (length s) m.kept m.next s

-- the slots of block `nth` are all below x: the next one begins with x or below it
pub record Below (p : Parts) (r : List ℕ) (nth x : ℕ) : Type 0 where
  pub further : nth + 1 < p.m
  pub low : u32_at r (p.from + 8 * (nth + 1)) ≤ x
