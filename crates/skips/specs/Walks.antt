-- What a walk through one list answers, and what it leaves in the slice.
use Rattle.std.specs.Prelude.{ℕ, ◌≤◌, ◌≡◌, List}
use Rattle.paper.specs.Walk.{Walk}
use Rattle.record.specs.Front.{Front}
use Rattle.skips.specs.declared.Walked.{Walked}

-- r and the slice s are those of the walk w: what it keeps, and its two counts. (Each count is at most that of
-- 1,048,576 candidates with counts of 32 bits: 2 to the power of 52. So sixteen walks fit 64 bits)
pub record Walks (w : Walk) (r : Walked) (s : List ℕ) : Type 0 where
  pub slots : Front w.kept r.count s
  pub looks : r.looks ≡ w.looks
  pub codes : r.codes ≡ w.codes
  pub few_looks : r.looks ≤ 4503599627370496
  pub few_codes : r.codes ≤ 4503599627370496
