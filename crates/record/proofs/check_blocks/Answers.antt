use native.Mathlib.Nat.{le_of_lt}
use Rattle.laws.proofs.Faults.{fault_on}
use Rattle.record.proofs.Turns.{turns, bad_block, turn, block_left}
use Rattle.record.proofs.check_blocks.Goals.{then-end-start-via-then-end-start, then-end-start-via-else-end-start+then-len-end, then-first-prev-via-then-first-prev, then-first-prev-via-else-first-prev+then-u-first}
use Rattle.record.proofs.check_blocks.Goals as goal

pub returns-then-end-start : goal.returns-then-end-start
returns-then-end-start c =
    elim c.then-end-start.branch [
      | then-end-start-via-then-end-start w ↦ search turns
      | then-end-start-via-else-end-start+then-len-end w ↦ search turns
    ]

pub returns-then-first-prev : goal.returns-then-first-prev
returns-then-first-prev c =
    elim c.then-first-prev.branch [
      | then-first-prev-via-then-first-prev w ↦ search turns
      | then-first-prev-via-else-first-prev+then-u-first w ↦ search turns
    ]

pub returns-in_err-prev : goal.returns-in_err-prev
returns-in_err-prev c =
    let bad = bad_block c.loop-nth.invariant in
    rw (fault_on c.from_residual.result _ c.from_residual.ensures.1) (search (bad, c.in_err-prev.ensures, le_of_lt, block_left))

pub loop-nth-preserved : goal.loop-nth-preserved
loop-nth-preserved c = let next = turn c.loop-nth.invariant in search (next, c.in_ok-prev.ensures, le_of_lt, block_left)
