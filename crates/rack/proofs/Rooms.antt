-- The slots of an answer lie within the room that was offered for them.
use Rattle.std.specs.Prelude.{eqb}
use Rattle.std.proofs.Common.{ℕ, ◌-◌, ◌≤◌, Bool, true, false, List, ◌++◌, length, replicate, length-append, arith}
use Rattle.paper.specs.Lists.{pick}
use Rattle.paper.specs.Ask.{MeetsAsk, ask_answer, ask_slice, ask_fault, answer_slots}
use Rattle.paper.specs.declared.Answer.{Answer}

-- they stand at its front
pub count_fits : (index : List ℕ) (way : ℕ) (names before : List ℕ) (a : Answer) (after : List ℕ) → MeetsAsk index way names before a after → a.count ≤ length after
unfolding ask_answer ask_slice
count_fits index way names before a after m =
    rw (m.answers, m.leaves) (go (eqb (ask_fault index way names (length before)).number 0) (answer_slots index names))
  where
    go : (t : Bool) (slots : List ℕ) → pick t (length slots) 0 ≤ length (pick t (slots ++ replicate (length before - length slots) 0) before)
    go true slots = rw (length-append slots (replicate (length before - length slots) 0)) (omega arith)
    go false slots = omega arith
