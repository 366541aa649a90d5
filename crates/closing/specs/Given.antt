-- What closing goes by on its way: all its refusals before the lists.
use Rattle.std.specs.Prelude.{ℕ, List, length}
use Rattle.paper.specs.Refusal.{accepted, fault1, fault4, fault4k, fault12, finished, starts_fault}
use Rattle.paper.specs.Close.{start_in}
use Rattle.paper.specs.declared.Verdict.{Verdict}

-- 1, 12 and 5, in a buffer of so many bytes
unfoldable pub room_fault : ℕ → ℕ → List ℕ → Verdict
room_fault room D starts =
    let k = length starts in
    fault1 (finished D k) (fault12 room (finished D k) (starts_fault (start_in starts D) k accepted))

-- and 4 before them
unfoldable pub given_fault : ℕ → ℕ → ℕ → ℕ → List ℕ → Verdict
given_fault room u B D starts = fault4 u B (fault4k (length starts) (room_fault room D starts))
