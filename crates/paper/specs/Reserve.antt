-- [Order 6] How much room to reserve for a record: the most bytes that it can need, told by u, B, the cut and how many slots of the list lie above it.
use Rattle.std.specs.Prelude.{ℕ, ◌+◌, ◌-◌, ◌*◌, ◌/◌, ◌≡◌}
use Rattle.paper.specs.Tail.{block_count}
use Rattle.paper.specs.Record.{bit_length}
use Rattle.paper.specs.Refusal.{accepted, if_accepted, fault4, fault13n, fault15}
use Rattle.paper.specs.declared.Verdict.{Verdict}
use Rattle.paper.specs.declared.Bound.{Bound}

-- The head, the bits, and 8 bytes for each of m blocks. Each of the n - m slots that begin no block has a code of at least one byte. It has a second byte only where the slot lies
-- 129 or more above the one before it, and a third only where that is 16,385 or more; and all these differences together are at most U
unfoldable pub most_bytes : ℕ → ℕ → ℕ → ℕ → ℕ
most_bytes u B cut n =
    let m = block_count B n in
    let U = u - cut in
    12 + bit_length cut + 8 * m + (n - m) + U / 129 + U / 16385

-- 4 of u and B, 15, and 13 where n is above U
unfoldable pub bound_fault : ℕ → ℕ → ℕ → ℕ → Verdict
bound_fault u B cut n = fault4 u B (fault15 u cut (fault13n (u - cut) n accepted))

-- the answer: so many bytes
unfoldable pub bound_answer : ℕ → ℕ → ℕ → ℕ → Bound
bound_answer u B cut n =
    let v = bound_fault u B cut n in
    let most = most_bytes u B cut n in
    record { number = v.number; place = v.place; bytes = if_accepted v most 0 }

-- the promise of telling the bound
abbrev pub MeetsBound : ℕ → ℕ → ℕ → ℕ → Bound → Type 0
MeetsBound u B cut n answer = answer ≡ bound_answer u B cut n
