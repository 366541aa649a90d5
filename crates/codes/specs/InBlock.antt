-- What checking a block and seeking in it answer, in the paper's terms.
use Rattle.std.specs.Prelude.{ℕ, ◌+◌, Result, Ok, Err}
use Rattle.paper.specs.Lists.{last_of, some_slot}
use Rattle.paper.specs.Fault.{number_of}
use Rattle.paper.specs.Block.{Block, read_codes}
use Rattle.paper.specs.Walk.{Seek}
use Rattle.codes.specs.declared.block.Block as known
use Rattle.codes.specs.declared.Misread.{Misread}
use Rattle.codes.specs.declared.Stopped.{Stopped}

-- a fault's number (0: there is none), and the last slot before it
pub record Checked : Type 0 where
  pub fault : ℕ
  pub last : ℕ

-- what a result of the check tells
abbrev pub told : Result ℕ Misread → Checked
told (Ok last) = record { fault = 0; last = last }
told (Err m) = record { fault = number_of m.fault; last = m.last }

-- the first fault, and the last slot before it
abbrev pub checked : ℕ → Block → Checked
checked first b = record { fault = b.fault; last = last_of first b.slots }

-- where it stopped, n codes having been read before
abbrev pub stopped : ℕ → Seek → Stopped
stopped n t = record { slot = some_slot t.slot; codes = n + t.codes }

-- what stands in a block that is known to be well
abbrev pub read_block : known.Block → Block
read_block b = read_codes b.u b.count b.first b.codes.now
