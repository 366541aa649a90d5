-- How far seeking in a block without a fault has come.
use Rattle.std.specs.Prelude.{ℕ, ◌-◌, ◌≤◌, ◌≡◌, List, drop}
use Rattle.paper.specs.Block as paper
use Rattle.paper.specs.Block.{read_codes}
use Rattle.paper.specs.Walk.{seek}
use Rattle.codes.specs.declared.block.Block.{Block}
use Rattle.codes.specs.declared.Stopped.{Stopped}
use Rattle.codes.specs.InBlock.{stopped}
use Rattle.seeks.specs.declared.Reached.{Reached}

-- seeking that answers t: n codes are read and y is the slot read last; the others are left from position p on, without a fault
pub record Head (x u : ℕ) (bs : List ℕ) (count : ℕ) (t : Stopped) (p n y : ℕ) : Type 0 where
  pub few : n ≤ count
  pub low : y ≤ u
  pub sound : (read_codes u (count - n) y (drop p bs)).fault ≡ 0
  pub same : stopped n (seek x y (read_codes u (count - n) y (drop p bs)).slots) ≡ t

-- In a block whose bytes are a code each: what is left to read
abbrev pub left : Block → Reached → paper.Block
left b r = read_codes b.u (b.count - r.codes) r.slot (drop r.codes b.codes.now)

-- what seeking x in it answers
abbrev pub sought : Block → ℕ → Reached → Stopped
sought b x r = stopped r.codes (seek x r.slot (left b r).slots)

-- and that it answers t
abbrev pub Leads : Block → ℕ → Stopped → Reached → Type 0
Leads b x t r = Head x b.u b.codes.now b.count t r.codes r.codes r.slot
