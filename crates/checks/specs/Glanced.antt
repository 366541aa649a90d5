-- What a glance at the codes of a block may answer.
use Rattle.std.specs.Prelude.{ℕ, ◌≡◌, Option, IfSome, Ok}
use Rattle.paper.specs.Block.{Block}
use Rattle.codes.specs.InBlock.{told, checked}

-- the last slot, where the block is read without a fault: that is what the exact check answers. Nothing is said where the glance will not do
abbrev pub Accepts : Option ℕ → ℕ → Block → Type 0
Accepts seen first b = IfSome seen (λ last. told (Ok last) ≡ checked first b)
