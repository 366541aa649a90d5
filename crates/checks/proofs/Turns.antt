-- What a glance accepts is what the exact reading answers.
use Rattle.std.specs.Prelude.{ℕ, ◌≤◌, Option, Some, None, Ok, IfSome}
use mathlib.Core.Path.{◌≡◌}
use Rattle.paper.specs.Block.{Block}
use Rattle.quick.proofs.Accepting.{Good}
use Rattle.codes.specs.InBlock.{told, checked}
use Rattle.checks.specs.Glanced.{Accepts}

-- a block that is read without a fault
pub good_is : (first x : ℕ) (b : Block) → Good first x b → told (Ok x) ≡ checked first b
good_is first x b g = rw (g.fault, g.last)

-- a last slot that is told where it is not above u
pub up_to_is : (u first last : ℕ) (b : Block) (seen : Option ℕ) → IfSome seen (λ x. (x ≡ last) × (x ≤ u)) → (last ≤ u → Good first last b) → Accepts seen first b
up_to_is u first last b None told good = tt
up_to_is u first last b (Some x) told good = rw told.0 (good_is first last b (good (rw told.0 at told.1)))
