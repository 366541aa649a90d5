use native.Mathlib.Omega.{arith}
use Rattle.laws.proofs.Codes.{ways}
use Rattle.codes.proofs.Standing.{known}
use Rattle.codes.proofs.known_code.Goals as goal

pub returns-then-b-lt128 : goal.returns-then-b-lt128
returns-then-b-lt128 c = (search known, grind (arith, ways))

pub returns : goal.returns
returns c = (search known, grind (arith, ways))
