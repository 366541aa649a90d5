use mathlib.Core.Path.{refl}
use Rattle.marks.proofs.Tables.{no_marks}
use Rattle.marks.proofs.no_marks.Goals as goal

pub returns : goal.returns
returns c = no_marks 16384 refl
