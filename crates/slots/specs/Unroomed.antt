-- What asking goes by on its way: all refusals of a question but that for its room, and the answer of a refusal.
use Rattle.std.specs.Prelude.{ℕ, List, replicate}
use Rattle.paper.specs.Refusal.{accepted, or_else, fault10, fault11, fault14}
use Rattle.paper.specs.Index.{k_of}
use Rattle.paper.specs.Look.{look}
use Rattle.paper.specs.declared.Verdict.{Verdict}
use Rattle.paper.specs.declared.Answer.{Answer}

-- the index, then 14, 10, 11
unfoldable pub unroomed : List ℕ → ℕ → List ℕ → Verdict
unroomed index way names = let question = fault14 way (fault10 names (fault11 (k_of index) names accepted)) in or_else (look index) question

-- a number and a place, and nothing counted, in no place either
abbrev pub refusal : ℕ → ℕ → Answer
refusal number place = record { number = number; place = place; count = 0; looks = 0; codes = 0; looks16 = replicate 16 0; codes16 = replicate 16 0 }
