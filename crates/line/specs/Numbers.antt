-- The numbers of a question, as an array of 128 places holds them.
use Rattle.std.specs.Prelude.{ℕ, ◌-◌, ◌≡◌, List, ◌∷◌, ◌++◌, length, replicate}
use Rattle.paper.specs.Line.{Line, read_line}
use Rattle.paper.specs.Line.Line.{usage, question}
use Rattle.line.specs.declared.numbers.Numbers.{Numbers}

-- 0 at every place
unfoldable pub zeros : List ℕ
zeros = replicate 128 0

-- how many numbers a line has, and all places: the way and then the names, and 0 behind them; none of a text that is no question
abbrev pub numbers_of : Line → ℕ × List ℕ
numbers_of usage = (0, zeros)
numbers_of (question way names) =
    let numbers = way ∷ names in
    (length numbers, numbers ++ replicate (128 - length numbers) 0)

-- what is read of a text is its question
abbrev pub MeetsLine : List ℕ → Numbers → Type 0
MeetsLine text r = (r.many, r.values) ≡ numbers_of (read_line text)
