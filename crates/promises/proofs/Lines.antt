-- WHAT IS PROMISED of the text that the small program takes its question from: which texts are questions, and of which way and names. Every
-- statement has a name and its meaning in plain words; the line behind it is its proof, which cites another file. What a text spells is in LineTexts.
-- Beside it a reader needs, of crate paper, only that a line is a question or `usage` (Line). `Each P xs`: P holds of each of the list xs.
use Prim.Native.Nat.{ℕ, ◌≤◌, ◌<◌}
use mathlib.Core.Path.{◌≡◌}
use mathlib.Core.Logic.{◌↔◌}
use mathlib.Core.List.{List, ◌∷◌}
use lib.ListN.{length}
use Rattle.paper.specs.Line.{read_line}
use Rattle.paper.specs.Line.Line.{usage, question}
use Rattle.laws.proofs.Lists.{Each}
use Rattle.promises.proofs.LineTexts.{Text, Asks}
use Rattle.promises.proofs.LineReads as reads

-- A text is read as the question of this way and these names exactly when it has at most 256 bytes and spells the way and then the names. The reader
-- gives up at the first digit that takes a number past 4,294,967,295. That is the same as a number that is no u32: digits behind it only make it larger.
abbrev pub LineReads : Type 0
LineReads = (text : List ℕ) (way : ℕ) (names : List ℕ) → (read_line text ≡ question way names) ↔ Asks text way names

pub line_reads : LineReads
line_reads = reads.reads

-- It gives `usage` exactly when it is no such text, whatever the way and the names.
abbrev pub LineUsage : Type 0
LineUsage = (text : List ℕ) → (read_line text ≡ usage) ↔ ((way : ℕ) (names : List ℕ) → ¬ (Asks text way names))

pub line_usage : LineUsage
line_usage = reads.refuses

-- A text of any length spells at most one list of numbers, so it has one way and one list of names.
abbrev pub LineOne : Type 0
LineOne = (text ns ms : List ℕ) → Text text ns → Text text ms → ns ≡ ms

pub line_one : LineOne
line_one = reads.one_reading

-- The way and the names of a question are u32 numbers.
abbrev pub LineWords : Type 0
LineWords =
    (text : List ℕ) (way : ℕ) (names : List ℕ) → read_line text ≡ question way names → Each (λ x. x < 4294967296) (way ∷ names)

pub line_words : LineWords
line_words = reads.all_words

-- A question has at most 127 names: the way and each name take a digit, and a blank stands between any two.
abbrev pub LineFew : Type 0
LineFew = (text : List ℕ) (way : ℕ) (names : List ℕ) → read_line text ≡ question way names → length names ≤ 127

pub line_few : LineFew
line_few = reads.few_names
