-- [What is built] The small program: the bytes that it prints for a file (none: it is missing) and a text.
use Rattle.std.specs.Prelude.{ℕ, zero, suc, ◌+◌, ◌/◌, ◌%◌, length, ltb, eqb}
use Rattle.std.proofs.Math.Option.{Option, none, some}
use mathlib.Core.List.{List, [], ◌∷◌, ◌++◌, map, flatten}
use Rattle.paper.specs.Lists.{pick}
use Rattle.paper.specs.Line.{Line, read_line}
use Rattle.paper.specs.Line.Line.{usage, question}
use Rattle.paper.specs.Ask.{ask_answer, answer_slots}
use Rattle.paper.specs.declared.Answer.{Answer}

-- n in decimal, put before the digits ds: at most f + 1 digits
unfoldable pub decimal_f : ℕ → ℕ → List ℕ → List ℕ
decimal_f zero n ds = (0x30 + n % 10) ∷ ds
decimal_f (suc f) n ds = let more = decimal_f f (n / 10) ((0x30 + n % 10) ∷ ds) in pick (ltb n 10) ((0x30 + n) ∷ ds) more

-- twenty digits hold any number that is printed
unfoldable pub decimal : ℕ → List ℕ
decimal n = decimal_f 19 n []

-- four numbers of the answer on the first line, and then the slots, a line for each
unfoldable pub printed : Answer → List ℕ → List ℕ
printed a slots =
    decimal a.number ++ 0x20 ∷ decimal a.place ++ 0x20 ∷ decimal a.looks ++ 0x20 ∷ decimal a.codes ++ 0x0a ∷
    flatten (map (λ x. decimal x ++ 0x0a ∷ []) slots)

-- a question is answered with room for 16,384 slots; a refusal has no slots to print
unfoldable pub replied : List ℕ → ℕ → List ℕ → List ℕ
replied file way names =
    let a = ask_answer file way names 16384 in
    let slots = answer_slots file names in
    printed a (pick (eqb a.number 0) slots [])

-- the word `usage` where the text is no question
unfoldable pub on_line : Line → List ℕ → List ℕ
on_line usage file = 0x75 ∷ 0x73 ∷ 0x61 ∷ 0x67 ∷ 0x65 ∷ 0x0a ∷ []
on_line (question way names) file = replied file way names

-- the word `file` where the file is missing or over 65,536 bytes, which is judged before the text
abbrev pub no_file : List ℕ
no_file = 0x66 ∷ 0x69 ∷ 0x6c ∷ 0x65 ∷ 0x0a ∷ []

-- everything that the program prints
unfoldable pub program : Option (List ℕ) → List ℕ → List ℕ
program none text = no_file
program (some file) text = let reply = on_line (read_line text) file in pick (ltb 65536 (length file)) no_file reply
