-- A row of a table: what is asked of an operation, and its whole answer, every buffer included. A table holds when no row of it fails.
use Prim.Native.Nat.{ℕ, ◌-◌}
use mathlib.Core.Path.{◌≡◌, refl, ◌∙◌}
use mathlib.Core.Bool.{Bool, true, false, ◌&&◌}
use mathlib.Core.Option.{Option}
use mathlib.Core.List.{List, [], ◌∷◌, ◌++◌, map}
use lib.ListN.{length, replicate}
use lib.Dec.{eqb}
use Rattle.paper.specs.Lists.{pick, bit_of, same}
use Rattle.paper.specs.Code.{code_of, on_code, code_bytes}
use Rattle.paper.specs.Record.{record_fault}
use Rattle.paper.specs.Held.{Listed, listed}
use Rattle.paper.specs.Index.{held}
use Rattle.paper.specs.Look.{look}
use Rattle.paper.specs.Search.{searched}
use Rattle.paper.specs.Walk.{Try, tried}
use Rattle.paper.specs.Ask.{ask_answer, ask_slice}
use Rattle.paper.specs.OneList.{test_answer, next_answer, count_answer, part_answer, lent}
use Rattle.paper.specs.Write.{write_answer, write_buffer}
use Rattle.paper.specs.Reserve.{bound_answer}
use Rattle.paper.specs.Close.{close_answer, close_buffer}
use Rattle.paper.specs.Line.{Line, read_line}
use Rattle.paper.specs.Line.Line.{usage, question}
use Rattle.paper.specs.Program.{program}

pub data Row : Type 0 where
  -- an index: number place
  looking : (index answer : List ℕ) → Row
  -- an index, the way, the names, the slice before: number place count looks codes; then looks and codes by position, as many as are told, the rest
  -- of the sixteen places being 0; and the slice after
  asking : (index : List ℕ) (way : ℕ) (names before answer looks codes after : List ℕ) → Row
  -- an index, a name, a slot: number place yes
  testing : (index : List ℕ) (name slot : ℕ) (answer : List ℕ) → Row
  -- an index, a name, a slot: number place next
  following : (index : List ℕ) (name slot : ℕ) (answer : List ℕ) → Row
  -- an index, a name: number place count
  counting : (index : List ℕ) (name : ℕ) (answer : List ℕ) → Row
  -- an index, a name: number place start length, and the lent bytes
  lending : (index : List ℕ) (name : ℕ) (answer bytes : List ℕ) → Row
  -- u, B, the cut, the slots, the buffer before: number place length, and the buffer after
  writing : (u B cut : ℕ) (slots before answer after : List ℕ) → Row
  -- u, B, the cut, how many slots above it: number place bytes
  bounding : (u B cut n : ℕ) (answer : List ℕ) → Row
  -- the buffer before, u, B, D, the starts: number place length, and the buffer after
  closing : (before : List ℕ) (u B D : ℕ) (starts answer after : List ℕ) → Row
  -- the program's text: the way and the names, nothing for usage
  lining : (text numbers : List ℕ) → Row
  -- the program's file and text: what it prints
  running : (file : Option (List ℕ)) (text output : List ℕ) → Row
  -- what list i of an index holds
  holding : (index : List ℕ) (i : ℕ) (slots : List ℕ) → Row
  -- a value and its code: written so, and read back with nothing left
  coding : (value : ℕ) (bytes : List ℕ) → Row
  -- bytes that begin with no code
  uncoding : (bytes : List ℕ) → Row
  -- a record by itself, with u and B: its number
  checking : (u B : ℕ) (bytes : List ℕ) (number : ℕ) → Row
  -- entries s(0) .. s(m), the finger, the slot: j, and the positions looked at in their order
  searching : (s : ℕ → ℕ) (m finger x j : ℕ) (seen : List ℕ) → Row
  -- a record with u and B, a finger and slots tried one after the other: the next slot, the finger then, looks and codes of each
  trying : (u B : ℕ) (bytes : List ℕ) (finger : ℕ) (slots nexts fingers looks codes : List ℕ) → Row

-- a lent slice or buffer of n places that hold rubbish
abbrev pub room : ℕ → List ℕ
room n = replicate n 9

abbrev pub line_numbers : Line → List ℕ
line_numbers usage = []
line_numbers (question way names) = way ∷ names

-- slots tried one after the other in a list, from finger p on
unfoldable pub tries : Listed → ℕ → List ℕ → List Try
tries l p [] = []
tries l p (x ∷ xs) = let t = tried l p x in t ∷ tries l t.finger xs

-- sixteen places, of which the first are told
abbrev pub sixteen : List ℕ → List ℕ
sixteen xs = xs ++ replicate (16 - length xs) 0

-- the definitions give the row's answer
unfoldable pub holds : Row → Bool
holds (looking index answer) = let v = look index in same (v.number ∷ v.place ∷ []) answer
holds (asking index way names before answer looks codes after) =
    let a = ask_answer index way names (length before) in
    same (a.number ∷ a.place ∷ a.count ∷ a.looks ∷ a.codes ∷ []) answer && same a.looks16 (sixteen looks) && same a.codes16 (sixteen codes)
    && same (ask_slice index way names before) after
holds (testing index name slot answer) = let a = test_answer index name slot in same (a.number ∷ a.place ∷ bit_of a.yes ∷ []) answer
holds (following index name slot answer) = let a = next_answer index name slot in same (a.number ∷ a.place ∷ a.slot ∷ []) answer
holds (counting index name answer) = let a = count_answer index name in same (a.number ∷ a.place ∷ a.count ∷ []) answer
holds (lending index name answer bytes) =
    let a = part_answer index name in
    same (a.number ∷ a.place ∷ a.start ∷ a.length ∷ []) answer && same (lent index name) bytes
holds (writing u B cut slots before answer after) =
    let a = write_answer u B cut slots (length before) in
    same (a.number ∷ a.place ∷ a.length ∷ []) answer && same (write_buffer u B cut slots before) after
holds (bounding u B cut n answer) = let a = bound_answer u B cut n in same (a.number ∷ a.place ∷ a.bytes ∷ []) answer
holds (closing before u B D starts answer after) =
    let a = close_answer before u B D starts in
    same (a.number ∷ a.place ∷ a.length ∷ []) answer && same (close_buffer before u B D starts) after
holds (lining text numbers) = same (line_numbers (read_line text)) numbers
holds (running file text output) = same (program file text) output
holds (holding index i slots) = same (held index i) slots
holds (coding value bytes) = same (code_bytes value) bytes && on_code (code_of bytes) false λ v r. eqb v value && same r []
holds (uncoding bytes) = same (on_code (code_of bytes) [] λ v r. v ∷ []) []
holds (checking u B bytes number) = eqb (record_fault u B (length bytes) bytes) number
holds (searching s m finger x j seen) = let t = searched s x m finger in eqb t.j j && same t.seen seen
holds (trying u B bytes finger slots nexts fingers looks codes) =
    let ts = tries (listed u B bytes) finger slots in
    same (map (λ (t : Try). t.slot) ts) nexts && same (map (λ (t : Try). t.finger) ts) fingers
    && same (map (λ (t : Try). t.looks) ts) looks && same (map (λ (t : Try). t.codes) ts) codes

-- the labels of the rows that fail
unfoldable pub failing : List (ℕ × Row) → List ℕ
failing [] = []
failing (r ∷ rs) = let rest = failing rs in pick (holds r.1) rest (r.0 ∷ rest)

-- all that a claim over a table opens, beside the definitions and the table
unfoldable pub judged : ℕ
unfolding tries holds failing
judged = 0

-- two tables of which no row fails make one
either : (t : Bool) (n : ℕ) (xs ys : List ℕ) → pick t (xs ++ ys) (n ∷ xs ++ ys) ≡ pick t xs (n ∷ xs) ++ ys
either true n xs ys = refl
either false n xs ys = refl

failing_append : (xs ys : List (ℕ × Row)) → failing (xs ++ ys) ≡ failing xs ++ failing ys
unfolding failing
failing_append [] ys = refl
failing_append (r ∷ rs) ys = rw (failing_append rs ys) (either (holds r.1) r.0 (failing rs) (failing ys))

pub joined : (xs ys : List (ℕ × Row)) → failing xs ≡ [] → failing ys ≡ [] → failing (xs ++ ys) ≡ []
joined xs ys p q = failing_append xs ys ∙ rw (p, q)
