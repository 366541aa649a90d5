-- What an exported operation hands over: one number as its result, and the fields of its answer in a lent buffer.
-- The answers themselves are those of the library; nothing is judged here.
use Rattle.std.specs.Prelude.{ℕ, ◌≡◌, List, [], ◌∷◌, ◌++◌, length, take}
use Rattle.paper.specs.Lists.{bit_of, on_front}
use Rattle.paper.specs.Look.{look}
use Rattle.paper.specs.Ask.{ask_answer, ask_slice}
use Rattle.paper.specs.OneList.{test_answer, next_answer, count_answer, part_answer}
use Rattle.paper.specs.Write.{write_answer, write_buffer}
use Rattle.paper.specs.Reserve.{bound_answer}
use Rattle.paper.specs.Close.{close_answer, close_buffer}
use Rattle.paper.specs.declared.Verdict.{Verdict}
use Rattle.paper.specs.declared.Answer.{Answer}
use Rattle.paper.specs.declared.Tested.{Tested}
use Rattle.paper.specs.declared.Next.{Next}
use Rattle.paper.specs.declared.Counted.{Counted}
use Rattle.paper.specs.declared.Written.{Written}
use Rattle.paper.specs.declared.Part.{Part}
use Rattle.paper.specs.declared.Bound.{Bound}

-- the fields of each kind of answer, in the order in which the caller finds them
abbrev pub verdict_fields : Verdict → List ℕ
verdict_fields a = a.number ∷ a.place ∷ []

-- the five numbers of a question, then the sixteen places of looks and the sixteen of codes
abbrev pub answer_fields : Answer → List ℕ
answer_fields a = (a.number ∷ a.place ∷ a.count ∷ a.looks ∷ a.codes ∷ []) ++ a.looks16 ++ a.codes16

-- yes is 1, no is 0
abbrev pub tested_fields : Tested → List ℕ
tested_fields a = a.number ∷ a.place ∷ bit_of a.yes ∷ []

abbrev pub next_fields : Next → List ℕ
next_fields a = a.number ∷ a.place ∷ a.slot ∷ []

abbrev pub counted_fields : Counted → List ℕ
counted_fields a = a.number ∷ a.place ∷ a.count ∷ []

abbrev pub written_fields : Written → List ℕ
written_fields a = a.number ∷ a.place ∷ a.length ∷ []

abbrev pub bound_fields : Bound → List ℕ
bound_fields a = a.number ∷ a.place ∷ a.bytes ∷ []

-- where the lent record lies; number and place are told by counting that list
abbrev pub lent_fields : Part → List ℕ
lent_fields a = a.start ∷ a.length ∷ []

-- a buffer after fields were put to its front: a shorter one takes those that fit, and what stood behind them stays
unfoldable pub fitted : List ℕ → List ℕ → List ℕ
fitted fields before = on_front (take (length before) fields) before

-- a result, and the whole of the buffer that takes the fields
pub record Hands (result : ℕ) (fields before : List ℕ) (r : ℕ) (after : List ℕ) : Type 0 where
  pub returns : r ≡ result
  pub leaves : after ≡ fitted fields before

-- the promises of the exported operations: what each returns is the number of the library's answer, or the length of what is lent; r is
-- the result, out and out' are the buffer of fields before and after
abbrev pub HandsLook : List ℕ → List ℕ → ℕ → List ℕ → Type 0
HandsLook index out r out' = let a = look index in Hands a.number (verdict_fields a) out r out'

abbrev pub HandsTest : List ℕ → ℕ → ℕ → List ℕ → ℕ → List ℕ → Type 0
HandsTest index name slot out r out' = let a = test_answer index name slot in Hands a.number (tested_fields a) out r out'

abbrev pub HandsNext : List ℕ → ℕ → ℕ → List ℕ → ℕ → List ℕ → Type 0
HandsNext index name slot out r out' = let a = next_answer index name slot in Hands a.number (next_fields a) out r out'

abbrev pub HandsCount : List ℕ → ℕ → List ℕ → ℕ → List ℕ → Type 0
HandsCount index name out r out' = let a = count_answer index name in Hands a.number (counted_fields a) out r out'

abbrev pub HandsLend : List ℕ → ℕ → List ℕ → ℕ → List ℕ → Type 0
HandsLend index name out r out' = let a = part_answer index name in Hands a.length (lent_fields a) out r out'

abbrev pub HandsBound : ℕ → ℕ → ℕ → ℕ → List ℕ → ℕ → List ℕ → Type 0
HandsBound u B cut n out r out' = let a = bound_answer u B cut n in Hands a.number (bound_fields a) out r out'

-- those with a further lent buffer promise the whole of it too
pub record HandsAsk (index : List ℕ) (way : ℕ) (names before out : List ℕ) (r : ℕ) (after out' : List ℕ) : Type 0 where
  pub hands : let a = ask_answer index way names (length before) in Hands a.number (answer_fields a) out r out'
  pub slots : after ≡ ask_slice index way names before

pub record HandsWrite (u B cut : ℕ) (slots before out : List ℕ) (r : ℕ) (after out' : List ℕ) : Type 0 where
  pub hands : let a = write_answer u B cut slots (length before) in Hands a.number (written_fields a) out r out'
  pub room : after ≡ write_buffer u B cut slots before

pub record HandsClose (before : List ℕ) (u B D : ℕ) (starts out : List ℕ) (r : ℕ) (after out' : List ℕ) : Type 0 where
  pub hands : let a = close_answer before u B D starts in Hands a.number (written_fields a) out r out'
  pub room : after ≡ close_buffer before u B D starts
