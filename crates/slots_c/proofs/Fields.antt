-- Fields that are stored one after the other fill the front of a buffer, as far as it reaches; and what is handed over is the library's answer.
use Prim.Native.Nat.{ℕ, zero, suc, ◌+◌, ◌≤◌, ◌<◌}
use mathlib.Core.Path.{◌≡◌, refl, sym, ap, ◌∙◌}
use mathlib.Core.List.{List, [], ◌∷◌, ◌++◌, append_assoc, append-nil}
use native.Mathlib.Nat.{le_of_suc-le-suc, not-suc-le-zero}
use native.Mathlib.Numerals.{add-one}
use native.Mathlib.Omega.{arith}
use lib.ListN.{length, get_or, set, drop, drop_of_length-le}
use lib.Seq.{sets, drop-cons}
use Rattle.paper.specs.Look.{look, MeetsLook}
use Rattle.paper.specs.Ask.{ask_answer, MeetsAsk}
use Rattle.paper.specs.OneList.{test_answer, next_answer, count_answer, part_answer, MeetsTest, MeetsNext, MeetsCount, MeetsPart}
use Rattle.paper.specs.Write.{write_answer, MeetsWrite}
use Rattle.paper.specs.Reserve.{bound_answer, MeetsBound}
use Rattle.paper.specs.Close.{close_answer, MeetsClose}
use mathlib.Core.Bool.{Bool, true, false}
use mir.Val.{bool_byte}
use Rattle.paper.specs.Lists.{bit_of, up_from}
use Rattle.paper.specs.Question.{places}
use Rattle.paper.specs.declared.Verdict.{Verdict}
use Rattle.paper.specs.declared.Answer.{Answer}
use Rattle.paper.specs.declared.Tested.{Tested}
use Rattle.paper.specs.declared.Next.{Next}
use Rattle.paper.specs.declared.Counted.{Counted}
use Rattle.paper.specs.declared.Written.{Written}
use Rattle.paper.specs.declared.Part.{Part}
use Rattle.paper.specs.declared.Bound.{Bound}
use Rattle.slots_c.specs.Exported.{verdict_fields, answer_fields, tested_fields, next_fields, counted_fields, written_fields, bound_fields, lent_fields, fitted, Hands, HandsLook, HandsAsk, HandsTest, HandsNext, HandsCount, HandsLend, HandsBound, HandsWrite, HandsClose}

-- a store behind the end changes nothing
pub set_past : (l : List ℕ) (i v : ℕ) → length l ≤ i → l ≡ set l i v
set_past [] i v h = refl
set_past (x ∷ l) zero v h = absurd (not-suc-le-zero h)
set_past (x ∷ l) (suc i) v h = ap (λ (r : List ℕ). x ∷ r) (set_past l i v (le_of_suc-le-suc h))

-- no field leaves a buffer as it was
fitted_none : (l : List ℕ) → l ≡ fitted [] l
unfolding fitted
fitted_none [] = refl
fitted_none (x ∷ l) = refl

-- one more field, stored behind those that stand
fitted_more : (fields : List ℕ) (v : ℕ) (l : List ℕ) → set (fitted fields l) (length fields) v ≡ fitted (fields ++ v ∷ []) l
unfolding fitted
fitted_more [] v [] = refl
fitted_more [] v (x ∷ l) = ap (λ (r : List ℕ). v ∷ r) (fitted_none l)
fitted_more (f ∷ fields) v [] = refl
fitted_more (f ∷ fields) v (x ∷ l) = ap (λ (r : List ℕ). f ∷ r) (fitted_more fields v l)

-- and a run of fields
fitted_run : (fields vs l : List ℕ) (n : ℕ) → n ≡ length fields → sets (fitted fields l) n vs ≡ fitted (fields ++ vs) l
fitted_run fields [] l n e = ap (λ (fs : List ℕ). fitted fs l) (sym (append-nil fields))
fitted_run fields (v ∷ vs) l n e =
    ap (λ (m : ℕ). sets (set (fitted fields l) m v) (suc m) vs) e
    ∙ ap (λ (o : List ℕ). sets o (suc (length fields)) vs) (fitted_more fields v l)
    ∙ fitted_run (fields ++ v ∷ []) vs l (suc (length fields)) (sym (one_longer fields v))
    ∙ ap (λ (fs : List ℕ). fitted fs l) (append_assoc fields (v ∷ []) vs)
  where
    one_longer : (fields : List ℕ) (v : ℕ) → length (fields ++ v ∷ []) ≡ suc (length fields)
    one_longer [] v = refl
    one_longer (f ∷ fields) v = ap suc (one_longer fields v)

-- what the places store, of which i are stored
abbrev pub putting : List ℕ → ℕ → List ℕ → ℕ → List ℕ
putting o from v i = sets o (from + i) (drop i v)

-- none yet
pub put_begin : (o : List ℕ) (from : ℕ) (v : List ℕ) → putting o from v 0 ≡ sets o from v
put_begin o from v = let e : from + 0 ≡ from = omega arith in ap (λ (n : ℕ). sets o n v) e

module _ (o₀ o : List ℕ) (from : ℕ) (v : List ℕ) (i : ℕ) (is : putting o from v i ≡ sets o₀ from v) where
  -- one more, stored at `at`
  pub put_next : i < length v → (p : List ℕ) (at : ℕ) → p ≡ set o at (get_or v i 0) → at ≡ from + i → putting p from v (i + 1) ≡ sets o₀ from v
  put_next h p at e isA =
      let k : from + (i + 1) ≡ suc (from + i) = omega arith in
      let d : drop i v ≡ get_or v i 0 ∷ drop (suc i) v = drop-cons v i 0 h in
      rw (e, isA, k, add-one i) (rw d at is)

  -- all
  pub put_end : length v ≤ i → o ≡ sets o₀ from v
  put_end h = rw (drop_of_length-le v h) at is

-- fields that are put to the front
fitted_front : (fields l : List ℕ) → sets l 0 fields ≡ fitted fields l
fitted_front fields l = ap (λ (o : List ℕ). sets o 0 fields) (fitted_none l) ∙ fitted_run [] fields l 0 refl

-- fields that are put to the front are fitted there
pub put_fitted : (fields put out out' : List ℕ) → out' ≡ sets out 0 put → put ≡ fields → out' ≡ fitted fields out
put_fitted fields put out out' stored are = stored ∙ fitted_front put out ∙ ap (λ (x : List ℕ). fitted x out) are

-- a flag as a byte is a test as a number
pub as_bit : (t : Bool) → bool_byte t ≡ bit_of t
as_bit true = refl
as_bit false = refl

-- what is stored of an answer that is the library's is handed over for the library's
handed :
    {A : Type 0} (result : A → ℕ) (fields : A → List ℕ) (a given : A) (out out' : List ℕ) →
    given ≡ a →
    out' ≡ fitted (fields given) out →
    Hands (result a) (fields a) out (result given) out'
handed result fields a given out out' is put = record { returns = ap result is; leaves = put ∙ ap (λ x. fitted (fields x) out) is }

module _ (index out out' : List ℕ) where
  pub look_handed : (a : Verdict) → MeetsLook index a → out' ≡ fitted (verdict_fields a) out → HandsLook index out a.number out'
  look_handed a = handed (λ a. a.number) verdict_fields (look index) a out out'

  module _ (name : ℕ) where
    pub test-handed :
        (slot b : ℕ) (a : Tested) →
        MeetsTest index name slot a →
        b ≡ bit_of a.yes →
        out' ≡ fitted (a.number ∷ a.place ∷ b ∷ []) out →
        HandsTest index name slot out a.number out'
    test-handed slot b a is said put =
        handed (λ a. a.number) tested_fields (test_answer index name slot) a out out' is (put ∙ ap (λ (n : ℕ). fitted (a.number ∷ a.place ∷ n ∷ []) out) said)

    pub next_handed : (slot : ℕ) (a : Next) → MeetsNext index name slot a → out' ≡ fitted (next_fields a) out → HandsNext index name slot out a.number out'
    next_handed slot a = handed (λ a. a.number) next_fields (next_answer index name slot) a out out'

    pub count_handed : (a : Counted) → MeetsCount index name a → out' ≡ fitted (counted_fields a) out → HandsCount index name out a.number out'
    count_handed a = handed (λ a. a.number) counted_fields (count_answer index name) a out out'

    pub lend_handed : (a : Part) → MeetsPart index name a → out' ≡ fitted (lent_fields a) out → HandsLend index name out a.length out'
    lend_handed a = handed (λ a. a.length) lent_fields (part_answer index name) a out out'

  -- the places of an answer are sixteen
  sixteen : (way : ℕ) (names before after : List ℕ) (a : Answer) → MeetsAsk index way names before a after → length a.looks16 ≡ 16
  unfolding ask_answer places up_from
  sixteen way names before after a is = rw is.answers

  -- the fields of an answer: its five numbers, put to the front, then the sixteen places of looks and those of codes
  module _ (way : ℕ) (names before after : List ℕ) (a : Answer) (is : MeetsAsk index way names before a after) where
    abbrev numbers : List ℕ
    numbers = a.number ∷ a.place ∷ a.count ∷ a.looks ∷ a.codes ∷ []

    pub ask-handed : out' ≡ sets (sets (sets out 0 numbers) 5 a.looks16) 21 a.codes16 → HandsAsk index way names before out a.number after out'
    ask-handed put =
        let p = fitted_front numbers out in
        let q = ap (λ (l : List ℕ). sets l 5 a.looks16) p ∙ fitted_run numbers a.looks16 out 5 refl in
        let l = sixteen way names before after a is in
        let n : 21 ≡ length (numbers ++ a.looks16) = omega arith in
        let r = put ∙ ap (λ (l : List ℕ). sets l 21 a.codes16) q ∙ fitted_run (numbers ++ a.looks16) a.codes16 out 21 n in
        record {
          hands = handed (λ a. a.number) answer_fields (ask_answer index way names (length before)) a out out' is.answers r;
          slots = is.leaves;
        }

pub bound_handed : (u B cut n : ℕ) (out out' : List ℕ) (a : Bound) → MeetsBound u B cut n a → out' ≡ fitted (bound_fields a) out
    → HandsBound u B cut n out a.number out'
bound_handed u B cut n out out' a = handed (λ a. a.number) bound_fields (bound_answer u B cut n) a out out'

module _ (u B : ℕ) (before after out out' : List ℕ) (a : Written) where
  pub write-handed :
      (cut : ℕ) (slots : List ℕ) →
      MeetsWrite u B cut slots before a after →
      out' ≡ fitted (written_fields a) out →
      HandsWrite u B cut slots before out a.number after out'
  write-handed cut slots is put = record { hands = handed (λ a. a.number) written_fields (write_answer u B cut slots (length before)) a out out' is.answers put; room = is.leaves }

  pub close-handed :
      (D : ℕ) (starts : List ℕ) →
      MeetsClose before u B D starts a after →
      out' ≡ fitted (written_fields a) out →
      HandsClose before u B D starts out a.number after out'
  close-handed D starts is put = record { hands = handed (λ a. a.number) written_fields (close_answer before u B D starts) a out out' is.answers put; room = is.leaves }
