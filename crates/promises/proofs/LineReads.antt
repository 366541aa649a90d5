-- Reading the small program's text: what the reader takes is what a text spells, and nothing else.
use Prim.Native.Nat.{ℕ, ◌+◌, ◌-◌, ◌*◌, ◌≤◌, ◌<◌}
use mathlib.Core.Path.{◌≡◌, refl, sym, ap, subst, ◌∙◌}
use mathlib.Core.Bool.{Bool, true, false, true≢false}
use mathlib.Core.Logic.{◌↔◌}
use mathlib.Core.Logic.◌⊎◌.{inl, inr}
use mathlib.Core.Option.{Option, none, some}
use mathlib.Core.List.{List, [], ◌∷◌, ◌++◌, append-nil, append_assoc}
use native.Mathlib.Decide.{dec_le, dec_lt, ℕ_discrete}
use native.Mathlib.Nat.{zero-add}
use native.Mathlib.Omega.{arith}
use lib.ListN.{length, length-append}
use borrow.Author.Tests.{lt-ltb, le-ltb, le-leb, lt-leb, eq-eqb, ne_eqb}
use Rattle.paper.specs.Lists.{pick}
use Rattle.paper.specs.Line.{is_parting, is_digit, also, read_numbers, Line, as_line, read_line}
use Rattle.paper.specs.Line.Line.{usage, question}
use Rattle.laws.proofs.Lists.{Each}
use Rattle.promises.proofs.LineTexts.{Blank, Gap, Apart, Spelt, Text, Asks}
use Rattle.promises.proofs.LineTexts.Spelt.{digit, further}
use Rattle.promises.proofs.LineTexts.Text.{gap, word}

-- ONE BYTE: a blank, a digit, or neither
abbrev Digit : ℕ → Type 0
Digit b = (0x30 ≤ b) × (b ≤ 0x39)

data Kind (b : ℕ) : Type 0 where
  blank : Blank b → Kind b
  numeral : Digit b → Kind b
  other : ¬ (b ≡ 0x20) → ¬ (b ≡ 0x0a) → ¬ (Digit b) → Kind b

kind : (b : ℕ) → Kind b
kind b =
    elim (ℕ_discrete b 0x20) [
      | yes e ↦ blank (inl e)
      | no n ↦
          elim (ℕ_discrete b 0x0a) [
            | yes e ↦ blank (inr e)
            | no m ↦
                elim (dec_le 0x30 b) [
                  | no k ↦ other n m (λ d. k d.0)
                  | yes l ↦
                      elim (dec_le b 0x39) [
                        | no k ↦ other n m (λ d. k d.1)
                        | yes h ↦ numeral (l, h)
                      ]
                ]
          ]
    ]

-- its tests
module _ (b : ℕ) where
  parts : Blank b → is_parting b ≡ true
  parts (inl e) = simp (eq-eqb b 0x20 e)
  parts (inr e) = rw e refl

  parts_not : ¬ (b ≡ 0x20) → ¬ (b ≡ 0x0a) → is_parting b ≡ false
  parts_not n m = simp (ne_eqb b 0x20 n, ne_eqb b 0x0a m)

  digit_parts_not : Digit b → is_parting b ≡ false
  digit_parts_not d = parts_not (λ e. let l = d.0 in absurd (omega arith)) (λ e. let l = d.0 in absurd (omega arith))

  digit_is_told : Digit b → is_digit b ≡ true
  digit_is_told d = simp (le-leb 0x30 b d.0, le-leb b 0x39 d.1)

  digit_not : ¬ (Digit b) → is_digit b ≡ false
  digit_not n =
      elim (dec_le 0x30 b) [
        | no k ↦ simp (lt-leb 0x30 b (omega arith))
        | yes l ↦
            elim (dec_le b 0x39) [
              | no k ↦ simp (le-leb 0x30 b l, lt-leb b 0x39 (omega arith))
              | yes h ↦ absurd (n (l, h))
            ]
      ]

-- THE READER, one byte at a time
module _ (b : ℕ) (bs : List ℕ) (inside : Bool) (v : ℕ) where
  on_blank : Blank b → read_numbers (b ∷ bs) inside v ≡ pick inside (also v (read_numbers bs false 0)) (read_numbers bs false 0)
  unfolding read_numbers
  on_blank p = rw (parts b p)

  on_digit : Digit b → 10 * v + (b - 0x30) < 4294967296 → read_numbers (b ∷ bs) inside v ≡ read_numbers bs true (10 * v + (b - 0x30))
  unfolding read_numbers
  on_digit d l = rw (digit_parts_not b d, digit_is_told b d, lt-ltb (10 * v + (b - 0x30)) 4294967296 l)

  -- the number is too large
  on_large : Digit b → 4294967296 ≤ 10 * v + (b - 0x30) → read_numbers (b ∷ bs) inside v ≡ none
  unfolding read_numbers
  on_large d l = rw (digit_parts_not b d, digit_is_told b d, le-ltb (10 * v + (b - 0x30)) 4294967296 l)

  on_other : ¬ (b ≡ 0x20) → ¬ (b ≡ 0x0a) → ¬ (Digit b) → read_numbers (b ∷ bs) inside v ≡ none
  unfolding read_numbers
  on_other n m k = rw (parts_not b n m, digit_not b k)

-- and at the end
at_end : (inside : Bool) (v : ℕ) → read_numbers [] inside v ≡ some (pick inside (v ∷ []) [])
unfolding read_numbers
at_end inside v = refl

-- DIGITS FROM THE FRONT, as the reader has them: w is what v becomes with the digits ds behind it
abbrev Behind : ℕ → List ℕ → ℕ → Type 0
Behind v [] w = v ≡ w
Behind v (b ∷ bs) w = Digit b × Behind (10 * v + (b - 0x30)) bs w

-- they never make it smaller; so a number that is too large at one digit is too large at its last
grows : (v : ℕ) (ds : List ℕ) (w : ℕ) → Behind v ds w → v ≤ w
grows v [] w e = omega arith
grows v (b ∷ bs) w p = let l = grows (10 * v + (b - 0x30)) bs w p.1 in omega arith

-- one more at the end
behind_further : (a : ℕ) (ds : List ℕ) (v d : ℕ) → d < 10 → Behind a ds v → Behind a (ds ++ (0x30 + d) ∷ []) (10 * v + d)
behind_further a [] v d l e = ((omega arith, omega arith), omega arith)
behind_further a (b ∷ bs) v d l p = (p.0, behind_further (10 * a + (b - 0x30)) bs v d l p.1)

-- what digits spell is what they make of 0, and there is at least one
spelt_behind : {v : ℕ} {ds : List ℕ} → Spelt v ds → Behind 0 ds v
spelt_behind (digit d l) = ((omega arith, omega arith), omega arith)
spelt_behind (further v d ds s l) = behind_further 0 ds v d l (spelt_behind s)

spelt_some : {v : ℕ} {ds : List ℕ} → Spelt v ds → 1 ≤ length ds
spelt_some (digit d l) = omega arith
spelt_some (further v d ds s l) = let e = length-append ds ((0x30 + d) ∷ []) in omega arith

-- and the other way
module _ (b : ℕ) (l : Digit b) where
  byte_is : 0x30 + (b - 0x30) ≡ b
  byte_is = let h = l.0 in omega arith

  below_ten : b - 0x30 < 10
  below_ten = let h = l.1 in omega arith

  digit_spelt : Spelt (10 * 0 + (b - 0x30)) (b ∷ [])
  digit_spelt = rw zero-add (subst (λ (c : ℕ). Spelt (b - 0x30) (c ∷ [])) byte_is (digit (b - 0x30) below_ten))

  further_spelt : (v : ℕ) (ds : List ℕ) → Spelt v ds → Spelt (10 * v + (b - 0x30)) (ds ++ b ∷ [])
  further_spelt v ds s = subst (λ (c : ℕ). Spelt (10 * v + (b - 0x30)) (ds ++ c ∷ [])) byte_is (further v (b - 0x30) ds s below_ten)

behind_spelt : (v : ℕ) (front ds : List ℕ) (w : ℕ) → Spelt v front → Behind v ds w → Spelt w (front ++ ds)
behind_spelt v front [] w s e = rw append-nil (rw e at s)
behind_spelt v front (b ∷ ds) w s p =
    rw (append_assoc front (b ∷ []) ds) at (behind_spelt (10 * v + (b - 0x30)) (front ++ b ∷ []) ds w (further_spelt b p.0 v front s) p.1)

-- WHAT IS READ IS SPELT. Outside a number the reader says what the text spells
abbrev Means : List ℕ → Option (List ℕ) → Type 0
Means bs none = Unit {0}
Means bs (some ns) = Text bs ns

-- inside one, with v so far, it says this: more digits make it w, then comes the rest
data Onward (v : ℕ) : List ℕ → List ℕ → Type 0 where
  onward : (ds rest : List ℕ) (w : ℕ) (vs : List ℕ) → Behind v ds w → w < 4294967296 → Apart rest → Text rest vs → Onward v (ds ++ rest) (w ∷ vs)

abbrev Continues : ℕ → List ℕ → Option (List ℕ) → Type 0
Continues v bs none = Unit {0}
Continues v bs (some ns) = Onward v bs ns

record Sound (bs : List ℕ) : Type 0 where
  outside : Means bs (read_numbers bs false 0)
  inside : (v : ℕ) → v < 4294967296 → Continues v bs (read_numbers bs true v)

-- a blank before a text
text_blank : (b : ℕ) → Blank b → {bs ns : List ℕ} → Text bs ns → Text (b ∷ bs) ns
text_blank b p (gap g q) = gap (b ∷ g) (p, q)
text_blank b p (word g ds rest v vs q s l a t) = word (b ∷ g) ds rest v vs (p, q) s l a t

module _ (b : ℕ) (bs : List ℕ) where
  -- after a blank
  means_blank : Blank b → (o : Option (List ℕ)) → Means bs o → Means (b ∷ bs) o
  means_blank p none m = tt
  means_blank p (some ns) m = text_blank b p m

  continues_blank : (v : ℕ) → v < 4294967296 → Blank b → (o : Option (List ℕ)) → Means bs o → Continues v (b ∷ bs) (also v o)
  continues_blank v l p none m = tt
  continues_blank v l p (some ns) m = onward [] (b ∷ bs) v ns refl l p (text_blank b p m)

-- after a digit
onward_starts : (b : ℕ) → Digit b → {bs ns : List ℕ} → Onward (10 * 0 + (b - 0x30)) bs ns → Text (b ∷ bs) ns
onward_starts b d (onward ds rest w vs p l a t) =
    word [] (b ∷ ds) rest w vs tt (behind_spelt (10 * 0 + (b - 0x30)) (b ∷ []) ds w (digit_spelt b d) p) l a t

onward_more : (b v : ℕ) → Digit b → {bs ns : List ℕ} → Onward (10 * v + (b - 0x30)) bs ns → Onward v (b ∷ bs) ns
onward_more b v d (onward ds rest w vs p l a t) = onward (b ∷ ds) rest w vs (d, p) l a t

module _ (b : ℕ) (bs : List ℕ) (d : Digit b) where
  means_digit : (o : Option (List ℕ)) → Continues (10 * 0 + (b - 0x30)) bs o → Means (b ∷ bs) o
  means_digit none c = tt
  means_digit (some ns) c = onward_starts b d c

  continues_digit : (v : ℕ) (o : Option (List ℕ)) → Continues (10 * v + (b - 0x30)) bs o → Continues v (b ∷ bs) o
  continues_digit v none c = tt
  continues_digit v (some ns) c = onward_more b v d c

-- so of a text with one byte more
module _ (b : ℕ) (bs : List ℕ) (s : Sound bs) where
  outside_more : Kind b → Means (b ∷ bs) (read_numbers (b ∷ bs) false 0)
  outside_more (blank p) = rw (on_blank b bs false 0 p) (means_blank b bs p (read_numbers bs false 0) s.outside)
  outside_more (numeral d) =
      let l : 10 * 0 + (b - 0x30) < 4294967296 = let h = d.1 in omega arith in
      rw (on_digit b bs false 0 d l) (means_digit b bs d (read_numbers bs true (10 * 0 + (b - 0x30))) (s.inside (10 * 0 + (b - 0x30)) l))
  outside_more (other n m k) = rw (on_other b bs false 0 n m k) tt

  module _ (v : ℕ) (h : v < 4294967296) where
    inside_digit : (d : Digit b) → Dec (10 * v + (b - 0x30) < 4294967296) → Continues v (b ∷ bs) (read_numbers (b ∷ bs) true v)
    inside_digit d (yes l) =
        let next = 10 * v + (b - 0x30) in
        rw (on_digit b bs true v d l) (continues_digit b bs d v (read_numbers bs true next) (s.inside next l))
    inside_digit d (no n) = rw (on_large b bs true v d (omega arith)) tt

    inside_more : Kind b → Continues v (b ∷ bs) (read_numbers (b ∷ bs) true v)
    inside_more (blank p) = rw (on_blank b bs true v p) (continues_blank b bs v h p (read_numbers bs false 0) s.outside)
    inside_more (numeral d) = inside_digit d (dec_lt (10 * v + (b - 0x30)) 4294967296)
    inside_more (other n m k) = rw (on_other b bs true v n m k) tt

sound : (bs : List ℕ) → Sound bs
sound [] =
    record {
      outside = rw (at_end false 0) (gap [] tt);
      inside = λ v l. rw (at_end true v) (onward [] [] v [] refl l tt (gap [] tt));
    }
sound (b ∷ bs) =
    let s = sound bs in
    record { outside = outside_more b bs s (kind b); inside = λ v l. inside_more b bs s v l (kind b) }

-- WHAT IS SPELT IS READ
gap_read : (g bs : List ℕ) → Gap g → read_numbers (g ++ bs) false 0 ≡ read_numbers bs false 0
gap_read [] bs p = refl
gap_read (b ∷ g) bs p = on_blank b (g ++ bs) false 0 p.0 ∙ gap_read g bs p.1

module _ (rest : List ℕ) (w : ℕ) (l : w < 4294967296) where
  -- no number on the way is larger than w
  digits_read : (ds : List ℕ) (v : ℕ) → Behind v ds w → read_numbers (ds ++ rest) true v ≡ read_numbers rest true w
  digits_read [] v e = ap (read_numbers rest true) e
  digits_read (b ∷ ds) v p =
      let h = grows (10 * v + (b - 0x30)) ds w p.1 in
      on_digit b (ds ++ rest) true v p.0 (omega arith) ∙ digits_read ds (10 * v + (b - 0x30)) p.1

  number_read : (ds : List ℕ) → 1 ≤ length ds → Behind 0 ds w → read_numbers (ds ++ rest) false 0 ≡ read_numbers rest true w
  number_read [] h p = absurd (omega arith)
  number_read (b ∷ ds) h p =
      let k = grows (10 * 0 + (b - 0x30)) ds w p.1 in
      on_digit b (ds ++ rest) false 0 p.0 (omega arith) ∙ digits_read ds (10 * 0 + (b - 0x30)) p.1

-- the number ends where the rest is apart
apart_read : (rest : List ℕ) (w : ℕ) → Apart rest → read_numbers rest true w ≡ also w (read_numbers rest false 0)
apart_read [] w a = at_end true w ∙ ap (also w) (sym (at_end false 0))
apart_read (b ∷ bs) w a = on_blank b bs true w a ∙ ap (also w) (sym (on_blank b bs false 0 a))

text_read : {bs ns : List ℕ} → Text bs ns → read_numbers bs false 0 ≡ some ns
text_read (gap g p) = ap (λ (l : List ℕ). read_numbers l false 0) (sym (append-nil g)) ∙ gap_read g [] p ∙ at_end false 0
text_read (word g ds rest v vs p s l a t) =
    rw (append_assoc g ds rest)
    (gap_read g (ds ++ rest) p ∙ number_read rest v l ds (spelt_some s) (spelt_behind s) ∙ apart_read rest v a ∙ ap (also v) (text_read t))

read_text : (bs ns : List ℕ) → read_numbers bs false 0 ≡ some ns → Text bs ns
read_text bs ns e = subst (Means bs) e (sound bs).outside

-- so a text spells one list of numbers
listed : Option (List ℕ) → List ℕ
listed none = []
listed (some ns) = ns

pub one_reading : (bs ns ms : List ℕ) → Text bs ns → Text bs ms → ns ≡ ms
unfolding listed
one_reading bs ns ms t s = ap listed (sym (text_read t) ∙ text_read s)

-- THE LINE
module _ (bs : List ℕ) where
  line_long : 256 < length bs → read_line bs ≡ usage
  unfolding read_line
  line_long l = rw (lt-ltb 256 (length bs) l)

  line_short : length bs ≤ 256 → read_line bs ≡ as_line (read_numbers bs false 0)
  unfolding read_line
  line_short l = rw (le-ltb 256 (length bs) l)

-- a line that is a question, and its numbers
abbrev is_question : Line → Bool
is_question usage = false
is_question (question way names) = true

abbrev line_numbers : Line → List ℕ
line_numbers usage = []
line_numbers (question way names) = way ∷ names

module _ (way : ℕ) (names : List ℕ) where
  no_usage : ¬ (usage ≡ question way names)
  no_usage e = true≢false (sym (ap is_question e))

  as_question : (o : Option (List ℕ)) → as_line o ≡ question way names → o ≡ some (way ∷ names)
  as_question none e = absurd (no_usage e)
  as_question (some []) e = absurd (no_usage e)
  as_question (some (n ∷ ns)) e = ap (λ (l : Line). some (line_numbers l)) e

  module _ (bs : List ℕ) where
    read_asks : read_line bs ≡ question way names → Asks bs way names
    read_asks e =
        elim (dec_le (length bs) 256) [
          | yes l ↦ record { short = l; spelt = read_text bs (way ∷ names) (as_question (read_numbers bs false 0) (sym (line_short bs l) ∙ e)) }
          | no n ↦ absurd (no_usage (sym (line_long bs (omega arith)) ∙ e))
        ]

    asks_read : Asks bs way names → read_line bs ≡ question way names
    asks_read a = line_short bs a.short ∙ ap as_line (text_read a.spelt)

pub reads : (bs : List ℕ) (way : ℕ) (names : List ℕ) → (read_line bs ≡ question way names) ↔ Asks bs way names
reads bs way names = (read_asks way names bs, asks_read way names bs)

-- a line that is no question is usage
module _ (bs : List ℕ) where
  by_line : ((way : ℕ) (names : List ℕ) → ¬ (Asks bs way names)) → (l : Line) → read_line bs ≡ l → read_line bs ≡ usage
  by_line n usage e = e
  by_line n (question way names) e = absurd (n way names (read_asks way names bs e))

  pub refuses : (read_line bs ≡ usage) ↔ ((way : ℕ) (names : List ℕ) → ¬ (Asks bs way names))
  refuses = (λ e way names a. no_usage way names (sym e ∙ asks_read way names bs a), λ n. by_line n (read_line bs) refl)

-- EACH NUMBER IS A U32
text_words : {bs ns : List ℕ} → Text bs ns → Each (λ x. x < 4294967296) ns
text_words (gap g p) = tt
text_words (word g ds rest v vs p s l a t) = (l, text_words t)

pub all_words : (bs : List ℕ) (way : ℕ) (names : List ℕ) → read_line bs ≡ question way names → Each (λ x. x < 4294967296) (way ∷ names)
all_words bs way names e = text_words (read_asks way names bs e).spelt

-- HOW MANY THERE ARE: a number takes a digit, and a blank behind it where another follows
record Fits (bs ns : List ℕ) : Type 0 where
  all : 2 * length ns ≤ length bs + 1
  apart : Apart bs → 2 * length ns ≤ length bs

-- digits begin with no blank
behind_not : (v : ℕ) (ds rest : List ℕ) (w : ℕ) → 1 ≤ length ds → Behind v ds w → ¬ (Apart (ds ++ rest))
behind_not v [] rest w h p a = absurd (omega arith)
behind_not v (b ∷ ds) rest w h p a = true≢false (sym (parts b a) ∙ digit_parts_not b p.0)

module _ (ds rest vs : List ℕ) (v : ℕ) (s : Spelt v ds) (q : 2 * length vs ≤ length rest) where
  fits_word : (g : List ℕ) → Fits (g ++ ds ++ rest) (v ∷ vs)
  fits_word [] =
      let d = spelt_some s in
      let e = length-append ds rest in
      record { all = omega arith; apart = λ a. absurd (behind_not 0 ds rest v d (spelt_behind s) a) }
  fits_word (b ∷ g) =
      let d = spelt_some s in
      let e = length-append (g ++ ds) rest in
      let f = length-append g ds in
      record { all = omega arith; apart = λ a. omega arith }

fits : {bs ns : List ℕ} → Text bs ns → Fits bs ns
fits (gap g p) = record { all = omega arith; apart = λ a. omega arith }
fits (word g ds rest v vs p s l a t) = fits_word ds rest vs v s ((fits t).apart a) g

pub few_names : (bs : List ℕ) (way : ℕ) (names : List ℕ) → read_line bs ≡ question way names → length names ≤ 127
few_names bs way names e =
    let a = read_asks way names bs e in
    let h = a.short in
    let f = (fits a.spelt).all in
    omega arith
