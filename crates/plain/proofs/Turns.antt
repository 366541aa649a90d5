-- The loops of a merge as the code has them: one law for each way out of a loop, and one for each turn.
use Prim.Native.Nat.{ℕ, ◌+◌, ◌-◌, ◌≤◌, ◌<◌}
use mathlib.Core.Path.{◌≡◌, refl, ◌∙◌}
use mathlib.Core.Bool.{Bool}
use mathlib.Core.List.{List, [], ◌∷◌}
use native.Mathlib.Nat.{sub-zero}
use native.Mathlib.Omega.{arith}
use lib.Dec.{eqb}
use lib.ListN.{length, get_or, take, drop, set, length-set}
use lib.Seq.{get_or-set_other, take-length}
use Rattle.paper.specs.Lists.{bit_of}
use Rattle.paper.specs.Bytes.{part}
use Rattle.paper.specs.Code.{code_of}
use Rattle.paper.specs.Code.Code.{code}
use Rattle.std.proofs.Common.{Fits, w32}
use Rattle.paper.specs.Block.{read_codes}
use Rattle.paper.specs.Record.{bit_at}
use Rattle.laws.proofs.Blocks as blocks
use Rattle.codes.specs.Got.{Stands}
use Rattle.codes.proofs.Sound as sound
use Rattle.plain.specs.Sifted.{Sifted, behind, up_to, by_slots, Told}
use Rattle.plain.proofs.Steps.{up_none, up_here, up_above, slots_none, slots_here, slots_above}
use Rattle.plain.proofs.Merging.{Merging, begun, none_left, stopped, handed, turned}

-- Up to y, by the test t
module _ (y : ℕ) (t : ℕ → Bool) (w : Sifted) (long count kept next : ℕ) (s : List ℕ) (h : Merging w (up_to y t) long count kept next s) where
  -- no candidate is left
  up_done : count ≤ next → Told w count kept next s
  up_done l = none_left w _ long count kept next s h l (up_none y t)

  module _ (l : next < count) where
    -- the first of those left is above y
    up_stop : y < get_or s next 0 → Told w count kept next s
    up_stop a = stopped w _ long count kept next s h l (up_above y t _ _ a)

    -- its test tells
    up_turn : get_or s next 0 ≤ y → (b : Bool) → b ≡ t (get_or s next 0) → (more : ℕ) → more ≡ bit_of b → more ≤ 1
        → Merging w (up_to y t) long count (kept + more) (next + 1) (set s kept (get_or s next 0))
    up_turn a b is = rw is (turned w _ long count kept next s h l (t (get_or s next 0)) (up_here y t _ _ a))

-- the answers that code gives for the slots up to y are those of the test t
abbrev pub Agrees : (ℕ → Bool → Type 0) → ℕ → (ℕ → Bool) → Type 0
Agrees gives y t = (x : ℕ) (r : Bool) → x ≤ y → gives x r → r ≡ t x

-- what holds at the head of the loop that tells candidates by a test in code: it may be asked about those left up to y, and whichever test its answers are, w says what comes of it
pub record Telling (may : ℕ → Type 0) (gives : ℕ → Bool → Type 0) (y : ℕ) (w : (ℕ → Bool) → Sifted) (count kept next : ℕ) (s : List ℕ) : Type 0 where
  pub low : kept ≤ next
  pub room : count ≤ length s
  pub asks : (k : ℕ) → next ≤ k → k < count → get_or s k 0 ≤ y → may (get_or s k 0)
  pub all : (t : ℕ → Bool) → Agrees gives y t → Merging (w t) (up_to y t) count count kept next s

-- it begins with those that are to be told, as they stand
pub tell_begin : (may : ℕ → Type 0) (gives : ℕ → Bool → Type 0) (y kept next : ℕ) (s : List ℕ) → kept ≤ next → next ≤ length s
    → ((k : ℕ) → next ≤ k → k < length s → get_or s k 0 ≤ y → may (get_or s k 0))
    → Telling may gives y (λ t. behind (take kept s) (up_to y t (part s next (length s)))) (length s) kept next s
tell_begin may gives y kept next s a b c =
    record { low = a; room = omega arith; asks = c; all = λ t e. begun (up_to y t) (length s) kept next s a b (omega arith) }

module _ (may : ℕ → Type 0) (gives : ℕ → Bool → Type 0) (y : ℕ) (w : (ℕ → Bool) → Sifted) (count kept next : ℕ) (s : List ℕ) (h : Telling may gives y w count kept next s) where
  -- none is left
  pub tell_done : count ≤ next → (n : ℕ) → n ≡ next → (t : ℕ → Bool) → Agrees gives y t → Told (w t) count kept n s
  tell_done l n i t e = rw i (up_done y t (w t) count count kept next s (h.all t e) l)

  module _ (l : next < count) where
    -- the first of those left is above y
    pub tell_stop : y < get_or s next 0 → (t : ℕ → Bool) → Agrees gives y t → Told (w t) count kept next s
    tell_stop a t e = up_stop y t (w t) count count kept next s (h.all t e) l a

    module _ (a : get_or s next 0 ≤ y) where
      -- it may be asked about
      pub tell_asks : may (get_or s next 0)
      tell_asks = h.asks next (omega arith) l a

      -- and the answer tells it
      pub tell_turn : (r : Bool) → gives (get_or s next 0) r → (more : ℕ) → more ≡ bit_of r → more ≤ 1
          → Telling may gives y w count (kept + more) (next + 1) (set s kept (get_or s next 0))
      tell_turn r g more is few =
          record {
            low = let k = h.low in omega arith;
            room = rw length-set h.room;
            asks = λ k b c. let f = h.low in let n : ¬ (k ≡ kept) = (λ e. absurd (omega arith)) in rw (get_or-set_other s kept k (get_or s next 0) 0 n) (h.asks k (omega arith) c);
            all = λ t e. up_turn y t (w t) count count kept next s (h.all t e) l a r (e _ r a g) more is few;
          }

-- By bits: what is told of all candidates, none of them being kept before, is told
pub bits_told : (cut : ℕ) (bits s : List ℕ) (kept next : ℕ) (t : List ℕ) → Told (behind (take 0 s) (up_to cut (bit_at bits) (part s 0 (length s)))) (length s) kept next t
    → Told (up_to cut (bit_at bits) s) (length s) kept next t
bits_told cut bits s kept next t h =
    let e : part s 0 (length s) ≡ s = rw (sub-zero (length s)) (take-length s) in
    rw e at h

-- By slots: y, and those that the codes left give, from byte p on
abbrev pub slots_left : ℕ → List ℕ → ℕ → ℕ → ℕ → List ℕ
slots_left u bs p left y = y ∷ (read_codes u left y (drop p bs)).slots

-- what holds at the head of the loop over the codes of a block: those left have no fault
pub record Reading (u : ℕ) (bs : List ℕ) (w : Sifted) (count kept next : ℕ) (s : List ℕ) (p left y : ℕ) : Type 0 where
  pub sound : (read_codes u left y (drop p bs)).fault ≡ 0
  pub merging : Merging w (by_slots (slots_left u bs p left y)) count count kept next s

-- it begins with all of them
pub codes_begin : (u : ℕ) (bs : List ℕ) (left y kept next : ℕ) (s : List ℕ) → (read_codes u left y bs).fault ≡ 0 → kept ≤ next → next ≤ length s
    → Reading u bs (behind (take kept s) (by_slots (y ∷ (read_codes u left y bs).slots) (part s next (length s)))) (length s) kept next s 0 left y
codes_begin u bs left y kept next s f a b = record { sound = f; merging = begun (by_slots (slots_left u bs 0 left y)) (length s) kept next s a b (omega arith) }

module _ (u : ℕ) (bs : List ℕ) (w : Sifted) (count kept next : ℕ) (s : List ℕ) (p left y : ℕ) (h : Reading u bs w count kept next s p left y) where
  -- no candidate is left
  pub codes_done : count ≤ next → Told w count kept next s
  codes_done l = none_left w _ count count kept next s h.merging l (slots_none (slots_left u bs p left y))

  module _ (l : next < count) where
    -- the first of them is y, or is no slot
    pub codes_turn : get_or s next 0 ≤ y → (more : ℕ) → more ≡ bit_of (eqb y (get_or s next 0)) → more ≤ 1
        → Reading u bs w count (kept + more) (next + 1) (set s kept (get_or s next 0)) p left y
    codes_turn a more is few = record { sound = h.sound; merging = turned w _ count count kept next s h.merging l (eqb y (get_or s next 0)) (slots_here y _ _ _ a) more is few }

    module _ (a : y < get_or s next 0) where
      -- it is above y, and so the slots behind y are left
      instead : (ys : List ℕ) → (read_codes u left y (drop p bs)).slots ≡ ys → Merging w (by_slots ys) count count kept next s
      instead ys e = handed w _ count count kept next s h.merging l (by_slots ys) (slots_above y _ _ _ a ∙ rw e)

      -- there are none, since no code is left
      pub no_more : left ≡ 0 → Told w count kept next s
      unfolding by_slots
      no_more z = stopped w _ count count kept next s (instead [] (blocks.slots_none u y left (omega arith) (drop p bs))) l refl

      module _ (some : ¬ (left ≡ 0)) (v q : ℕ) (is : code v (drop q bs) ≡ code_of (drop p bs)) where
        -- the next code gives the next slot
        pub code_turn : Reading u bs w count kept next s q (left - 1) (y + v + 1)
        code_turn = record { sound = sound.rest_sound u left y bs p h.sound (omega arith) v q is; merging = instead _ (sound.rest_slots u left y bs p h.sound (omega arith) v q is) }

  -- a code stands there, and its slot fits 32 bits, as u does
  module _ (some : ¬ (left ≡ 0)) where
    pub code_stands : Stands bs p
    code_stands = sound.stands u left y bs p h.sound (omega arith)

    pub code_inside : p < length bs
    code_inside = sound.inside u left y bs p h.sound (omega arith)

    module _ (v q : ℕ) (is : code v (drop q bs) ≡ code_of (drop p bs)) (f : Fits w32 u) where
      pub code_fits : Fits w32 (y + v + 1)
      code_fits = record { fits = omega (arith, f.fits, sound.below u left y bs p h.sound (omega arith) v q is) }

      pub code_sum : Fits w32 (y + v)
      code_sum = record { fits = omega (arith, f.fits, sound.below u left y bs p h.sound (omega arith) v q is) }

-- all of these
pub ruleset by_codes = (codes_begin, codes_done, codes_turn, no_more, code_turn, code_stands, code_inside, code_fits, code_sum)
