-- Bits written one after the other to bytes that were cleared.
use Prim.Native.Nat.{ℕ, zero, suc, ◌+◌, ◌*◌, ◌≤◌, ◌<◌}
use mathlib.Core.Path.{◌≡◌, refl, ap, ◌∙◌}
use mathlib.Core.List.{List, [], ◌∷◌, ◌++◌}
use native.Mathlib.Numerals.{add-one}
use native.Mathlib.Omega.{arith}
use lib.ListN.{length, get_or, take, drop, replicate}
use lib.Seq.{take_all, take-suc}
use Rattle.paper.specs.Lists.{has}
use Rattle.paper.specs.Write.{octet, bit_bytes}
use Rattle.laws.proofs.Lists.{has_none, has_here, has_there, has_front, in_behind}
use Rattle.laws.proofs.Octets.{bits_length}
use Rattle.meaning.proofs.Rising.{Ascends, rise_at}
use Rattle.words.specs.Marks.{with_bit}
use Rattle.words.proofs.Marks.{bits_marked}
use Rattle.pack.specs.Measures.{bits_for}

-- bytes of no bit are zero
zeros : (k x : ℕ) → replicate k 0 ≡ bit_bytes (λ x. has x []) x k
unfolding bit_bytes octet has
zeros zero x = refl
zeros (suc k) x = ap (λ (l : List ℕ). 0 ∷ l) (zeros k (x + 8))

-- bytes that are all cleared have no bit
pub cleared : (bits bits₁ : List ℕ) → (((y : ℕ) → y ≡ 0 → y ≡ 0) → bits₁ ≡ replicate (length bits) 0) → bits₁ ≡ bits_for [] (length bits)
unfolding bits_for
cleared bits bits₁ e = e (λ y h. h) ∙ zeros (length bits) 1

-- MARKING: the bits of the first i slots are set, in k bytes
pub record Marked (low : List ℕ) (k : ℕ) (bits : List ℕ) (i : ℕ) : Type 0 where
  pub inside : i ≤ length low
  pub same : bits ≡ bits_for (take i low) k

-- at first there are none
pub mark_begin : (low bits : List ℕ) → bits ≡ bits_for [] (length bits) → Marked low (length bits) bits 0
mark_begin low bits e = record { inside = omega arith; same = e }

module _ {low : List ℕ} {k : ℕ} {bits : List ℕ} {i : ℕ} (h : Marked low k bits i) where
  -- there are k bytes
  pub mark_long : length bits ≡ k
  unfolding bits_for
  mark_long = ap length h.same ∙ bits_length (λ x. has x (take i low)) k 1

  -- all are set
  pub mark_end : length low ≤ i → bits ≡ bits_for low k
  mark_end l = rw (take_all i low l) at h.same

  module _ (l : i < length low) (x : ℕ) (is : x ≡ get_or low i 0) (a : Ascends (8 * k) 0 low) where
    rises : Ascends (8 * k) 0 (x ∷ drop (i + 1) low)
    rises = rise_at (8 * k) 0 i low a l x is

    -- the next is a bit
    pub mark_some : 0 < x
    mark_some = rises.0

    -- and lies among them
    pub mark_within : x ≤ 8 * length bits
    mark_within = rw mark_long rises.1

    more : take (i + 1) low ≡ take i low ++ x ∷ []
    more = rw (add-one i, is) (take-suc low i 0 l)

    -- and is set
    pub mark_turn : (bits' : List ℕ) → bits' ≡ with_bit bits x → Marked low k bits' (i + 1)
    unfolding bits_for
    mark_turn bits' e =
        let done = take i low in
        let here = in_behind x done (x ∷ []) (has_here x x [] refl) in
        let others : (y : ℕ) → ¬ (y ≡ x) → has y (done ++ x ∷ []) ≡ has y done = λ y n. has_front y done (x ∷ []) (has_there y x [] n ∙ has_none y) in
        let m = bits_marked (λ y. has y done) (λ y. has y (done ++ x ∷ [])) x here others k mark_some rises.1 in
        record { inside = omega arith; same = rw (e, h.same, more) m }

-- all of these
pub ruleset marks = (mark_begin, mark_long, mark_end, mark_some, mark_within, mark_turn)

-- CLEARING AND MARKING, one after the other
module _ (low bits₀ bits₁ : List ℕ) (clear : bits₁ ≡ bits_for [] (length bits₀)) where
  kept : length bits₁ ≡ length bits₀
  unfolding bits_for
  kept = ap length clear ∙ bits_length (λ x. has x []) (length bits₀) 1

  -- no bit is set then
  pub blanked : bits₁ ≡ bits_for [] (length bits₁)
  blanked = rw kept clear

  -- the slots still have their bits
  pub still_rises : Ascends (8 * length bits₀) 0 low → Ascends (8 * length bits₁) 0 low
  still_rises a = rw kept a

  -- and in the end they are set
  pub marked_all : (bits₂ : List ℕ) → bits₂ ≡ bits_for low (length bits₁) → bits₂ ≡ bits_for low (length bits₀)
  marked_all bits₂ e = rw (← kept) e
