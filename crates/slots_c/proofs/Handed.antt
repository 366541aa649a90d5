-- What an exported operation promises, in plain terms: where the fields stand and what stays, and that it leaves one outcome only.
use Prim.Native.Nat.{ℕ, zero, suc, ◌<◌, ◌≤◌}
use mathlib.Core.Path.{◌≡◌, refl, sym, ap, ◌∙◌}
use mathlib.Core.List.{List, [], ◌∷◌}
use native.Mathlib.Nat.{le_of_suc-le-suc, not-suc-le-zero}
use lib.ListN.{length, get_or}
use Rattle.slots_c.specs.Exported.{fitted, Hands, HandsAsk, HandsWrite, HandsClose}

-- a buffer keeps its length
abbrev pub LengthStays : Type 0
LengthStays = (fields before : List ℕ) → length (fitted fields before) ≡ length before

-- as far as the buffer reaches, field i stands at place i
abbrev pub FieldsInOrder : Type 0
FieldsInOrder = (fields before : List ℕ) (i : ℕ) → i < length fields → i < length before → get_or (fitted fields before) i 0 ≡ get_or fields i 0

-- behind the fields every element is as it was
abbrev pub RestStays : Type 0
RestStays = (fields before : List ℕ) (i : ℕ) → length fields ≤ i → get_or (fitted fields before) i 0 ≡ get_or before i 0

-- two outcomes of one call are equal: what is returned, and the buffer that takes the fields
abbrev pub OneHanding : Type 0
OneHanding =
    (result : ℕ) (fields before : List ℕ) (r r' : ℕ) (after after' : List ℕ) →
    Hands result fields before r after →
    Hands result fields before r' after' →
    (r ≡ r') × (after ≡ after')

-- the same of a question, a writing and a closing, with the buffer that each of them has besides
abbrev pub OneAsking : Type 0
OneAsking =
    (index : List ℕ) (way : ℕ) (names before out : List ℕ) (r r' : ℕ) (after after' out₁ out₂ : List ℕ) →
    HandsAsk index way names before out r after out₁ →
    HandsAsk index way names before out r' after' out₂ →
    ((r ≡ r') × (out₁ ≡ out₂)) × (after ≡ after')

abbrev pub OneWriting : Type 0
OneWriting =
    (u B cut : ℕ) (slots before out : List ℕ) (r r' : ℕ) (after after' out₁ out₂ : List ℕ) →
    HandsWrite u B cut slots before out r after out₁ →
    HandsWrite u B cut slots before out r' after' out₂ →
    ((r ≡ r') × (out₁ ≡ out₂)) × (after ≡ after')

abbrev pub OneClosing : Type 0
OneClosing =
    (before : List ℕ) (u B D : ℕ) (starts out : List ℕ) (r r' : ℕ) (after after' out₁ out₂ : List ℕ) →
    HandsClose before u B D starts out r after out₁ →
    HandsClose before u B D starts out r' after' out₂ →
    ((r ≡ r') × (out₁ ≡ out₂)) × (after ≡ after')

pub length_stays : LengthStays
unfolding fitted
length_stays [] [] = refl
length_stays [] (b ∷ before) = refl
length_stays (f ∷ fields) [] = refl
length_stays (f ∷ fields) (b ∷ before) = ap suc (length_stays fields before)

pub fields_in_order : FieldsInOrder
unfolding fitted
fields_in_order [] before i h l = absurd (not-suc-le-zero h)
fields_in_order (f ∷ fields) [] i h l = absurd (not-suc-le-zero l)
fields_in_order (f ∷ fields) (b ∷ before) zero h l = refl
fields_in_order (f ∷ fields) (b ∷ before) (suc i) h l = fields_in_order fields before i (le_of_suc-le-suc h) (le_of_suc-le-suc l)

pub rest_stays : RestStays
unfolding fitted
rest_stays [] [] i h = refl
rest_stays [] (b ∷ before) i h = refl
rest_stays (f ∷ fields) [] i h = refl
rest_stays (f ∷ fields) (b ∷ before) zero h = absurd (not-suc-le-zero h)
rest_stays (f ∷ fields) (b ∷ before) (suc i) h = rest_stays fields before i (le_of_suc-le-suc h)

pub one_handing : OneHanding
one_handing result fields before r r' after after' h h' = (h.returns ∙ sym h'.returns, h.leaves ∙ sym h'.leaves)

pub one_asking : OneAsking
one_asking index way names before out r r' after after' out₁ out₂ h h' =
    (one_handing _ _ out r r' out₁ out₂ h.hands h'.hands, h.slots ∙ sym h'.slots)

pub one_writing : OneWriting
one_writing u B cut slots before out r r' after after' out₁ out₂ h h' =
    (one_handing _ _ out r r' out₁ out₂ h.hands h'.hands, h.room ∙ sym h'.room)

pub one_closing : OneClosing
one_closing before u B D starts out r r' after after' out₁ out₂ h h' =
    (one_handing _ _ out r r' out₁ out₂ h.hands h'.hands, h.room ∙ sym h'.room)
