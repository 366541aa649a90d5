-- The walk of candidates through one list, turn by turn: what is kept so far and the walk of those still to be tried is the walk of all.
use Prim.Native.Nat.{ℕ, ◌+◌, ◌*◌, ◌≤◌, ◌<◌}
use mathlib.Core.Path.{◌≡◌, refl, sym, ap, ◌∙◌}
use mathlib.Core.Bool.{Bool, true, false}
use mathlib.Core.List.{List, [], ◌∷◌, ◌++◌, append_assoc, append-nil}
use native.Mathlib.Nat.{add-zero}
use native.Mathlib.Numerals.{add-one}
use native.Mathlib.Omega.{arith}
use mir.Val.{bool_byte as from_bool}
use lib.Dec.{eqb}
use lib.ListN.{length, get_or, take, drop, set, length-set, drop_of_length-le}
use lib.Seq.{take-suc-set, drop-cons, drop-set-lt, take-set-le}
use Rattle.paper.specs.Lists.{bit_of}
use Rattle.paper.specs.Held.{Listed}
use Rattle.paper.specs.Walk.{tried, walk_list}
use Rattle.record.specs.Front.{Candidates}
use Rattle.search.specs.declared.Step.{Step}
use Rattle.search.specs.Told.{told}
use Rattle.skips.specs.Walks.{Walks}

-- Of the candidates in xs, i are tried, w of them kept at the front of s, with the finger at p from then on
pub record Head (l : Listed) (xs s : List ℕ) (w i p looks codes : ℕ) : Type 0 where
  pub behind : w ≤ i
  pub long : length s ≡ length xs
  pub unread : drop i s ≡ drop i xs
  pub kept : take w s ++ (walk_list l p (drop i xs)).kept ≡ (walk_list l 0 xs).kept
  pub all_looks : looks + (walk_list l p (drop i xs)).looks ≡ (walk_list l 0 xs).looks
  pub codes_of_all : codes + (walk_list l p (drop i xs)).codes ≡ (walk_list l 0 xs).codes
  pub few_looks : looks ≤ 4294967296 * i
  pub few_codes : codes ≤ 4294967296 * i

-- none is tried
pub begin : (l : Listed) (xs : List ℕ) → Head l xs xs 0 0 0 0 0
begin l xs =
    record {
      behind = omega arith;
      long = refl;
      unread = refl;
      kept = refl;
      all_looks = omega arith;
      codes_of_all = omega arith;
      few_looks = omega arith;
      few_codes = omega arith;
    }

-- a test as a number
as_bit : (f : Bool) → from_bool f ≡ bit_of f
as_bit true = refl
as_bit false = refl

bit_small : (f : Bool) → bit_of f ≤ 1
bit_small true = omega arith
bit_small false = omega arith

-- a walk whose first candidate is found, and one whose first is not
module _ (l : Listed) (p x : ℕ) (xs : List ℕ) where
  pub found_first : eqb (tried l p x).slot x ≡ true → (walk_list l p (x ∷ xs)).kept ≡ x ∷ (walk_list l (tried l p x).finger xs).kept
  unfolding walk_list
  found_first e = rw e

  pub lost_first : eqb (tried l p x).slot x ≡ false → (walk_list l p (x ∷ xs)).kept ≡ (walk_list l (tried l p x).finger xs).kept
  unfolding walk_list
  lost_first e = rw e

  pub first_looks : (walk_list l p (x ∷ xs)).looks ≡ (tried l p x).looks + (walk_list l (tried l p x).finger xs).looks
  unfolding walk_list
  first_looks = refl

  pub first_codes : (walk_list l p (x ∷ xs)).codes ≡ (tried l p x).codes + (walk_list l (tried l p x).finger xs).codes
  unfolding walk_list
  first_codes = refl

module _ (l : Listed) (xs s : List ℕ) (w i p looks codes : ℕ) (h : Head l xs s w i p looks codes) where
  module _ (less : i < length xs) where
    first : drop i s ≡ get_or s i 0 ∷ drop (i + 1) s
    first = rw (add-one i) (drop-cons s i 0 (let g = h.long in omega arith))

    firstₓ : drop i xs ≡ get_or xs i 0 ∷ drop (i + 1) xs
    firstₓ = rw (add-one i) (drop-cons xs i 0 less)

    both : get_or s i 0 ∷ drop (i + 1) s ≡ get_or xs i 0 ∷ drop (i + 1) xs
    both = sym first ∙ h.unread ∙ firstₓ

    -- the candidate and those behind it, as they came
    same : get_or s i 0 ≡ get_or xs i 0
    same = ap (λ (l : List ℕ). get_or l 0 0) both

    later : drop (i + 1) s ≡ drop (i + 1) xs
    later = ap (drop 1) both

    -- it is not 0
    pub some : Candidates (length xs) xs → 0 < get_or s i 0
    some c = rw same (c.some i less)

    module _ (t : Step Bool) (e : t ≡ told (get_or s i 0) (tried l p (get_or s i 0))) where
      split : drop i xs ≡ get_or s i 0 ∷ drop (i + 1) xs
      split = rw same firstₓ

      finger_is : t.finger ≡ (tried l p (get_or s i 0)).finger
      finger_is = ap (λ (t : Step Bool). t.finger) e

      looks_on : looks + t.looks + (walk_list l t.finger (drop (i + 1) xs)).looks ≡ (walk_list l 0 xs).looks
      looks_on =
          let a = rw split at h.all_looks in
          let b = first_looks l p (get_or s i 0) (drop (i + 1) xs) in
          let c : t.looks ≡ (tried l p (get_or s i 0)).looks = ap (λ (t : Step Bool). t.looks) e in
          rw finger_is (omega arith)

      codes_on : codes + t.codes + (walk_list l t.finger (drop (i + 1) xs)).codes ≡ (walk_list l 0 xs).codes
      codes_on =
          let a = rw split at h.codes_of_all in
          let b = first_codes l p (get_or s i 0) (drop (i + 1) xs) in
          let c : t.codes ≡ (tried l p (get_or s i 0)).codes = ap (λ (t : Step Bool). t.codes) e in
          rw finger_is (omega arith)

      -- what is left of the first candidate and of those behind it
      abbrev left : List ℕ
      left = (walk_list l (tried l p (get_or s i 0)).finger (drop (i + 1) xs)).kept

      -- found or not, the place behind those kept then holds what the walk keeps
      keeps : (f : Bool) → t.told ≡ f → take (w + bit_of f) (set s w (get_or s i 0)) ++ left ≡ (walk_list l 0 xs).kept
      keeps true f =
          let b = h.behind in
          let g = h.long in
          let x = get_or s i 0 in
          rw (add-one w, take-suc-set s w x (omega arith), append_assoc)
          (ap (λ (k : List ℕ). take w s ++ k) (sym (found_first l p x (drop (i + 1) xs) (sym (ap (λ (t : Step Bool). t.told) e) ∙ f))) ∙ rw split at h.kept)
      keeps false f =
          let b = h.behind in
          let g = h.long in
          let x = get_or s i 0 in
          rw (add-zero w, take-set-le w s w x (omega arith))
          (ap (λ (k : List ℕ). take w s ++ k) (sym (lost_first l p x (drop (i + 1) xs) (sym (ap (λ (t : Step Bool). t.told) e) ∙ f))) ∙ rw split at h.kept)

      -- stored in any case: the place behind those kept moves on where it is found
      pub turn : t.looks < 4294967296 → t.codes < 4294967296 → (m looks₁ codes₁ : ℕ) → m ≡ from_bool t.told → looks₁ ≡ t.looks → codes₁ ≡ t.codes
          → Head l xs (set s w (get_or s i 0)) (w + m) (i + 1) t.finger (looks + looks₁) (codes + codes₁)
      turn few₁ few₂ m looks₁ codes₁ isM isL isC =
          let g = h.long in
          let a = h.few_looks in
          let c = h.few_codes in
          let b = h.behind in
          let o = bit_small t.told in
          let is : m ≡ bit_of t.told = isM ∙ as_bit t.told in
          record {
            behind = rw is (omega arith);
            long = length-set s w (get_or s i 0) ∙ h.long;
            unread = rw (drop-set-lt (i + 1) s w (get_or s i 0) (omega arith)) later;
            kept = rw (is, finger_is) (keeps t.told refl);
            all_looks = rw isL looks_on;
            codes_of_all = rw isC codes_on;
            few_looks = omega arith;
            few_codes = omega arith;
          }

  -- all are tried
  pub end : length xs ≤ i → i ≤ length xs → length xs ≤ 1048576 → Walks (walk_list l 0 xs) (record { count = w; looks = looks; codes = codes }) s
  unfolding walk_list
  end done within small =
      let b = h.behind in
      let g = h.long in
      let fl = h.few_looks in
      let fc = h.few_codes in
      let nothing : drop i xs ≡ [] = drop_of_length-le xs (omega arith) in
      let a = rw nothing at h.all_looks in
      let c = rw nothing at h.codes_of_all in
      record {
        slots = record { few = omega arith; are = sym (append-nil (take w s)) ∙ rw nothing at h.kept };
        looks = omega arith;
        codes = omega arith;
        few_looks = omega arith;
        few_codes = omega arith;
      }
