-- The walk of the first n candidates of a slice: what a turn leaves where a candidate is found, which is kept, and where it is not. `Walking` has the turns of the walk as it
-- is now, whose candidates are all that the slice has.
use Prim.Native.Nat.{ℕ, ◌+◌, ◌*◌, ◌≤◌, ◌<◌}
use mathlib.Core.Path.{◌≡◌, refl, sym, ap, ◌∙◌}
use mathlib.Core.Bool.{Bool, true, false}
use mathlib.Core.List.{List, ◌∷◌, ◌++◌, append_assoc}
use native.Mathlib.Numerals.{add-one}
use native.Mathlib.Omega.{arith}
use lib.Dec.{eqb}
use lib.ListN.{length, get_or, take, drop, set, length-set}
use lib.Seq.{take-suc-set, drop-set-lt, take-set-lt, slice, slice-cons}
use Rattle.paper.specs.Held.{Listed}
use Rattle.paper.specs.Walk.{tried, walk_list}
use Rattle.search.specs.declared.Step.{Step}
use Rattle.search.specs.Told.{told}
use Rattle.skips.proofs.Walking.{found_first, lost_first, first_looks, first_codes}

-- Of n candidates in xs, i are tried, w of them kept at the front of s, with the finger at p from then on
pub record Head (l : Listed) (xs : List ℕ) (n : ℕ) (s : List ℕ) (w i p looks codes : ℕ) : Type 0 where
  pub behind : w ≤ i
  pub within : i ≤ n
  pub room : n ≤ length s
  pub long : length s ≡ length xs
  pub unread : slice i n s ≡ slice i n xs
  pub kept : take w s ++ (walk_list l p (slice i n xs)).kept ≡ (walk_list l 0 (slice 0 n xs)).kept
  pub all_looks : looks + (walk_list l p (slice i n xs)).looks ≡ (walk_list l 0 (slice 0 n xs)).looks
  pub codes_of_all : codes + (walk_list l p (slice i n xs)).codes ≡ (walk_list l 0 (slice 0 n xs)).codes
  pub few_looks : looks ≤ 4294967296 * i
  pub few_codes : codes ≤ 4294967296 * i

module _ (l : Listed) (xs : List ℕ) (n : ℕ) (s : List ℕ) (w i p looks codes : ℕ) (h : Head l xs n s w i p looks codes) where
  module _ (less : i < n) where
    first : slice i n s ≡ get_or s i 0 ∷ slice (i + 1) n s
    first = rw (add-one i) (slice-cons i n s 0 less h.room)

    firstₓ : slice i n xs ≡ get_or xs i 0 ∷ slice (i + 1) n xs
    firstₓ = rw (add-one i) (slice-cons i n xs 0 less (let r = h.room in let g = h.long in omega arith))

    both : get_or s i 0 ∷ slice (i + 1) n s ≡ get_or xs i 0 ∷ slice (i + 1) n xs
    both = sym first ∙ h.unread ∙ firstₓ

    -- the candidate and those behind it, as they came
    same : get_or s i 0 ≡ get_or xs i 0
    same = ap (λ (l : List ℕ). get_or l 0 0) both

    later : slice (i + 1) n s ≡ slice (i + 1) n xs
    later = ap (drop 1) both

    module _ (t : Step Bool) (e : t ≡ told (get_or s i 0) (tried l p (get_or s i 0))) where
      split : slice i n xs ≡ get_or s i 0 ∷ slice (i + 1) n xs
      split = rw same firstₓ

      finger_is : t.finger ≡ (tried l p (get_or s i 0)).finger
      finger_is = ap (λ (t : Step Bool). t.finger) e

      looks_on : looks + t.looks + (walk_list l t.finger (slice (i + 1) n xs)).looks ≡ (walk_list l 0 (slice 0 n xs)).looks
      looks_on =
          let a = rw split at h.all_looks in
          let b = first_looks l p (get_or s i 0) (slice (i + 1) n xs) in
          let c : t.looks ≡ (tried l p (get_or s i 0)).looks = ap (λ (t : Step Bool). t.looks) e in
          rw finger_is (omega arith)

      codes_on : codes + t.codes + (walk_list l t.finger (slice (i + 1) n xs)).codes ≡ (walk_list l 0 (slice 0 n xs)).codes
      codes_on =
          let a = rw split at h.codes_of_all in
          let b = first_codes l p (get_or s i 0) (slice (i + 1) n xs) in
          let c : t.codes ≡ (tried l p (get_or s i 0)).codes = ap (λ (t : Step Bool). t.codes) e in
          rw finger_is (omega arith)

      module _ (fewL : t.looks < 4294967296) (fewC : t.codes < 4294967296) where
        -- s₂ holds one of them more at its front, or none
        on : (s₂ : List ℕ) (w₂ : ℕ) → w₂ ≤ i + 1 → length s₂ ≡ length s → slice (i + 1) n s₂ ≡ slice (i + 1) n xs
            → take w₂ s₂ ++ (walk_list l (tried l p (get_or s i 0)).finger (slice (i + 1) n xs)).kept ≡ (walk_list l 0 (slice 0 n xs)).kept
            → Head l xs n s₂ w₂ (i + 1) t.finger (looks + t.looks) (codes + t.codes)
        on s₂ w₂ b long unread kept =
            let r = h.room in
            let a = h.few_looks in
            let c = h.few_codes in
            record {
              behind = b;
              within = omega arith;
              room = omega arith;
              long = long ∙ h.long;
              unread = unread;
              kept = rw finger_is kept;
              all_looks = looks_on;
              codes_of_all = codes_on;
              few_looks = omega arith;
              few_codes = omega arith;
            }

        found_is : t.told ≡ eqb (tried l p (get_or s i 0)).slot (get_or s i 0)
        found_is = ap (λ (t : Step Bool). t.told) e

        -- found: it is kept
        pub turn_found : t.told ≡ true → Head l xs n (set s w (get_or s i 0)) (w + 1) (i + 1) t.finger (looks + t.looks) (codes + t.codes)
        turn_found f =
            let b = h.behind in
            let r = h.room in
            let x = get_or s i 0 in
            on (set s w x) (w + 1) (omega arith) (length-set s w x)
            (rw (take-set-lt n s w x (omega arith), drop-set-lt (i + 1) (take n s) w x (omega arith)) later)
            (rw (add-one w, take-suc-set s w x (omega arith), append_assoc)
            (ap (λ (k : List ℕ). take w s ++ k) (sym (found_first l p x (slice (i + 1) n xs) (sym found_is ∙ f))) ∙ rw split at h.kept))

        -- not found: it is not
        pub turn_lost : t.told ≡ false → Head l xs n s w (i + 1) t.finger (looks + t.looks) (codes + t.codes)
        turn_lost f =
            let b = h.behind in
            on s w (omega arith) refl later
            (ap (λ (k : List ℕ). take w s ++ k) (sym (lost_first l p (get_or s i 0) (slice (i + 1) n xs) (sym found_is ∙ f))) ∙ rw split at h.kept)
