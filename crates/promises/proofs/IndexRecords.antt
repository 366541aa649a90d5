-- Record i of a well-formed index: the i-th that was written is the one that is read.
use Prim.Native.Nat.{ℕ, zero, suc, ◌+◌, ◌≤◌, ◌<◌}
use mathlib.Core.Path.{◌≡◌, ap, ◌∙◌}
use mathlib.Core.List.{List, [], ◌∷◌, ◌++◌, append_assoc, flatten}
use native.Mathlib.Nat.{zero-add}
use native.Mathlib.Omega.{arith}
use lib.ListN.{length, get_or, take, length-append}
use Rattle.paper.specs.Index.{start_of, record_in, record_of}
use Rattle.promises.proofs.IndexRows.{words, numbers_of, starts_from, WellFormed}
use Rattle.promises.proofs.IndexDirectory.{Lie, lie_start, record_read, starts_count}
use Rattle.promises.proofs.IndexFrame.{records_lie}

-- the j-th of records that lie one behind the other, the first being record i
module _ (bs : List ℕ) (start : ℕ → ℕ) (rest : List ℕ) where
  nth_read : (rs : List (List ℕ)) (i j : ℕ) (front : List ℕ) → bs ≡ front ++ (flatten rs ++ rest) → Lie start i (length front) rs → j < length rs
      → record_in bs start (i + j) ≡ get_or rs j []
  unfolding flatten
  nth_read [] i j front is l h = absurd (omega arith)
  nth_read (r ∷ rs) i zero front is l h =
      let here : bs ≡ front ++ (r ++ (flatten rs ++ rest)) = is ∙ rw append_assoc in
      let z : i + 0 ≡ i = omega arith in
      ap (record_in bs start) z ∙ record_read bs front r (flatten rs ++ rest) start i here l.0 (lie_start start (i + 1) (length front + length r) rs l.1)
  nth_read (r ∷ rs) i (suc j) front is l h =
      let here : bs ≡ front ++ r ++ (flatten rs ++ rest) = is ∙ rw (append_assoc, append_assoc) in
      let n = length-append front r in
      let z : i + suc j ≡ i + 1 + j = omega arith in
      ap (record_in bs start) z ∙ nth_read rs (i + 1) j (front ++ r) here (rw n l.1) (omega arith)

-- and where it starts: behind those before it
nth_start : (start : ℕ → ℕ) (rs : List (List ℕ)) (i j a : ℕ) → Lie start i a rs → j ≤ length rs → start (i + j) ≡ a + length (flatten (take j rs))
unfolding flatten
nth_start start rs i zero a l h =
    let z : i + 0 ≡ i = omega arith in
    let e : a ≡ a + 0 = omega arith in
    ap start z ∙ lie_start start i a rs l ∙ e
nth_start start [] i (suc j) a l h = absurd (omega arith)
nth_start start (r ∷ rs) i (suc j) a l h =
    let z : i + suc j ≡ i + 1 + j = omega arith in
    let n = length-append r (flatten (take j rs)) in
    let e : a + length r + length (flatten (take j rs)) ≡ a + length (r ++ flatten (take j rs)) = omega arith in
    ap start z ∙ nth_start start rs (i + 1) j (a + length r) l.1 (omega arith) ∙ e

module _ (bs : List ℕ) (w : WellFormed bs) (i : ℕ) (below : i < w.trailer.k) where
  there : i < length w.records
  there =
      let c = w.packed.filled.count in
      let n = starts_count 0 w.records in
      omega arith

  -- the i-th record
  pub record_is : record_of bs i ≡ get_or w.records i []
  record_is =
      let e = w.packed.filled.ranged.edited.tagged.ends in
      let is : bs ≡ flatten w.records ++ (words (starts_from 0 w.records) ++ (words (numbers_of w.trailer) ++ w.trailer.last))
      = e.is ∙ rw (w.packed.filled.is, append_assoc) in
      let r = nth_read bs (start_of bs) _ w.records 0 i [] is (records_lie bs w.trailer w.records w.packed) there in
      let z : i ≡ 0 + i = omega arith in
      ap (record_in bs (start_of bs)) z ∙ r

  -- which starts behind those before it
  pub start_is : start_of bs i ≡ length (flatten (take i w.records))
  start_is =
      let t = there in
      rw (zero-add, zero-add) at (nth_start (start_of bs) w.records 0 i 0 (records_lie bs w.trailer w.records w.packed) (omega arith))
