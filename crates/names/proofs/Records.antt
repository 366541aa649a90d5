-- The record of a name of an accepted index: it lies within the index and has no fault. And the counts of all names, one after the other.
use Prim.Native.Nat.{ℕ, ◌+◌, ◌*◌, ◌≤◌, ◌<◌}
use mathlib.Core.Path.{◌≡◌, refl, sym, ap, ◌∙◌}
use mathlib.Core.List.{List, [], ◌∷◌, ◌++◌, map}
use native.Mathlib.Numerals.{add-one}
use native.Mathlib.Omega.{arith}
use lib.ListN.{length, get_or, take, set, length-set}
use lib.Seq.{take-suc, take-suc-set, take_all}
use Rattle.paper.specs.Bytes.{part, ceil_div}
use Rattle.paper.specs.Record.{cut_of, tail_count, record_fault}
use Rattle.paper.specs.Held.{count_of}
use Rattle.paper.specs.Index.{u_of, block_length, k_of, start_of, record_of}
use Rattle.paper.specs.Look.{look}
use Rattle.paper.specs.Ask.{named}
use Rattle.laws.proofs.Frames.{Accepted, looked, start_apart, start_within}
use Rattle.laws.proofs.Questions.{counts_many, count_at}
use Rattle.record.proofs.Opening.{bytes_inside, count_small}
use Rattle.names.specs.Asked.{Asked}

-- an index that looking accepts
module _ (bs : List ℕ) (ok : (look bs).number ≡ 0) where
  accepts : Accepted bs
  accepts = looked bs ok

  -- it has a trailer
  pub trailer_held : 24 ≤ length bs
  trailer_held = accepts.frame.least

  -- and a directory before it
  pub directory_held : 24 + 4 * k_of bs ≤ length bs
  directory_held = let s = accepts.frame.sum in omega arith

  -- u is at most 1,048,576
  pub u_small : (u : ℕ) → u ≡ u_of bs → u ≤ 1048576
  u_small u is = rw is accepts.frame.most_u

  -- B is not 0
  pub block_some : (B : ℕ) → B ≡ block_length bs → 0 < B
  block_some B is = rw is accepts.frame.some_b

  module _ (name : ℕ) (l : name < k_of bs) where
    -- a record lies from a to e
    module _ (a e : ℕ) (is_a : a ≡ start_of bs name) (isE : e ≡ start_of bs (name + 1)) where
      -- forward
      pub record_forward : a ≤ e
      record_forward = rw (is_a, isE) (let h = start_apart bs accepts.frame name l in omega arith)

      -- within the index
      pub record_within : e ≤ length bs
      record_within = rw isE (start_within bs accepts.frame (name + 1) (omega arith))

      -- and it is what stands there
      pub record_told : part bs a e ≡ record_of bs name
      record_told = rw (is_a, isE)

    -- r is the record of the name
    module _ (r : List ℕ) (isR : r ≡ record_of bs name) where
      -- it has no fault
      pub record_sound : (u B : ℕ) → u ≡ u_of bs → B ≡ block_length bs → record_fault u B (length r) r ≡ 0
      record_sound u B isU is_b = rw (isU, is_b, isR) (accepts.lists name l)

      -- its bits lie in it
      pub bits_there : 12 + ceil_div (cut_of r) 8 ≤ length r
      bits_there = bytes_inside (u_of bs) (block_length bs) r (record_sound (u_of bs) (block_length bs) refl refl) accepts.frame.some_b

      -- its slots are few
      pub sum_small : cut_of r + tail_count r ≤ 1048576
      sum_small = count_small (u_of bs) (block_length bs) r (record_sound (u_of bs) (block_length bs) refl refl) accepts.frame.some_b accepts.frame.most_u

-- Counting: of the names, i are counted
pub record Counting (bs names : List ℕ) (size : ℕ) (counts : List ℕ) (i : ℕ) : Type 0 where
  pub within : i ≤ length names
  pub long : length counts ≡ size
  pub room : length names ≤ size
  pub same : take i counts ≡ take i (map count_of (named bs names))

-- none is counted
pub counting_begin : (bs names counts : List ℕ) → length names ≤ length counts → Counting bs names (length counts) counts 0
counting_begin bs names counts l = record { within = omega arith; long = refl; room = l; same = refl }

module _ (bs names : List ℕ) (size : ℕ) (counts : List ℕ) (i : ℕ) (h : Counting bs names size counts i) where
  -- one more is
  pub counting_turn : i < length names → (r : List ℕ) (n : ℕ) → r ≡ record_of bs (get_or names i 0) → n ≡ count_of r
      → Counting bs names size (set counts i n) (i + 1)
  counting_turn l r n isR isN =
      let e = counts_many bs names in
      let g = h.room in
      let m = h.long in
      let room : i < length counts = omega arith in
      record {
        within = omega arith;
        long = length-set counts i n ∙ m;
        room = g;
        same =
            rw (add-one i, take-suc-set counts i n room, h.same, isN, isR)
            (sym (take-suc (map count_of (named bs names)) i 0 (omega arith) ∙ ap (λ (x : ℕ). take i (map count_of (named bs names)) ++ x ∷ []) (count_at bs names i l)));
      }

  -- all are
  pub counting_end : length names ≤ i → take (length names) counts ≡ map count_of (named bs names)
  counting_end l =
      let e = counts_many bs names in
      let w = h.within in
      let a : length names ≡ i = omega arith in
      rw a (h.same ∙ take_all i (map count_of (named bs names)) (omega arith))

-- a name of a question is one of the lists
pub name_good : (bs names : List ℕ) → Asked bs names → (i : ℕ) → i < length names → get_or names i 0 < k_of bs
name_good bs names a i l = a.below i l

-- what a turn of the counting needs: of the name, of its record, and of the counts
pub ruleset countings = (name_good, bits_there, sum_small, counting_turn)
