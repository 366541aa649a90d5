-- The lists of an accepted index: their slots rise in 1..u, there are as many as counted, bits tell up to the cut, the entries that a search
-- goes by rise and are the first slots of their blocks, and a list holds what its record was written to hold.
use Prim.Native.Nat.{ℕ, suc, ◌≤◌, ◌<◌, ◌+◌, ◌-◌, ◌*◌, min}
use mathlib.Core.Path.{◌≡◌, sym, ◌∙◌}
use mathlib.Core.Bool.{true}
use mathlib.Core.Logic.{◌↔◌}
use mathlib.Core.List.{List, []}
use native.Mathlib.Omega.{arith}
use lib.ListN.{length, get_or, drop}
use Rattle.paper.specs.Record.{cut_of, tail_count, bits_of, bit_at, tail_of, record_fault}
use Rattle.paper.specs.Held.{count_of, entry_of}
use Rattle.paper.specs.Index.{u_of, block_length, k_of, record_of, held, start_of}
use Rattle.paper.specs.Look.{look}
use Rattle.laws.proofs.Lists.{In, has_in, in_has}
use Rattle.laws.proofs.Parts.{AllBytes, all_take, all_drop, length_part}
use Rattle.laws.proofs.Frames.{looked, start_apart, start_within}
use Rattle.meaning.proofs.Rising.{Ascends}
use Rattle.meaning.proofs.Chains.{block_at}
use Rattle.meaning.proofs.Sound.{blocks_of, skips_of, contents_rise, contents_count, has_bit, blocks_number, block_size, entry_rise, entry_within, entry_first}
use Rattle.promises.proofs.RecordRows.{Holds}
use Rattle.promises.proofs.IndexRows.{WellFormed, Counts}
use Rattle.promises.proofs.RecordSlots.{record_held}
use Rattle.promises.proofs.IndexReads.{well_u, well_b, well_k}
use Rattle.promises.proofs.IndexLooks.{well_looked}
use Rattle.promises.proofs.IndexRecords.{record_is}

module _ (bs : List ℕ) (ok : (look bs).number ≡ 0) (i : ℕ) (l : i < k_of bs) where
  abbrev u : ℕ
  u = u_of bs

  abbrev B : ℕ
  B = block_length bs

  abbrev r : List ℕ
  r = record_of bs i

  some_b : 1 ≤ B
  some_b = (looked bs ok).frame.some_b

  free : record_fault u B (length r) r ≡ 0
  free = (looked bs ok).lists i l

  -- its slots rise
  pub list_rise : Ascends u 0 (held bs i)
  unfolding held
  list_rise = contents_rise u B r some_b free

  -- they are as many as it counts
  pub list_count : length (held bs i) ≡ count_of r
  unfolding held
  list_count = contents_count u B r some_b free

  -- up to the cut its bits tell
  pub list_bits : (x : ℕ) → 1 ≤ x → x ≤ cut_of r → In x (held bs i) ↔ (bit_at (bits_of r) x ≡ true)
  unfolding held
  list_bits x a b = (
    λ h. sym (has_bit u B r some_b free x a b) ∙ has_in x (held bs i) h,
    λ h. in_has x (held bs i) (has_bit u B r some_b free x a b ∙ h),
  )

  abbrev entry : ℕ → ℕ
  entry j = entry_of (cut_of r) (skips_of B r) j

  -- its entries rise
  pub list_entries : (a b : ℕ) → a < b → b ≤ blocks_of B r → entry a < entry b
  list_entries = entry_rise u B r some_b free

  -- within u
  pub list_bound : (a : ℕ) → a ≤ blocks_of B r → entry a ≤ u
  list_bound = entry_within u B r some_b free

  -- there are as many blocks as entries
  pub list_blocks : length (tail_of u B r).blocks ≡ blocks_of B r
  list_blocks = blocks_number u B r some_b free

  -- each has B slots but the last, which has those that are left
  pub list_sizes : (b : ℕ) → b < blocks_of B r → length (block_at (tail_of u B r).blocks b) ≡ min B (tail_count r - b * B)
  list_sizes = block_size u B r some_b free

  -- the entries are the first slots of their blocks
  pub list_first : (b : ℕ) → b < blocks_of B r → get_or (block_at (tail_of u B r).blocks b) 0 0 ≡ entry (suc b)
  unfolding entry_of
  list_first = entry_first u B r some_b free

  pub list_long : 12 ≤ length r
  list_long =
      let f = (looked bs ok).frame in
      let n = length_part bs (start_of bs i) (start_of bs (i + 1)) (start_within bs f (i + 1) (omega arith)) in
      let a = start_apart bs f i l in
      omega arith

  -- it holds what the bytes of its record say
  list_holds : AllBytes bs → (x : ℕ) → In x (held bs i) ↔ Holds u B r x
  unfolding held
  list_holds all x =
      let all-r = all_take (start_of bs (i + 1) - start_of bs i) (drop (start_of bs i) bs) (all_drop (start_of bs i) bs all) in
      let h = record_held u B r all-r some_b (looked bs ok).frame.most_u list_long free x in
      (λ m. h.0 (has_in x (held bs i) m), λ m. in_has x (held bs i) (h.1 m))

-- where the index is known by how it was written
module _ (bs : List ℕ) (all : AllBytes bs) (w : WellFormed bs) (i : ℕ) (l : i < w.trailer.k) where
  below : i < k_of bs
  below = rw (well_k bs w) l

  -- a list holds what the record that was written there holds
  pub well_holds : (x : ℕ) → In x (held bs i) ↔ Holds w.trailer.u w.trailer.B (get_or w.records i []) x
  well_holds x = rw (← well_u bs w, ← well_b bs w, ← record_is bs w i l) (list_holds bs (well_looked bs all w) i below all x)

  -- and so it counts
  pub well_counts : Counts w.trailer.u (Holds w.trailer.u w.trailer.B (get_or w.records i [])) (count_of (record_of bs i))
  well_counts =
      record {
        slots = held bs i;
        rising = rw (← well_u bs w) (list_rise bs (well_looked bs all w) i below);
        exactly = well_holds;
        long = list_count bs (well_looked bs all w) i below;
      }
