-- The lists of an accepted index are what is written from their cuts and slots. So two accepted indexes that hold the same lists, cut at the same
-- slots, are the same bytes.
use Prim.Native.Nat.{ℕ, ◌+◌, ◌-◌, ◌≤◌, ◌<◌}
use mathlib.Core.Path.{◌≡◌, sym, ap, ◌∙◌}
use mathlib.Core.Logic.{◌↔◌}
use mathlib.Core.List.{List, [], ◌++◌, flatten}
use native.Mathlib.Omega.{arith}
use lib.ListN.{length, get_or, drop}
use lib.Seq.{ext_get_or}
use Rattle.paper.specs.Record.{cut_of, record_fault}
use Rattle.paper.specs.Held.{contents}
use Rattle.paper.specs.Write.{encode}
use Rattle.paper.specs.Index.{u_of, block_length, k_of, record_of, held, start_of}
use Rattle.paper.specs.Look.{look}
use Rattle.paper.specs.OneList.{name_fault, lent}
use Rattle.laws.proofs.Lists.{has_in, in_has}
use Rattle.laws.proofs.Parts.{AllBytes, all_take, all_drop}
use Rattle.laws.proofs.Frames.{looked}
use Rattle.laws.proofs.Names.{named}
use Rattle.meaning.proofs.Sound.{contents_rise}
use Rattle.promises.proofs.RecordRows.{RecordSound, Holds}
use Rattle.promises.proofs.RecordNumbers.{sound_accepted, sound_cut}
use Rattle.promises.proofs.RecordSlots.{record_held}
use Rattle.promises.proofs.QuestionNumbers.{same_rising}
use Rattle.promises.proofs.IndexRows.{words, Trailer, numbers_of, starts_from, WellFormed}
use Rattle.promises.proofs.IndexReads.{well_u, well_b, well_k}
use Rattle.promises.proofs.IndexDirectory.{starts_count}
use Rattle.promises.proofs.IndexRecords.{record_is}
use Rattle.promises.proofs.IndexNumbers.{look_by_the_table}
use Rattle.promises.proofs.AcceptedLists.{list_long}
use Rattle.promises.proofs.OperationAnswers.{lent_record}
use Rattle.promises.proofs.WrittenRecords.{contents_written, one_record}

-- Two records that are sound by what is written there, with the same cut and the same slots, are the same bytes
module _ (u B : ℕ) (r s : List ℕ) (all-r : AllBytes r) (all-s : AllBytes s) (pos : 1 ≤ B) (small : u ≤ 1048576) (long-r : 12 ≤ length r)
    (long-s : 12 ≤ length s) (p : RecordSound u B r) (q : RecordSound u B s) where
  free_r : record_fault u B (length r) r ≡ 0
  free_r = sound_accepted u B r small p

  free_s : record_fault u B (length s) s ≡ 0
  free_s = sound_accepted u B s small q

  slots_same : ((x : ℕ) → Holds u B r x ↔ Holds u B s x) → contents u B r ≡ contents u B s
  slots_same alike =
      same_rising u u (contents u B r) (contents u B s) (contents_rise u B r pos free_r) (contents_rise u B s pos free_s) λ x.
      let a = record_held u B r all-r pos small long-r free_r x in
      let b = record_held u B s all-s pos small long-s free_s x in (
        λ i. in_has x _ (b.1 ((alike x).0 (a.0 (has_in x _ i)))),
        λ i. in_has x _ (a.1 ((alike x).1 (b.0 (has_in x _ i)))),
      )

  pub one_record_held : p.cut ≡ q.cut → ((x : ℕ) → Holds u B r x ↔ Holds u B s x) → r ≡ s
  one_record_held c-is alike =
      one_record u B r s all-r all-s pos small long-r long-s free_r free_s (sound_cut u B r small p ∙ c-is ∙ sym (sound_cut u B s small q)) (slots_same alike)

-- a record of an index is bytes
record_bytes : (bs : List ℕ) (i : ℕ) → AllBytes bs → AllBytes (record_of bs i)
record_bytes bs i all = all_take (start_of bs (i + 1) - start_of bs i) (drop (start_of bs i) bs) (all_drop (start_of bs i) bs all)

-- a list of an accepted index is what is written from its cut and its slots
pub list_written : (bs : List ℕ) → AllBytes bs → (look bs).number ≡ 0 → (i : ℕ) → i < k_of bs
    → record_of bs i ≡ encode (block_length bs) (cut_of (record_of bs i)) (held bs i)
unfolding held
list_written bs all ok i l =
    let f = looked bs ok in
    contents_written (u_of bs) (block_length bs) (record_of bs i) (record_bytes bs i all) f.frame.some_b f.frame.most_u (list_long bs ok i l) (f.lists i l)

-- and so is what is lent of it
pub lent_written : (bs : List ℕ) (name : ℕ) → AllBytes bs → (name_fault bs name).number ≡ 0
    → lent bs name ≡ encode (block_length bs) (cut_of (lent bs name)) (held bs name)
lent_written bs name all ok =
    let n = named bs name ok in
    rw (lent_record bs name ok) (list_written bs all n.looked name n.below)

-- records and their starts, with the numbers of the trailer, make up a well-formed index
module _ (bs : List ℕ) (w : WellFormed bs) where
  count_is : length w.records ≡ w.trailer.k
  count_is = sym (starts_count 0 w.records) ∙ w.packed.filled.count

-- two of them with the same records
module _ (bs cs : List ℕ) (w : WellFormed bs) (v : WellFormed cs) (u_same : w.trailer.u ≡ v.trailer.u) (B-same : w.trailer.B ≡ v.trailer.B)
    (same : w.records ≡ v.records) where
  trailer_same : w.trailer ≡ v.trailer
  trailer_same =
      let a : w.trailer.before ≡ v.trailer.before
      = w.packed.filled.is ∙ ap (λ (rs : List (List ℕ)). flatten rs ++ words (starts_from 0 rs)) same ∙ sym v.packed.filled.is in
      let e : w.trailer.edition ≡ v.trailer.edition = w.packed.filled.ranged.edited.edition ∙ sym v.packed.filled.ranged.edited.edition in
      let k : w.trailer.k ≡ v.trailer.k = sym (count_is bs w) ∙ ap length same ∙ count_is cs v in
      let d : w.trailer.D ≡ v.trailer.D
      = sym w.packed.filled.long ∙ ap (λ (rs : List (List ℕ)). length (flatten rs)) same ∙ v.packed.filled.long in
      let l : w.trailer.last ≡ v.trailer.last = w.packed.filled.ranged.edited.tagged.tag ∙ sym v.packed.filled.ranged.edited.tagged.tag in
      λ j. record { before = a j; edition = e j; u = u_same j; B = B-same j; k = k j; D = d j; last = l j }

  bytes_same : bs ≡ cs
  bytes_same =
      w.packed.filled.ranged.edited.tagged.ends.is ∙ ap (λ (t : Trailer). t.before ++ (words (numbers_of t) ++ t.last)) trailer_same
      ∙ sym v.packed.filled.ranged.edited.tagged.ends.is

-- two accepted indexes
module _ (bs cs : List ℕ) (all-b : AllBytes bs) (all-c : AllBytes cs) (ok-b : (look bs).number ≡ 0) (ok-c : (look cs).number ≡ 0) (u_same : u_of bs ≡ u_of cs)
    (B-same : block_length bs ≡ block_length cs) (k_same : k_of bs ≡ k_of cs) where
  -- list i of each, with the same cut and the same slots
  record_same : (i : ℕ) → i < k_of bs → cut_of (record_of bs i) ≡ cut_of (record_of cs i) → held bs i ≡ held cs i → record_of bs i ≡ record_of cs i
  unfolding held
  record_same i l c-is x-is =
      let f = looked bs ok-b in
      let h : i < k_of cs = rw (← k_same) l in
      let free : record_fault (u_of bs) (block_length bs) (length (record_of cs i)) (record_of cs i) ≡ 0 = rw (u_same, B-same) ((looked cs ok-c).lists i h) in
      let slots : contents (u_of bs) (block_length bs) (record_of bs i) ≡ contents (u_of bs) (block_length bs) (record_of cs i) = x-is ∙ rw (u_same, B-same) in
      one_record (u_of bs) (block_length bs) (record_of bs i) (record_of cs i) (record_bytes bs i all-b) (record_bytes cs i all-c) f.frame.some_b
      f.frame.most_u (list_long bs ok-b i l) (list_long cs ok-c i h) (f.lists i l) free c-is slots

  -- where all have, the bytes are the same
  pub one_index_for : ((i : ℕ) → i < k_of bs → (cut_of (record_of bs i) ≡ cut_of (record_of cs i)) × (held bs i ≡ held cs i)) → bs ≡ cs
  one_index_for alike =
      let w = (look_by_the_table bs all-b).accepts.0 ok-b in
      let v = (look_by_the_table cs all-c).accepts.0 ok-c in
      let n-b : length w.records ≡ k_of bs = count_is bs w ∙ sym (well_k bs w) in
      let n-c : length v.records ≡ k_of cs = count_is cs v ∙ sym (well_k cs v) in
      let each : (i : ℕ) → i < length w.records → get_or w.records i [] ≡ get_or v.records i []
      = λ i l.
      let h : i < k_of bs = omega arith in
      let a = alike i h in
      sym (record_is bs w i (rw (← count_is bs w) l)) ∙ record_same i h a.0 a.1 ∙ record_is cs v i (rw (← well_k cs v, ← k_same) h) in
      bytes_same bs cs w v (sym (well_u bs w) ∙ u_same ∙ well_u cs v) (sym (well_b bs w) ∙ B-same ∙ well_b cs v)
      (ext_get_or [] w.records v.records (n-b ∙ k_same ∙ sym n-c) each)
