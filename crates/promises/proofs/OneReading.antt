-- One reading: the bytes of an index settle its trailer, and those of a well-formed index its records too.
use Prim.Native.Nat.{ℕ, ◌-◌, ◌<◌}
use mathlib.Core.Path.{◌≡◌, sym, ap, ◌∙◌}
use mathlib.Core.List.{List, [], ◌++◌}
use native.Mathlib.Omega.{arith}
use lib.ListN.{length, get_or, take}
use lib.Seq.{take_at, ext_get_or}
use Rattle.promises.proofs.IndexRows.{words, Trailer, numbers_of, EndsIn, WellFormed}
use Rattle.promises.proofs.IndexReads.{ends_length, edition_read, u_read, b_read, k_read, d_read, last_read}
use Rattle.promises.proofs.IndexDirectory.{starts_count}
use Rattle.promises.proofs.IndexRecords.{record_is}

before_read : (bs : List ℕ) (t : Trailer) → EndsIn bs t → take (length bs - 24) bs ≡ t.before
before_read bs t e =
    let n = ends_length bs t e in
    let p : length t.before ≡ length bs - 24 = omega arith in
    ap (take (length bs - 24)) e.is ∙ take_at t.before (words (numbers_of t) ++ t.last) (length bs - 24) p

-- bytes end in one trailer at most
pub one_trailer : (bs : List ℕ) (t s : Trailer) → EndsIn bs t → EndsIn bs s → t ≡ s
one_trailer bs t s e f =
    let a = sym (before_read bs t e) ∙ before_read bs s f in
    let b = sym (edition_read bs t e) ∙ edition_read bs s f in
    let c = sym (u_read bs t e) ∙ u_read bs s f in
    let d = sym (b_read bs t e) ∙ b_read bs s f in
    let k = sym (k_read bs t e) ∙ k_read bs s f in
    let h = sym (d_read bs t e) ∙ d_read bs s f in
    let l = sym (last_read bs t e) ∙ last_read bs s f in
    λ j. record { before = a j; edition = b j; u = c j; B = d j; k = k j; D = h j; last = l j }

-- and a well-formed index is one list of records
pub one_index : (bs : List ℕ) (w v : WellFormed bs) → (w.trailer ≡ v.trailer) × (w.records ≡ v.records)
one_index bs w v =
    let t : w.trailer ≡ v.trailer
    = one_trailer bs w.trailer v.trailer w.packed.filled.ranged.edited.tagged.ends v.packed.filled.ranged.edited.tagged.ends in
    let k : w.trailer.k ≡ v.trailer.k = ap (λ (t : Trailer). t.k) t in
    let m : length w.records ≡ w.trailer.k = sym (starts_count 0 w.records) ∙ w.packed.filled.count in
    let n : length v.records ≡ v.trailer.k = sym (starts_count 0 v.records) ∙ v.packed.filled.count in
    let each : (i : ℕ) → i < length w.records → get_or w.records i [] ≡ get_or v.records i []
    = λ i l. sym (record_is bs w i (omega arith)) ∙ record_is bs v i (omega arith) in
    (t, ext_get_or [] w.records v.records (m ∙ k ∙ sym n) each)
