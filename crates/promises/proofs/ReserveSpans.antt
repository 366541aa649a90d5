-- [Order 6] How many bytes the codes of rising slots take in the blocks of a tail, by induction over the gaps; and so how many a record has.
use Prim.Native.Nat.{ℕ, zero, suc, ◌-◌, ◌/◌, ◌≤◌}
use mathlib.Core.Path.{◌≡◌, refl, ap}
use mathlib.Core.List.{List, [], ◌∷◌, ◌++◌, map, flatten}
use native.Mathlib.Omega.{arith}
use lib.ListN.{length, take, drop, length-append, take-append-drop}
use Rattle.paper.specs.Lists.{last_of}
use Rattle.paper.specs.Code.{code_bytes}
use Rattle.paper.specs.Write.{in_blocks, gap_codes, block_codes, encode}
use Rattle.paper.specs.Reserve.{most_bytes}
use Rattle.laws.proofs.Rounding.{RoundsUp, rounds_zero, rounds_some, rounds_pos, rounds_ceil, ceil_few}
use Rattle.laws.proofs.Parts.{no_length}
use Rattle.laws.proofs.Cutting.{blocks_less}
use Rattle.laws.proofs.Lengths.{encode_length}
use Rattle.meaning.proofs.Rising.{Ascends, last_within, rise_front, rise_back}
use Rattle.meaning.proofs.Parting.{above, cut_high}
use Rattle.promises.proofs.ReserveGaps.{Spans, spans_none, spans_join, code_spans}

-- the codes behind a slot
gaps_span : (u prev : ℕ) (xs : List ℕ) → Ascends u prev xs → Spans (length (gap_codes prev xs)) 0 (length xs) prev (last_of prev xs)
unfolding gap_codes
gaps_span u prev [] a = spans_none prev prev (omega arith)
gaps_span u prev (x ∷ xs) a =
    spans_join (code_bytes (x - prev - 1)) (gap_codes x xs) (code_spans prev x a.0) (omega arith) (gaps_span u x xs a.2) 0 _ refl (omega arith)

-- a block: its first slot has no code
block_spans : (u prev x : ℕ) (xs : List ℕ) → Ascends u prev (x ∷ xs) → Spans (length (block_codes (x ∷ xs))) 1 (suc (length xs)) prev (last_of x xs)
unfolding block_codes
block_spans u prev x xs a =
    let s = gaps_span u x xs a.2 in
    let l = a.0 in
    record { p = s.p; q = s.q; sum = omega (arith, s.sum); twos = omega (arith, s.twos); threes = omega (arith, s.threes) }

-- all blocks of a tail
tail_spans : (u B m prev : ℕ) (xs : List ℕ) → RoundsUp (length xs) B m → prev ≤ u → Ascends u prev xs
    → Spans (length (flatten (map block_codes (in_blocks B m xs)))) m (length xs) prev u
unfolding in_blocks flatten
tail_spans u B zero prev xs r l a = rw (no_length xs (rounds_zero (length xs) B r)) (spans_none prev u l)
tail_spans u B (suc m) prev [] r l a = absurd (let s = rounds_some 0 B m r in omega arith)
tail_spans u zero (suc m) prev (x ∷ xs) r l a = absurd (let s = rounds_pos (suc (length xs)) 0 (suc m) r in omega arith)
tail_spans u (suc B) (suc m) prev (x ∷ xs) r l a =
    let own = take B xs in
    let rest = drop B xs in
    let parted : own ++ rest ≡ xs = take-append-drop B xs in
    let rises : Ascends u x (own ++ rest) = rw parted a.2 in
    let front = rise_front u x own rest rises in
    let back = rise_back u x own rest rises in
    let first = block_spans u prev x own (a.0, a.1, front) in
    let others = tail_spans u (suc B) m (last_of x own) rest (blocks_less (suc B) (x ∷ xs) m r) (last_within u x own a.1 front) back in
    let size = length-append own rest in
    let all = ap length parted in
    spans_join (block_codes (x ∷ own)) (flatten (map block_codes (in_blocks (suc B) m rest))) first (omega arith) others (suc m) (suc (length xs)) (omega arith)
    (omega arith)

-- SO A RECORD of rising slots has at most so many bytes as are told of its cut and of how many slots lie above it
pub encode_within : (u B cut : ℕ) (slots : List ℕ) → 1 ≤ B → cut ≤ u → Ascends u 0 slots
    → length (encode B cut slots) ≤ most_bytes u B cut (length (above cut slots))
unfolding most_bytes
encode_within u B cut slots pos within a =
    let high = above cut slots in
    let s = tail_spans u B _ cut high (rounds_ceil (length high) B pos) within (cut_high cut u 0 slots a) in
    let few = ceil_few B pos (length high) in
    let size = encode_length B cut slots in
    let twos : s.p ≤ (u - cut) / 129 = omega (arith, s.twos) in
    let threes : s.q ≤ (u - cut) / 16385 = omega (arith, s.threes) in
    omega (arith, s.sum)
