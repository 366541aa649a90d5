-- The bytes that closing makes, the records and then directory and trailer: read as an index, they have the numbers, the starts and the records that
-- were given.
use Prim.Native.Nat.{ℕ, ◌+◌, ◌-◌, ◌*◌, ◌≤◌, ◌<◌}
use mathlib.Core.Path.{◌≡◌, refl, sym, ap, ◌∙◌}
use mathlib.Core.List.{List, [], ◌∷◌, ◌++◌, append_assoc, flatten}
use native.Mathlib.Decide.{dec_lt}
use native.Mathlib.Omega.{arith}
use lib.ListN.{length, get_or, take, drop, length-append, length-drop, take-append-drop, get_or-eq_default}
use lib.Seq.{take-append-le, drop-append-le, length-take-le}
use borrow.Author.Tests.{le-ltb}
use Rattle.paper.specs.Bytes.{u32_bytes, part}
use Rattle.paper.specs.Refusal.{tag}
use Rattle.paper.specs.Index.{start_of}
use Rattle.paper.specs.Close.{frame_bytes}
use Rattle.laws.proofs.Lists.{at_any, Each}
use Rattle.laws.proofs.Parts.{AllBytes, all_join, all_none}
use Rattle.laws.proofs.Words.{length_words, all_word}
use Rattle.promises.proofs.IndexRows.{Word, words, Trailer, numbers_of, EndsIn, Ranged, Filled}
use Rattle.promises.proofs.IndexReads.{ends_length, k_read, d_read}
use Rattle.promises.proofs.IndexDirectory.{start_at}
use Rattle.promises.proofs.CloseRows.{Roomy}

-- the bytes that closing makes, or would make
abbrev pub made : List ℕ → ℕ → ℕ → ℕ → List ℕ → List ℕ
made before u B D starts = take D before ++ frame_bytes u B D starts

-- their trailer
abbrev pub trailer_of : List ℕ → ℕ → ℕ → ℕ → List ℕ → Trailer
trailer_of before u B D starts =
    record { before = take D before ++ words starts; edition = 1; u = u; B = B; k = length starts; D = D; last = tag }

-- directory and trailer, number by number
pub frame_is : (u B D : ℕ) (starts : List ℕ) → frame_bytes u B D starts ≡ words starts ++ (words (1 ∷ u ∷ B ∷ length starts ∷ D ∷ []) ++ tag)
unfolding frame_bytes flatten u32_bytes
frame_is u B D starts = simp append_assoc

-- the bytes of numbers are bytes
all_words : (xs : List ℕ) → AllBytes (words xs)
unfolding flatten
all_words [] = all_none
all_words (x ∷ xs) = all_join (u32_bytes x) (words xs) (all_word x) (all_words xs)

-- the tag is the bytes of a number too
all_tag : AllBytes tag
unfolding u32_bytes
all_tag = all_word 0x544f4c53

-- a part that lies before some bytes is the same without them
part_front : (xs ys : List ℕ) (a e : ℕ) → a ≤ e → e ≤ length xs → part (xs ++ ys) a e ≡ part xs a e
part_front xs ys a e l h =
    let n = length-drop a xs in
    ap (take (e - a)) (drop-append-le a xs ys (omega arith)) ∙ take-append-le (e - a) (drop a xs) ys (omega arith)

module _ (before : List ℕ) (u B D : ℕ) (starts : List ℕ) where
  abbrev m : List ℕ
  m = made before u B D starts

  abbrev t : Trailer
  t = trailer_of before u B D starts

  -- bytes, if the records are
  pub all_made : AllBytes (take D before) → AllBytes (made before u B D starts)
  all_made all =
      let five = numbers_of t in
      let frame = all_join (words starts) (words five ++ tag) (all_words starts) (all_join (words five) tag (all_words five) all_tag) in
      all_join (take D before) _ all (rw (frame_is u B D starts) frame)

  module _ (r : Roomy before u B D starts) where
    records_long : length (take D before) ≡ D
    records_long = let f = r.fits in length-take-le D before (omega arith)

    -- they end in the trailer
    pub made_ends : EndsIn m t
    made_ends =
        let b = r.bounded in
        let h = b.u_inside.1 in
        let i = b.b_inside.1 in
        let j = b.k_inside.1 in
        let s = r.small in
        record {
          is = ap (λ (l : List ℕ). take D before ++ l) (frame_is u B D starts) ∙ sym (append_assoc (take D before) (words starts) _);
          small = (omega arith, (omega arith, (omega arith, (omega arith, (omega arith, tt)))));
          four = refl;
        }

    -- and are as long as it says
    pub made_length : length m ≡ D + 4 * length starts + 24
    made_length =
        let d = records_long in
        let w = length_words starts in
        ends_length m t made_ends ∙ rw length-append (omega arith)

    -- rows 1 to 4 are passed
    made_ranged : Ranged m t
    made_ranged =
        let n = made_length in
        let s = r.small in
        let b = r.bounded in
        record {
          edited = record { tagged = record { sized = (omega arith, omega arith); ends = made_ends; tag = refl }; edition = refl };
          u = b.u_inside;
          B = b.b_inside;
          k = b.k_inside;
        }

    module _ (small : Each Word starts) where
      -- and the directory is the starts
      pub made_filled : Filled m t (take D before) starts
      made_filled =
          record { ranged = made_ranged; size = sym made_length; is = refl; long = records_long; count = refl; small = small }

      -- which are read back, and D behind them
      pub made_start : (i : ℕ) → start_of m i ≡ get_or starts i D
      unfolding start_of
      made_start i = go (dec_lt i (length starts))
        where
          go : Dec (i < length starts) → start_of m i ≡ get_or starts i D
          go (yes l) = start_at m t (take D before) starts made_filled i l ∙ at_any starts i 0 D l
          go (no g) =
              rw (k_read m t made_ends, le-ltb i (length starts) (omega arith))
              (d_read m t made_ends ∙ sym (get_or-eq_default starts D {n = i} (omega arith)))

    -- a part that lies before D is as it lay
    pub made_part : (a e : ℕ) → a ≤ e → e ≤ D → part m a e ≡ part before a e
    made_part a e l h =
        let d = records_long in
        part_front (take D before) _ a e l (omega arith)
        ∙ sym (part_front (take D before) (drop D before) a e l (omega arith))
        ∙ ap (λ (l : List ℕ). part l a e) (take-append-drop D before)
