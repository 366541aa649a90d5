-- Every list of bytes is an index that some row refuses, or one that is well formed.
use Prim.Native.Nat.{ℕ, ◌+◌, ◌-◌, ◌*◌}
use mathlib.Core.Path.{◌≡◌, sym, ap, subst, subst₂, ◌∙◌}
use mathlib.Core.Logic.{◌⊎◌}
use mathlib.Core.Logic.◌⊎◌.{inl, inr}
use mathlib.Core.List.{List, [], ◌∷◌, ◌++◌, append-nil, flatten}
use native.Mathlib.Decide.{dec_le, ℕ_discrete}
use native.Mathlib.Omega.{arith}
use lib.ListN.{length, take, drop, length-drop, take-append-drop, drop_of_length-le}
use lib.Seq.{length-take-le}
use Rattle.laws.proofs.Parts.{AllBytes, all_drop, all_front}
use Rattle.laws.proofs.Equals.{same_dec}
use Rattle.promises.proofs.IndexRows.{Inside, Outside, words, Trailer, EndsIn, Sized, Tagged, Edited, Ranged, Filled, starts_from, Packed, Refused, WellFormed}
use Rattle.promises.proofs.IndexRows.Refused.{short, long, tag, edition, u_range, b_range, k_range, size, first, tight, list}
use Rattle.promises.proofs.IndexReads.{ending, ends_length, numbers, numbers_count, numbers_small, numbers_are}
use Rattle.promises.proofs.IndexDirectory.{spaced_or, parted}
use Rattle.promises.proofs.IndexLists.{lists_or}
use Rattle.promises.proofs.IndexLooks.{whole_records}

-- EVERY LIST OF BYTES is refused by some row or is well formed
pub data Judged (bs : List ℕ) : Type 0 where
  bad : (r p : ℕ) → Refused bs r p → Judged bs
  good : WellFormed bs → Judged bs

-- a number lies inside a range or outside
pub inside_or : (lo hi x : ℕ) → Inside lo hi x ⊎ Outside lo hi x
inside_or lo hi x =
    elim (dec_le lo x) [
      | no g ↦ inr (inl (omega arith))
      | yes l ↦
          elim (dec_le x hi) [
            | no g ↦ inr (inr (omega arith))
            | yes h ↦ inl (l, h)
          ]
    ]

module _ (bs : List ℕ) (all : AllBytes bs) where
  -- the lists
  by_lists : (t : Trailer) (records : List (List ℕ)) → Packed bs t records → Judged bs
  by_lists t records f =
      let g = f.filled.ranged in
      elim (lists_or t.u t.B g.B.0 g.u.1 records (whole_records bs t records f all)) [
        | inl s ↦ good (record { trailer = t; records = records; packed = f; sound = s })
        | inr w ↦
            let p : Packed bs t (w.front ++ w.bad ∷ w.behind) = subst (λ (rs : List (List ℕ)). Packed bs t rs) w.is f in
            bad w.number (length w.front) (list t w.front w.bad w.behind p w.sound w.refused)
      ]

  -- the starts
  filled_as : (t : Trailer) (xs ys ss ts : List ℕ) → xs ≡ ys → ss ≡ ts → Filled bs t xs ss → Filled bs t ys ts
  filled_as t xs ys ss ts p q f = subst₂ (λ (x : List ℕ) (s : List ℕ). Filled bs t x s) p q f

  by_starts : (t : Trailer) (records starts : List ℕ) → Filled bs t records starts → Judged bs
  by_starts t records [] f = absurd (let c = f.count in let k = f.ranged.k.0 in omega arith)
  by_starts t records (s ∷ ss) f =
      elim (ℕ_discrete s 0) [
        | no n ↦ bad 5 0 (first t records s ss f n)
        | yes z ↦
            elim (spaced_or ss s t.D) [
              | inr w ↦ bad 5 0 (tight t records (s ∷ ss) f w.front w.behind w.s w.e w.is w.short)
              | inl w ↦
                  let l = f.long in
                  let p = parted ss s t.D records w (omega arith) in
                  let from : s ∷ ss ≡ starts_from 0 p.records = p.from ∙ ap (λ (a : ℕ). starts_from a p.records) z in
                  by_lists t p.records (record { filled = filled_as t records (flatten p.records) (s ∷ ss) _ p.is from f; long = p.long })
            ]
      ]

  -- the directory
  filled : (t : Trailer) → Ranged bs t → t.D + 4 * t.k + 24 ≡ length bs → Filled bs t (take t.D t.before) (numbers t.k (drop t.D t.before))
  filled t g h =
      let e = g.edited.tagged.ends in
      let n = ends_length bs t e in
      let front : AllBytes t.before = all_front t.before _ (subst AllBytes e.is all) in
      let back : AllBytes (drop t.D t.before) = all_drop t.D t.before front in
      let d : length (drop t.D t.before) ≡ length t.before - t.D = length-drop t.D t.before in
      let none : drop (4 * t.k) (drop t.D t.before) ≡ [] = drop_of_length-le (drop t.D t.before) {i = 4 * t.k} (omega arith) in
      let ws = words (numbers t.k (drop t.D t.before)) in
      record {
        ranged = g;
        size = h;
        is =
            sym (take-append-drop t.D t.before)
            ∙ ap (λ (l : List ℕ). take t.D t.before ++ l)
            (numbers_are t.k (drop t.D t.before) back (omega arith) ∙ ap (λ (l : List ℕ). ws ++ l) none ∙ append-nil ws);
        long = length-take-le t.D t.before (omega arith);
        count = numbers_count t.k (drop t.D t.before);
        small = numbers_small t.k (drop t.D t.before) back;
      }

  by_size : (t : Trailer) → Ranged bs t → Judged bs
  by_size t g =
      elim (ℕ_discrete (t.D + 4 * t.k + 24) (length bs)) [
        | no n ↦ bad 5 0 (size t g n)
        | yes h ↦ by_starts t _ _ (filled t g h)
      ]

  -- the trailer
  by_ranges : (t : Trailer) → Edited bs t → Judged bs
  by_ranges t g =
      elim (inside_or 1 1048576 t.u) [
        | inr o ↦ bad 4 0 (u_range t g o)
        | inl hu ↦
            elim (inside_or 1 128 t.B) [
              | inr o ↦ bad 4 0 (b_range t g o)
              | inl hB ↦
                  elim (inside_or 1 4096 t.k) [
                    | inr o ↦ bad 4 0 (k_range t g o)
                    | inl hk ↦ by_size t (record { edited = g; u = hu; B = hB; k = hk })
                  ]
            ]
      ]

  by_edition : (t : Trailer) → Tagged bs t → Judged bs
  by_edition t g =
      elim (ℕ_discrete t.edition 1) [
        | no n ↦ bad 3 0 (edition t g n)
        | yes e ↦ by_ranges t (record { tagged = g; edition = e })
      ]

  by_tag : (t : Trailer) → Sized bs → EndsIn bs t → Judged bs
  by_tag t s e =
      elim (same_dec t.last (0x53 ∷ 0x4c ∷ 0x4f ∷ 0x54 ∷ [])) [
        | no n ↦ bad 2 0 (tag t s e n)
        | yes i ↦ by_edition t (record { sized = s; ends = e; tag = i })
      ]

  -- the size
  pub judged : Judged bs
  judged =
      elim (inside_or 24 16777216 (length bs)) [
        | inr o ↦
            elim o [
              | inl l ↦ bad 1 0 (short l)
              | inr l ↦ bad 1 0 (long l)
            ]
        | inl s ↦ let e = ending bs all s.0 in by_tag e.trailer s e.ends
      ]
