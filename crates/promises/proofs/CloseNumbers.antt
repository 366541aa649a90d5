-- Closing an index: a number and a place are given exactly when the rows of the table say so. From row 5 on the rows are those of the index that
-- closing makes.
use Prim.Native.Nat.{ℕ, ◌+◌, ◌*◌}
use mathlib.Core.Path.{◌≡◌, refl, sym, ap, subst, subst₂, ◌∙◌}
use mathlib.Core.Logic.◌⊎◌.{inl, inr}
use mathlib.Core.List.{List, [], ◌∷◌, ◌++◌, flatten}
use native.Mathlib.Decide.{dec_le, ℕ_discrete}
use native.Mathlib.Omega.{arith}
use lib.ListN.{length, take, drop, take-append-drop}
use lib.Seq.{take_at, length-take-le}
use Rattle.paper.specs.Refusal.{verdict, accepted}
use Rattle.paper.specs.Write.{written_with}
use Rattle.paper.specs.Close.{close_fault, close_answer}
use Rattle.laws.proofs.Lists.{Each}
use Rattle.laws.proofs.Parts.{AllBytes, all_take, all_front}
use Rattle.laws.proofs.Links.{one, one_large, twelve_small}
use Rattle.promises.proofs.IndexRows.{Word, Trailer, Filled, starts_from, Packed, Refused, WellFormed, ByTheTable}
use Rattle.promises.proofs.IndexRows.Refused.{first as first-bad, tight as tight-bad, list as list-bad}
use Rattle.promises.proofs.IndexDirectory.{spaced_or, parted}
use Rattle.promises.proofs.IndexFrame.{four_u, four_b, four_k}
use Rattle.promises.proofs.IndexLists.{whole_each, lists_or}
use Rattle.promises.proofs.IndexLooks.{well_accepted, not_zero, refused_given}
use Rattle.promises.proofs.IndexJudged.{inside_or}
use Rattle.promises.proofs.IndexNumbers.{by_the_table, Either}
use Rattle.promises.proofs.IndexNumbers.Either.{one_refuses, all_accept}
use Rattle.promises.proofs.CloseRows.{Bounded, Roomy, Laid, CloseRefused, CloseAccepted}
use Rattle.promises.proofs.CloseRows.CloseRefused.{u_range, b_range, k_range, long, no_room, first, tight, list}
use Rattle.promises.proofs.CloseMade.{made, trailer_of, all_made, made_filled}
use Rattle.promises.proofs.CloseLooks.{close_ranged, close_looks}

module _ (before : List ℕ) (u B D : ℕ) (starts : List ℕ) where
  abbrev m : List ℕ
  m = made before u B D starts

  abbrev t : Trailer
  t = trailer_of before u B D starts

  abbrev size : ℕ
  size = D + 4 * length starts + 24

  module _ (small : Each Word starts) where
    -- the records that the rows speak of are those of the index that is made
    pub made_packed : (records : List (List ℕ)) → Laid before u B D starts records → Packed m t records
    made_packed records l =
        let front : take D before ≡ flatten records = ap (take D) l.is ∙ take_at (flatten records) l.rest D l.total in
        record {
          filled = subst₂ (λ (x : List ℕ) (s : List ℕ). Filled m t x s) front l.from (made_filled before u B D starts l.roomy small);
          long = l.long;
        }

    -- where no row applies, that index is well formed
    unfoldable pub made_well : CloseAccepted before u B D starts → WellFormed m
    made_well a =
        record { trailer = t; records = a.records; packed = made_packed a.records a.laid; sound = a.sound }

    module _ (all : AllBytes before) where
      made_bytes : AllBytes m
      made_bytes = all_made before u B D starts (all_take D before all)

      -- a row from 5 on refuses it
      made_bad : (r p : ℕ) → Roomy before u B D starts → Refused m r p → close_fault before u B D starts ≡ verdict r p
      made_bad r p y t = close_looks before u B D starts y small ∙ refused_given m made_bytes r p t

      -- the number and the place of a row that applies are given
      close_gives : (r p : ℕ) → CloseRefused before u B D starts r p → close_fault before u B D starts ≡ verdict r p
      unfolding close_fault
      close_gives r p (u_range o) = four_u u B _ o
      close_gives r p (b_range o) = four_b u B _ o
      close_gives r p (k_range o) = four_k u B _ (length starts) o
      close_gives r p (long b l) = close_ranged before u B D starts b ∙ sym (one_large _ _ (omega arith) l)
      close_gives r p (no_room b l h) = close_ranged before u B D starts b ∙ sym (one _ _ (omega arith) l _ (twelve_small _ _ _ h))
      close_gives r p (first y s more e n) =
          made_bad 5 0 y (first-bad _ _ s more (subst (λ (l : List ℕ). Filled m t (take D before) l) e (made_filled before u B D starts y small)) n)
      close_gives r p (tight y front behind s e is h) = made_bad 5 0 y (tight-bad _ _ starts (made_filled before u B D starts y small) front behind s e is h)
      close_gives r p (list front b behind l s w) = made_bad r p l.roomy (list-bad t front b behind (made_packed (front ++ b ∷ behind) l) s w)

      -- it is not 0
      close_nonzero : (r p : ℕ) → CloseRefused before u B D starts r p → ¬ (r ≡ 0)
      close_nonzero r p (u_range o) z = omega arith
      close_nonzero r p (b_range o) z = omega arith
      close_nonzero r p (k_range o) z = omega arith
      close_nonzero r p (long b l) z = omega arith
      close_nonzero r p (no_room b l h) z = omega arith
      close_nonzero r p (first y s more e n) z = omega arith
      close_nonzero r p (tight y front behind s e is h) z = omega arith
      close_nonzero r p (list front b behind l s w) z =
          not_zero m made_bytes r p (list-bad t front b behind (made_packed (front ++ b ∷ behind) l) s w) z

      -- where none applies, the closing is accepted
      pub close_passes : CloseAccepted before u B D starts → close_fault before u B D starts ≡ accepted
      close_passes a = close_looks before u B D starts a.laid.roomy small ∙ well_accepted m made_bytes (made_well a)

      -- one or the other
      abbrev Told : Type 0
      Told = Either (CloseRefused before u B D starts) (CloseAccepted before u B D starts)

      by_lists : (records : List (List ℕ)) → Laid before u B D starts records → Told
      by_lists records l =
          let b = l.roomy.bounded in
          let front = all_front (flatten records) l.rest (subst AllBytes l.is all) in
          elim (lists_or u B b.b_inside.0 b.u_inside.1 records (whole_each records front l.long)) [
            | inl s ↦ all_accept (record { records = records; laid = l; sound = s })
            | inr w ↦
                let at : Laid before u B D starts (w.front ++ w.bad ∷ w.behind)
                = subst (λ (rs : List (List ℕ)). Laid before u B D starts rs) w.is l in
                one_refuses w.number (length w.front) (list w.front w.bad w.behind at w.sound w.refused)
          ]

      by_starts : Roomy before u B D starts → (ss : List ℕ) → starts ≡ ss → Told
      by_starts y [] e = absurd (let k = y.bounded.k_inside.0 in let z = ap length e in omega arith)
      by_starts y (s ∷ ss) e =
          elim (ℕ_discrete s 0) [
            | no n ↦ one_refuses 5 0 (first y s ss e n)
            | yes z ↦
                elim (spaced_or ss s D) [
                  | inr w ↦ one_refuses 5 0 (tight y w.front w.behind w.s w.e (ap (λ (l : List ℕ). l ++ D ∷ []) e ∙ w.is) w.short)
                  | inl w ↦
                      let f = y.fits in
                      let n : length (take D before) ≡ D = length-take-le D before (omega arith) in
                      let p = parted ss s D (take D before) w (omega arith) in
                      by_lists p.records
                      (record {
                        roomy = y;
                        rest = drop D before;
                        is = sym (take-append-drop D before) ∙ ap (λ (l : List ℕ). l ++ drop D before) p.is;
                        total = sym (ap length p.is) ∙ n;
                        from = e ∙ p.from ∙ ap (λ (a : ℕ). starts_from a p.records) z;
                        long = p.long;
                      })
                ]
          ]

      by_size : Bounded u B starts → Told
      by_size b =
          elim (dec_le size 16777216) [
            | no g ↦ one_refuses 1 0 (long b (omega arith))
            | yes l ↦
                elim (dec_le size (length before)) [
                  | no g ↦ one_refuses 12 size (no_room b l (omega arith))
                  | yes h ↦ by_starts (record { bounded = b; small = l; fits = h }) starts refl
                ]
          ]

      close_either : Told
      close_either =
          elim (inside_or 1 1048576 u) [
            | inr o ↦ one_refuses 4 0 (u_range o)
            | inl x ↦
                elim (inside_or 1 128 B) [
                  | inr o ↦ one_refuses 4 0 (b_range o)
                  | inl y ↦
                      elim (inside_or 1 4096 (length starts)) [
                        | inr o ↦ one_refuses 4 0 (k_range o)
                        | inl z ↦ by_size (record { u_inside = x; b_inside = y; k_inside = z })
                      ]
                ]
          ]

      -- SO CLOSING goes by the table
      pub close_table : ByTheTable (close_answer before u B D starts).number (close_answer before u B D starts).place (CloseRefused before u B D starts)
          (CloseAccepted before u B D starts)
      unfolding close_answer written_with
      close_table =
          by_the_table (close_fault before u B D starts) (CloseRefused before u B D starts) (CloseAccepted before u B D starts) close_gives close_nonzero
          close_passes close_either
