-- What a closing answers and leaves: accepted, the finished index at the front of the buffer and all else as it was; refused, nothing.
use Prim.Native.Nat.{ℕ, ◌+◌, ◌*◌, ◌≤◌, ◌<◌}
use mathlib.Core.Path.{◌≡◌, refl, sym, ap, ◌∙◌}
use mathlib.Core.List.{List, [], ◌∷◌, ◌++◌}
use lib.ListN.{length, get_or, take, drop}
use Rattle.paper.specs.Lists.{on_front}
use Rattle.paper.specs.Bytes.{part}
use Rattle.paper.specs.Refusal.{verdict}
use Rattle.paper.specs.Held.{contents}
use Rattle.paper.specs.Index.{u_of, block_length, k_of, d_of, record_of, held}
use Rattle.paper.specs.Look.{look}
use Rattle.paper.specs.Write.{written_with}
use Rattle.paper.specs.Close.{close_fault, close_answer, close_buffer, MeetsClose}
use Rattle.paper.specs.declared.Verdict.{Verdict}
use Rattle.paper.specs.declared.Written.{Written}
use Rattle.laws.proofs.Lists.{Each}
use Rattle.laws.proofs.Parts.{AllBytes}
use Rattle.promises.proofs.IndexRows.{Word, words, WellFormed}
use Rattle.promises.proofs.IndexReads.{u_read, b_read, k_read, d_read}
use Rattle.promises.proofs.LengthAnswers.{ByVerdict, told_number, told_place, none_told, left_alone, length_told, front_made, front_read, size_stays, row_told}
use Rattle.promises.proofs.CloseRows.{Roomy, CloseRefused, CloseAccepted}
use Rattle.promises.proofs.CloseMade.{made, trailer_of, frame_is, made_ends, made_length}
use Rattle.promises.proofs.CloseLooks.{close_looks, made_record}
use Rattle.promises.proofs.CloseNumbers.{made_well, close_passes, close_table}

module _ (before : List ℕ) (u B D : ℕ) (starts : List ℕ) (answer : Written) (after : List ℕ) (keeps : MeetsClose before u B D starts answer after) where
  abbrev m : List ℕ
  m = made before u B D starts

  -- both go by the first fault
  judged : ByVerdict (close_fault before u B D starts) (D + 4 * length starts + 24) (on_front m before) before answer after
  unfolding close_answer close_buffer
  judged = record { tells = keeps.answers; leaves = keeps.leaves }

  -- Refused: no length, and the buffer as it was
  module _ (n : ¬ (answer.number ≡ 0)) where
    -- the length is 0
    pub refused_length : answer.length ≡ 0
    refused_length = none_told judged n

    -- the buffer is as it was
    pub refused_leaves : after ≡ before
    refused_leaves = left_alone judged n

  -- and a row that refuses tells all of the answer
  pub refused_tells : AllBytes before → Each Word starts → (r p : ℕ) → CloseRefused before u B D starts r p
      → (answer.number ≡ r) × (answer.place ≡ p) × (answer.length ≡ 0) × (after ≡ before)
  unfolding close_answer written_with
  refused_tells all small = row_told judged (close_table before u B D starts small all)

  -- Where rows 4, 1 and 12 are passed, number and place are what looking says of the bytes that closing makes
  module _ (r : Roomy before u B D starts) (small : Each Word starts) where
    -- the number
    pub looked_number : answer.number ≡ (look m).number
    looked_number = told_number judged ∙ ap (λ (v : Verdict). v.number) (close_looks before u B D starts r small)

    -- the place
    pub looked_place : answer.place ≡ (look m).place
    looked_place = told_place judged ∙ ap (λ (v : Verdict). v.place) (close_looks before u B D starts r small)

    -- Accepted
    module _ (ok : answer.number ≡ 0) where
      -- the length is that of the finished index
      pub accepted_length : answer.length ≡ D + 4 * length starts + 24
      accepted_length = length_told judged ok

      -- which the buffer holds
      pub accepted_fits : answer.length ≤ length before
      accepted_fits = rw accepted_length r.fits

      -- the buffer has the finished index at its front, and then what stood behind
      pub accepted_front : after ≡ m ++ drop answer.length before
      accepted_front = front_made judged ok m refl (made_length before u B D starts r)

      -- which is the records as they lay, the directory and the trailer
      pub accepted_leaves : after
          ≡ take D before ++ (words starts ++ (words (1 ∷ u ∷ B ∷ length starts ∷ D ∷ []) ++ 0x53 ∷ 0x4c ∷ 0x4f ∷ 0x54 ∷ [])) ++ drop answer.length before
      accepted_leaves = accepted_front ∙ ap (λ (l : List ℕ). take D before ++ l ++ drop answer.length before) (frame_is u B D starts)

      -- as many bytes as before
      pub accepted_size : length after ≡ length before
      accepted_size = size_stays judged ok m refl (made_length before u B D starts r) accepted_fits

      -- what is made is read off the front
      pub accepted_index : take answer.length after ≡ m
      accepted_index = front_read judged ok m refl (made_length before u B D starts r)

  -- Accepted, as the rows say it
  module _ (all : AllBytes before) (small : Each Word starts) (ok : answer.number ≡ 0) where
    -- no row applies
    accepted_rows : CloseAccepted before u B D starts
    accepted_rows =
        (close_table before u B D starts small all).accepts.0 (sym (ap (λ (w : Written). w.number) keeps.answers) ∙ ok)

    -- so there is room
    pub accepted_roomy : Roomy before u B D starts
    accepted_roomy = accepted_rows.laid.roomy

    abbrev index : List ℕ
    index = take answer.length after

    index_is : index ≡ m
    index_is = accepted_index accepted_roomy small ok

    made_accepted : look m ≡ verdict 0 0
    made_accepted = sym (close_looks before u B D starts accepted_roomy small) ∙ close_passes before u B D starts small all accepted_rows

    -- looking accepts the finished index
    pub index_looked : look index ≡ verdict 0 0
    index_looked = ap look index_is ∙ made_accepted

    -- it has the numbers that were given
    pub index_numbers : (u_of index ≡ u) × (block_length index ≡ B) × (k_of index ≡ length starts) × (d_of index ≡ D)
    index_numbers =
        let t = trailer_of before u B D starts in
        let e = made_ends before u B D starts accepted_roomy in
        rw index_is (u_read m t e, b_read m t e, k_read m t e, d_read m t e)

    -- its records are those that lay there
    pub index_record : (i : ℕ) → i < length starts → record_of index i ≡ part before (get_or starts i D) (get_or starts (i + 1) D)
    index_record i l =
        ap (λ (l : List ℕ). record_of l i) index_is
        ∙ made_record before u B D starts accepted_roomy small (ap (λ (v : Verdict). v.number) made_accepted) i l

    -- so its lists hold what these hold
    pub index_held : (i : ℕ) → i < length starts → held index i ≡ contents u B (part before (get_or starts i D) (get_or starts (i + 1) D))
    unfolding held
    index_held i l = rw (index_numbers.0, index_numbers.1, index_record i l)

    -- and it is well formed, with these numbers and the records that the rows speak of
    pub index_well : (a : CloseAccepted before u B D starts)
        → (w : WellFormed index) × (w.trailer.u ≡ u) × (w.trailer.B ≡ B) × (w.trailer.k ≡ length starts) × (w.trailer.D ≡ D) × (w.records ≡ a.records)
    unfolding made_well
    index_well a = rw index_is (made_well before u B D starts small a, refl, refl, refl, refl, refl)
