-- Looking at an index, rows 1 to 5: what the tests say where a row applies, and that they lead on where it does not.
use Prim.Native.Nat.{ℕ, ◌+◌, ◌*◌, ◌<◌}
use mathlib.Core.Path.{◌≡◌, refl, sym, ap, ◌∙◌}
use mathlib.Core.Logic.◌⊎◌.{inl, inr}
use mathlib.Core.List.{List, [], ◌∷◌, ◌++◌, flatten}
use native.Mathlib.Omega.{arith}
use lib.ListN.{length, length-append}
use lib.Dec.{ltb, eqb}
use borrow.Author.Tests.{lt-ltb, eq-eqb, ne_eqb}
use Rattle.paper.specs.Refusal.{verdict, accepted, within, fault1, fault2, fault3, fault4, fault4k, starts_fault, fault5}
use Rattle.paper.specs.Index.{edition_of, u_of, block_length, k_of, d_of, start_of}
use Rattle.paper.specs.Look.{frame_fault}
use Rattle.paper.specs.declared.Verdict.{Verdict}
use Rattle.laws.proofs.Lists.{same_either}
use Rattle.laws.proofs.Equals.{same_refl, same_false}
use Rattle.laws.proofs.Links.{low, between}
use Rattle.promises.proofs.IndexRows.{Inside, Outside, Trailer, EndsIn, Sized, Tagged, Edited, Ranged, Filled, starts_from, Packed}
use Rattle.promises.proofs.IndexReads.{edition_read, u_read, b_read, k_read, d_read, last_read}
use Rattle.promises.proofs.IndexDirectory.{starts_read, tight_found, Lie, gives_lie, lie_start, none_short, starts_count}

-- a test of a range
module _ (lo hi x : ℕ) (v : Verdict) where
  -- inside
  pub within_passes : (rest : Verdict) → Inside lo hi x → within lo hi x v rest ≡ rest
  within_passes rest i = sym (between lo hi x v rest i.0 i.1 rest refl)

  -- outside
  pub within_fails : (rest : Verdict) → Outside lo hi x → within lo hi x v rest ≡ v
  within_fails rest (inl l) = sym (low lo hi x v rest l)
  within_fails rest (inr l) = rw (lt-ltb hi x l) (same_either (ltb x lo) v)

  within_either : within lo hi x v v ≡ v
  within_either = rw (same_either (ltb hi x) v) (same_either (ltb x lo) v)

-- Row 4, before whatever follows
module _ (u B : ℕ) (rest : Verdict) where
  -- u is out of its range
  pub four_u : Outside 1 1048576 u → fault4 u B rest ≡ verdict 4 0
  unfolding fault4
  four_u o = within_fails 1 1048576 u (verdict 4 0) _ o

  -- or B is
  pub four_b : Outside 1 128 B → fault4 u B rest ≡ verdict 4 0
  unfolding fault4
  four_b o = rw (within_fails 1 128 B (verdict 4 0) rest o) (within_either 1 1048576 u (verdict 4 0))

  -- or both lie in theirs
  pub four_passes : Inside 1 1048576 u → Inside 1 128 B → fault4 u B rest ≡ rest
  unfolding fault4
  four_passes i j = within_passes 1 1048576 u (verdict 4 0) _ i ∙ within_passes 1 128 B (verdict 4 0) rest j

  module _ (k : ℕ) where
    -- or k is out of its range
    pub four_k : Outside 1 4096 k → fault4 u B (fault4k k rest) ≡ verdict 4 0
    unfolding fault4 fault4k
    four_k o =
        ap (λ (v : Verdict). fault4 u B v) (within_fails 1 4096 k (verdict 4 0) rest o)
        ∙ rw (within_either 1 128 B (verdict 4 0)) (within_either 1 1048576 u (verdict 4 0))

    -- or all three lie in theirs
    pub four_all : Inside 1 1048576 u → Inside 1 128 B → Inside 1 4096 k → fault4 u B (fault4k k rest) ≡ rest
    unfolding fault4 fault4k
    four_all i j l =
        within_passes 1 1048576 u (verdict 4 0) _ i ∙ within_passes 1 128 B (verdict 4 0) _ j ∙ within_passes 1 4096 k (verdict 4 0) rest l

-- The tests of an index, from some row on
module _ (bs : List ℕ) where
  abbrev from5 : Verdict
  from5 = fault5 (length bs) (d_of bs) (k_of bs) (start_of bs) accepted

  abbrev from4 : Verdict
  from4 = fault4 (u_of bs) (block_length bs) (fault4k (k_of bs) from5)

  abbrev from3 : Verdict
  from3 = fault3 (edition_of bs) from4

  abbrev from2 : Verdict
  from2 = fault2 bs from3

  -- row 1
  pub frame_1 : Outside 24 16777216 (length bs) → frame_fault bs (length bs) ≡ verdict 1 0
  unfolding frame_fault fault1
  frame_1 o = within_fails 24 16777216 (length bs) (verdict 1 0) from2 o

  pass_1 : Sized bs → frame_fault bs (length bs) ≡ from2
  unfolding frame_fault fault1
  pass_1 s = within_passes 24 16777216 (length bs) (verdict 1 0) from2 s

  module _ (t : Trailer) where
    -- row 2
    pub frame_2 : Sized bs → EndsIn bs t → ¬ (t.last ≡ 0x53 ∷ 0x4c ∷ 0x4f ∷ 0x54 ∷ []) → frame_fault bs (length bs) ≡ verdict 2 0
    unfolding fault2
    frame_2 s e n = pass_1 s ∙ rw (last_read bs t e, same_false t.last (0x53 ∷ 0x4c ∷ 0x4f ∷ 0x54 ∷ []) n)

    pass_2 : Tagged bs t → frame_fault bs (length bs) ≡ from3
    unfolding fault2
    pass_2 g = pass_1 g.sized ∙ rw (last_read bs t g.ends, g.tag, same_refl (0x53 ∷ 0x4c ∷ 0x4f ∷ 0x54 ∷ []))

    -- row 3
    pub frame_3 : Tagged bs t → ¬ (t.edition ≡ 1) → frame_fault bs (length bs) ≡ verdict 3 0
    unfolding fault3
    frame_3 g n = pass_2 g ∙ rw (edition_read bs t g.ends, ne_eqb t.edition 1 n)

    pass_3 : Edited bs t → frame_fault bs (length bs) ≡ from4
    unfolding fault3
    pass_3 g = pass_2 g.tagged ∙ rw (edition_read bs t g.tagged.ends, eq-eqb t.edition 1 g.edition)

    -- row 4
    module _ (g : Edited bs t) where
      -- u
      pub frame_4u : Outside 1 1048576 t.u → frame_fault bs (length bs) ≡ verdict 4 0
      frame_4u o = pass_3 g ∙ four_u (u_of bs) (block_length bs) _ (rw (u_read bs t g.tagged.ends) o)

      -- B
      pub frame_4_b : Outside 1 128 t.B → frame_fault bs (length bs) ≡ verdict 4 0
      frame_4_b o = pass_3 g ∙ four_b (u_of bs) (block_length bs) _ (rw (b_read bs t g.tagged.ends) o)

      -- k
      pub frame_4k : Outside 1 4096 t.k → frame_fault bs (length bs) ≡ verdict 4 0
      frame_4k o = pass_3 g ∙ four_k (u_of bs) (block_length bs) from5 (k_of bs) (rw (k_read bs t g.tagged.ends) o)

    pass_4 : Ranged bs t → frame_fault bs (length bs) ≡ from5
    pass_4 g =
        let e = g.edited.tagged.ends in
        pass_3 g.edited
        ∙ four_all (u_of bs) (block_length bs) from5 (k_of bs) (rw (u_read bs t e) g.u) (rw (b_read bs t e) g.B) (rw (k_read bs t e) g.k)

    -- row 5
    pub frame_5 : Ranged bs t → ¬ (t.D + 4 * t.k + 24 ≡ length bs) → frame_fault bs (length bs) ≡ verdict 5 0
    unfolding fault5
    frame_5 g n =
        let e = g.edited.tagged.ends in
        pass_4 g ∙ rw (d_read bs t e, k_read bs t e, ne_eqb (t.D + 4 * t.k + 24) (length bs) n)

    -- the starts
    module _ (records starts : List ℕ) (f : Filled bs t records starts) where
      -- are then all that is left of rows 1 to 5
      pub to_starts : frame_fault bs (length bs) ≡ starts_fault (start_of bs) (length starts) accepted
      unfolding fault5
      to_starts =
          let e = f.ranged.edited.tagged.ends in
          pass_4 f.ranged
          ∙ rw (d_read bs t e, k_read bs t e, eq-eqb (t.D + 4 * t.k + 24) (length bs) f.size, ← f.count)

      -- a record would be too short
      pub frame_5tight : (front behind : List ℕ) (s e : ℕ) → starts ++ t.D ∷ [] ≡ front ++ s ∷ e ∷ behind → e < s + 12
          → frame_fault bs (length bs) ≡ verdict 5 0
      unfolding starts_fault
      frame_5tight front behind s e is h =
          let l = simp (length-append, length-append) at (ap length is) in
          let g = starts_read bs t records starts f in
          to_starts
          ∙ rw (tight_found (start_of bs) front behind s e (length starts) 0 (rw is at g) h (omega arith)) (same_either (eqb (start_of bs 0) 0) (verdict 5 0))

    -- the first start is not 0
    pub frame_5first : (records : List ℕ) (s : ℕ) (starts : List ℕ) → Filled bs t records (s ∷ starts) → ¬ (s ≡ 0) → frame_fault bs (length bs) ≡ verdict 5 0
    unfolding starts_fault
    frame_5first records s starts f n =
        let g = starts_read bs t records (s ∷ starts) f in
        to_starts records (s ∷ starts) f ∙ rw (g.0, ne_eqb s 0 n)

    -- the records lie one behind the other
    module _ (records : List (List ℕ)) (f : Packed bs t records) where
      -- as their starts say
      pub records_lie : Lie (start_of bs) 0 0 records
      records_lie =
          let l = f.filled.long in
          gives_lie (start_of bs) records t.D 0 0 (starts_read bs t (flatten records) (starts_from 0 records) f.filled) (omega arith)

    -- no row of 1 to 5 applies
    pub pass_5 : (records : List (List ℕ)) → Packed bs t records → frame_fault bs (length bs) ≡ accepted
    unfolding starts_fault
    pass_5 records f =
        let lie = records_lie records f in
        to_starts (flatten records) (starts_from 0 records) f.filled
        ∙ rw (lie_start (start_of bs) 0 0 records lie, starts_count 0 records, none_short (start_of bs) records 0 0 lie f.long)
