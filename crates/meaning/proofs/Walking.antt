-- Candidates that walk through accepted records: what is left of them is what stands in each of the lists.
use Prim.Native.Nat.{ℕ, ◌≤◌, ◌<◌}
use mathlib.Core.Path.{◌≡◌, refl, sym, ◌∙◌}
use mathlib.Core.Bool.{Bool, true, false}
use mathlib.Core.List.{List, [], ◌∷◌}
use native.Mathlib.Decide.{dec_le}
use native.Mathlib.Omega.{arith}
use lib.ListN.{length, get_or}
use Rattle.paper.specs.Lists.{has, keep}
use Rattle.paper.specs.Record.{cut_of, record_fault}
use Rattle.paper.specs.Held.{contents, listed, entry_of}
use Rattle.paper.specs.Walk.{tried, walk_list}
use Rattle.paper.specs.Index.{u_of, block_length, k_of}
use Rattle.paper.specs.Question.{in_all}
use Rattle.paper.specs.Ask.{named}
use Rattle.laws.proofs.Lists.{keep_pass, keep_fail, keep_all, keep_twice}
use Rattle.laws.proofs.Frames.{Accepted}
use Rattle.laws.proofs.Questions.{named_many, named_at}
use Rattle.meaning.proofs.Rising.{Ascends, rise_lower}
use Rattle.meaning.proofs.Sound.{blocks_of, skips_of}
use Rattle.meaning.proofs.Trying.{finger_stays, finger_within, finger_good, try_found}

-- those of a rising list that pass a test rise
pub keep_rise : (t : ℕ → Bool) (u a : ℕ) (xs : List ℕ) → Ascends u a xs → Ascends u a (keep t xs)
unfolding keep
keep_rise t u a [] r = tt
keep_rise t u a (x ∷ xs) r = go (t x) refl (keep_rise t u x xs r.2)
  where
    go : (b : Bool) → t x ≡ b → Ascends u x (keep t xs) → Ascends u a (keep t (x ∷ xs))
    go true e q = rw (keep_pass t x xs e) (r.0, r.1, q)
    go false e q = rw (keep_fail t x xs e) (rise_lower u a x (keep t xs) (omega arith) q)

-- one accepted record
module _ (u B : ℕ) (r : List ℕ) (pos : 1 ≤ B) (ok : record_fault u B (length r) r ≡ 0) where
  -- a finger for the candidates above a: its entry is not above any that is searched
  record Points (a p : ℕ) : Type 0 where
    within : p ≤ blocks_of B r
    good : (x : ℕ) → a < x → cut_of r < x → entry_of (cut_of r) (skips_of B r) p ≤ x

  point_first : Points 0 0
  unfolding entry_of
  point_first = record { within = omega arith; good = λ x a h. omega arith }

  -- the finger after x is one for those above x
  point_next : (a p x : ℕ) → Points a p → a < x → Points x (tried (listed u B r) p x).finger
  point_next a p x f l =
      record {
        within = finger_within u B r pos ok x p f.within (f.good x l);
        good =
            λ y g h.
            elim (dec_le x (cut_of r)) [
              | yes i ↦ rw (finger_stays u B r pos ok x p i) (f.good y (omega arith) h)
              | no n ↦ let s = finger_good u B r pos ok x p f.within (f.good x l) (omega arith) in omega arith
            ];
      }

  -- whether the list holds x
  abbrev held : ℕ → Bool
  held x = has x (contents u B r)

  walk_from : (v a p : ℕ) (xs : List ℕ) → Points a p → Ascends v a xs → (walk_list (listed u B r) p xs).kept ≡ keep held xs
  unfolding walk_list keep
  walk_from v a p [] f o = refl
  walk_from v a p (x ∷ xs) f o =
      let q = walk_from v x _ xs (point_next a p x f o.0) o.2 in
      let e = try_found u B r pos ok x p f.within (f.good x o.0) (omega arith) in
      rw (e, q)

  -- A WALK KEEPS the candidates that the list holds
  pub walk_keeps : (xs : List ℕ) → Ascends u 0 xs → (walk_list (listed u B r) 0 xs).kept ≡ keep (λ x. has x (contents u B r)) xs
  walk_keeps xs o = walk_from u 0 0 xs point_first o

-- those that stand in one list after the other
unfoldable pub passed : List (List ℕ) → List ℕ → List ℕ
passed [] xs = xs
passed (l ∷ ls) xs = passed ls (keep (λ x. has x l) xs)

-- they are those that stand in all
pub passed_all : (ls : List (List ℕ)) (xs : List ℕ) → passed ls xs ≡ keep (in_all ls) xs
unfolding passed in_all
passed_all [] xs = sym (keep_all (in_all []) xs (λ x. refl))
passed_all (l ∷ ls) xs = passed_all ls (keep (λ x. has x l) xs) ∙ keep_twice (in_all ls) (λ x. has x l) xs

-- none of the records has a fault
abbrev pub AllSound : ℕ → ℕ → List (List ℕ) → Type 0
AllSound u B rs = (i : ℕ) → i < length rs → record_fault u B (length (get_or rs i [])) (get_or rs i []) ≡ 0

-- nor have those that good names of an accepted index name
pub named_sound : (bs names : List ℕ) → Accepted bs → ((i : ℕ) → i < length names → get_or names i 0 < k_of bs)
    → AllSound (u_of bs) (block_length bs) (named bs names)
named_sound bs names a below i l =
    let m : i < length names = rw named_many at l in
    rw (named_at bs names i m) (a.lists (get_or names i 0) (below i m))
