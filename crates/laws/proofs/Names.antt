-- One name of an index: row 11, and what an accepted name says of the index and of its record; and one slot of it: row 16.
use Prim.Native.Nat.{ℕ, ◌≤◌, ◌<◌}
use mathlib.Core.Path.{◌≡◌, refl, sym, ap, ◌∙◌}
use mathlib.Core.List.{List, [], ◌∷◌}
use native.Mathlib.Decide.{dec_lt}
use native.Mathlib.Omega.{arith}
use borrow.Author.Tests.{lt-ltb, le-ltb}
use Rattle.paper.specs.Lists.{leading}
use Rattle.paper.specs.Refusal.{verdict, accepted, fault11, fault16}
use Rattle.paper.specs.Index.{u_of, k_of}
use Rattle.paper.specs.Look.{look}
use Rattle.paper.specs.OneList.{name_fault, test_fault}
use Rattle.paper.specs.declared.Verdict.{Verdict}
use Rattle.laws.proofs.Links.{sixteen}
use Rattle.laws.proofs.Frames.{Accepted, looked, within_passed, or_second, or_both}

-- 11, of one name
module _ (k name : ℕ) (rest : Verdict) where
  -- a name below k
  pub name_below : name < k → fault11 k (name ∷ []) rest ≡ rest
  unfolding fault11 leading
  name_below l = simp (lt-ltb _ _ l)

  -- and one that is not
  pub name_past : k ≤ name → fault11 k (name ∷ []) rest ≡ verdict 11 0
  unfolding fault11 leading
  name_past l = simp (le-ltb _ _ l)

-- an accepted name: the index is accepted, and the name is one of its lists
pub record Named (bs : List ℕ) (name : ℕ) : Type 0 where
  pub looked : (look bs).number ≡ 0
  pub index : Accepted bs
  pub below : name < k_of bs
  pub is : name_fault bs name ≡ accepted

-- so it is where no fault is found
pub named : (bs : List ℕ) (name : ℕ) → (name_fault bs name).number ≡ 0 → Named bs name
unfolding name_fault
named bs name ok = let p = or_both _ _ ok in go p.0 p.1 (dec_lt name (k_of bs))
  where
    go : (look bs).number ≡ 0 → (fault11 (k_of bs) (name ∷ []) accepted).number ≡ 0 → Dec (name < k_of bs) → Named bs name
    go z e (yes l) = record { looked = z; index = looked bs z; below = l; is = or_second _ _ z ∙ name_below (k_of bs) name accepted l }
    go z e (no g) = absurd (let f = sym (ap (λ (v : Verdict). v.number) (name_past (k_of bs) name accepted (omega arith))) ∙ e in omega arith)

-- an accepted slot of an accepted name: it lies in 1..u
pub record Placed (bs : List ℕ) (name x : ℕ) : Type 0 where
  pub name_is : Named bs name
  pub low : 1 ≤ x
  pub high : x ≤ u_of bs
  pub is : test_fault bs name x ≡ accepted

-- so it is where no fault is found
pub placed : (bs : List ℕ) (name x : ℕ) → (test_fault bs name x).number ≡ 0 → Placed bs name x
unfolding test_fault fault16
placed bs name x ok =
    let p = or_both _ _ ok in
    let w = named bs name p.0 in
    let i = within_passed 16 (λ e. omega arith) accepted 1 (u_of bs) x p.1 in
    record { name_is = w; low = i.0; high = i.1; is = or_second _ _ p.0 ∙ sym (sixteen accepted (u_of bs) x (u_of bs) refl i.0 i.1 _ refl) }
