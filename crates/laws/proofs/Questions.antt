-- A question: the records that it names; and 14, 10 and 11, what it is to pass them, and that what follows is then the answer.
use Prim.Native.Nat.{ℕ, zero, suc, ◌≤◌, ◌<◌}
use mathlib.Core.Path.{◌≡◌, refl, sym, ap, ◌∙◌}
use mathlib.Core.List.{List, [], ◌∷◌, map}
use native.Mathlib.Decide.{dec_lt}
use native.Mathlib.Omega.{arith}
use lib.Dec.{ltb}
use lib.ListN.{length, get_or, length-map}
use borrow.Author.Tests.{lt-ltb, le-ltb, ltb-false}
use Rattle.paper.specs.Lists.{leading}
use Rattle.paper.specs.Held.{count_of}
use Rattle.paper.specs.Refusal.{verdict, fault10, fault11, fault14}
use Rattle.paper.specs.Index.{record_of}
use Rattle.paper.specs.Ask.{named}
use Rattle.paper.specs.declared.Verdict.{Verdict}
use Rattle.laws.proofs.Lists.{map_at}
use Rattle.laws.proofs.Frames.{one_up, failed, within_passed}
use Rattle.laws.proofs.Links.{fourteen, ten, eleven}

-- the records named
module _ (bs names : List ℕ) where
  -- as many as names
  pub named_many : length (named bs names) ≡ length names
  named_many = length-map names (record_of bs)

  -- and as many counts
  pub counts_many : length (map count_of (named bs names)) ≡ length names
  counts_many = length-map (named bs names) count_of ∙ named_many

  module _ (i : ℕ) (l : i < length names) where
    -- at each place the record of the name there
    pub named_at : get_or (named bs names) i [] ≡ record_of bs (get_or names i 0)
    named_at = map_at (record_of bs) names i 0 [] l

    -- and its count
    pub count_at : get_or (map count_of (named bs names)) i 0 ≡ count_of (record_of bs (get_or names i 0))
    count_at = map_at count_of (named bs names) i [] 0 (rw named_many l) ∙ ap count_of named_at

-- the way is known, there are 1 to 16 names, and each of them is below k
pub record Good (k way : ℕ) (names : List ℕ) : Type 0 where
  pub known : way ≤ 1
  pub some : 1 ≤ length names
  pub few : length names ≤ 16
  pub below : (i : ℕ) → i < length names → get_or names i 0 < k

module _ (k : ℕ) where
  -- names that are all below k
  all_good : (names : List ℕ) → ((i : ℕ) → i < length names → get_or names i 0 < k) → leading (λ i. ltb i k) names ≡ length names
  unfolding leading
  all_good [] b = refl
  all_good (n ∷ names) b =
      rw (lt-ltb n k (b 0 (omega arith)), all_good names (λ i l. b (suc i) (omega arith))) (omega arith)

  good_all : (names : List ℕ) → length names ≤ leading (λ i. ltb i k) names → (i : ℕ) → i < length names → get_or names i 0 < k
  unfolding leading
  good_all [] h i l = absurd (omega arith)
  good_all (n ∷ names) h i l =
      elim (dec_lt n k) [
        | no g ↦ absurd (let z = rw (le-ltb n k (omega arith)) at h in omega arith)
        | yes b ↦ go i l b (good_all names (let z = rw (lt-ltb n k b) at h in omega arith))
      ]
    where
      go : (i : ℕ) → i < length (n ∷ names) → n < k → ((i : ℕ) → i < length names → get_or names i 0 < k) → get_or (n ∷ names) i 0 < k
      go zero l b f = b
      go (suc i) l b f = f i (omega arith)

  -- 11 lets them pass
  pub names_on : (names : List ℕ) (rest : Verdict) → ((i : ℕ) → i < length names → get_or names i 0 < k) → fault11 k names rest ≡ rest
  names_on names rest b = sym (eleven rest names k k (leading (λ i. ltb i k) names) refl refl (let a = all_good names b in omega arith) rest refl)

  module _ (way : ℕ) (names : List ℕ) (rest : Verdict) where
    -- a good question: what follows is the answer
    pub good_on : Good k way names → fault14 way (fault10 names (fault11 k names rest)) ≡ rest
    good_on g = sym (fourteen _ way g.known rest (ten _ names g.some g.few rest (sym (names_on names rest g.below))))

    -- and one that is not refused is good
    pub good_passed : (fault14 way (fault10 names (fault11 k names rest))).number ≡ 0 → Good k way names × (rest.number ≡ 0)
    unfolding fault10 fault11 fault14
    good_passed z =
        let good = leading (λ i. ltb i k) names in
        let a = failed (verdict 14 0) (one_up 13) _ (ltb 1 way) z in
        let b = within_passed 10 (one_up 9) _ 1 16 (length names) a.1 in
        let c = failed (verdict 11 good) (one_up 10) rest (ltb good (length names)) b.2 in
        (record { known = ltb-false _ _ a.0; some = b.0; few = b.1; below = good_all names (ltb-false _ _ c.0) }, c.1)
