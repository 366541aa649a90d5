-- Where the search leads in a sound list, that the next slot told from there is the list's, and that a candidate is found exactly when the list holds it.
use Prim.Native.Nat.{ℕ, ◌≤◌, ◌<◌}
use mathlib.Core.Path.{◌≡◌, ap}
use mathlib.Core.Logic.{◌⊎◌}
use mathlib.Core.Logic.◌⊎◌.{inl, inr}
use mathlib.Core.List.{List}
use native.Mathlib.Decide.{dec_le}
use native.Mathlib.Omega.{arith}
use lib.Dec.{eqb}
use lib.ListN.{length}
use Rattle.paper.specs.Lists.{has}
use Rattle.paper.specs.Record.{record_fault}
use Rattle.paper.specs.Held.{Listed, listed, entry_of, contents}
use Rattle.paper.specs.Walk.{Try, tried}
use Rattle.laws.proofs.Lists.{In}
use Rattle.meaning.proofs.Sound.{contents_rise, entry_rise}
use Rattle.meaning.proofs.Greatest.{search_right}
use Rattle.meaning.proofs.Trying.{try_bit, try_search, try_next, try_found}
use Rattle.promises.proofs.NextSlots.{NextOf, first_next}
use Rattle.promises.proofs.WalkCost.{search_of}

-- what a search in a list compares: s(0), the cut, and s(1) to s(m)
abbrev pub entry_at : Listed → ℕ → ℕ
entry_at l j = entry_of l.cut l.entries j

module _ (u B : ℕ) (r : List ℕ) (pos : 1 ≤ B) (ok : record_fault u B (length r) r ≡ 0) (x p : ℕ) where
  -- the greatest position that is good
  pub search_leads : p ≤ (listed u B r).m → entry_at (listed u B r) p ≤ x
      → let j = (search_of (listed u B r) p x).j in
      (p ≤ j) × (j ≤ (listed u B r).m) × (entry_at (listed u B r) j ≤ x) × ((k : ℕ) → j < k → k ≤ (listed u B r).m → x < entry_at (listed u B r) k)
  unfolding listed
  search_leads l g =
      let f = search_right (entry_at (listed u B r)) x (listed u B r).m p l g (entry_rise u B r pos ok) in
      (f.from, f.below, f.good, f.after)

  -- the next slot told is the least that is held, from x on
  pub tried_next : 0 < x → p ≤ (listed u B r).m → ((listed u B r).cut < x → entry_at (listed u B r) p ≤ x)
      → NextOf (λ z. In z (contents u B r)) x (tried (listed u B r) p x).slot
  unfolding listed
  tried_next some l g = rw (try_next u B r pos ok x p l g some) (first_next u 0 x (contents u B r) some (contents_rise u B r pos ok))

  -- and with the finger at 0 nothing more is asked of it: s(0) is the cut
  pub ready : (entry_at (listed u B r) p ≤ x) ⊎ (p ≡ 0) → (listed u B r).cut < x → entry_at (listed u B r) p ≤ x
  unfolding entry_of
  ready (inl g) h = g
  ready (inr z) h = rw z (omega arith)

  -- the finger left is as good for x, and for every slot behind it
  pub finger_ready : p ≤ (listed u B r).m → (entry_at (listed u B r) p ≤ x) ⊎ (p ≡ 0)
      → let q = (tried (listed u B r) p x).finger in (q ≤ (listed u B r).m) × ((y : ℕ) → x ≤ y → (entry_at (listed u B r) q ≤ y) ⊎ (q ≡ 0))
  unfolding listed
  finger_ready l g =
      elim (dec_le x (listed u B r).cut) [
        | yes h ↦ rw (ap (λ (t : Try). t.finger) (try_bit (listed u B r) p x h)) (l, λ y k. later y k g)
        | no n ↦
            let h : (listed u B r).cut < x = omega arith in
            let f = search_leads l (ready g h) in
            rw (ap (λ (t : Try). t.finger) (try_search (listed u B r) p x h)) (f.1, λ y k. inl (let a = f.2 in omega arith))
      ]
    where
      later : (y : ℕ) → x ≤ y → (entry_at (listed u B r) p ≤ x) ⊎ (p ≡ 0) → (entry_at (listed u B r) p ≤ y) ⊎ (p ≡ 0)
      later y k (inl a) = inl (omega arith)
      later y k (inr z) = inr z

  -- found exactly when it is held
  pub tried_finds : 0 < x → p ≤ (listed u B r).m → ((listed u B r).cut < x → entry_at (listed u B r) p ≤ x)
      → eqb (tried (listed u B r) p x).slot x ≡ has x (contents u B r)
  unfolding listed
  tried_finds some l g = try_found u B r pos ok x p l g some

-- where the finger is left, in any list
pub finger_left : (l : Listed) (x p : ℕ) → (x ≤ l.cut → (tried l p x).finger ≡ p) × (l.cut < x → (tried l p x).finger ≡ (search_of l p x).j)
finger_left l x p = (λ h. ap (λ (t : Try). t.finger) (try_bit l p x h), λ h. ap (λ (t : Try). t.finger) (try_search l p x h))
