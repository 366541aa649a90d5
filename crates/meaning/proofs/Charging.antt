-- What a question charges: by skips each walk to the position of its list, and nothing to that of the smallest; plainly nothing.
use Prim.Native.Nat.{ℕ, suc, ◌-◌}
use mathlib.Core.Path.{◌≡◌, refl, sym, ap, ◌∙◌}
use mathlib.Core.List.{List, [], ◌∷◌, map}
use native.Mathlib.Omega.{arith}
use lib.ListN.{length, get_or, drop, length-map, length-drop}
use Rattle.paper.specs.Held.{Listed, listed, contents}
use Rattle.paper.specs.Walk.{Walk, walk_list, walks}
use Rattle.paper.specs.Question.{Charge, charges, positions, in_order, from_smallest, by_skips}
use Rattle.paper.specs.Ask.{costs}

-- a walk, charged to position i
abbrev pub charge : ℕ → Walk → Charge
charge i w = record { position = i; looks = w.looks; codes = w.codes }

-- Walks charged to as many positions: what is said of each walk, and the positions
module _ (f : Charge → ℕ) (g : Walk → ℕ) (same : (i : ℕ) (w : Walk) → f (charge i w) ≡ g w) where
  charged_walks : (is : List ℕ) (ws : List Walk) → length is ≡ length ws → map f (charges is ws) ≡ map g ws
  unfolding charges
  charged_walks [] [] e = refl
  charged_walks [] (w ∷ ws) e = absurd (omega arith)
  charged_walks (i ∷ is) [] e = absurd (omega arith)
  charged_walks (i ∷ is) (w ∷ ws) e = rw (same i w, charged_walks is ws (omega arith))

charged_positions : (is : List ℕ) (ws : List Walk) → length is ≡ length ws → map (λ (c : Charge). c.position) (charges is ws) ≡ is
unfolding charges
charged_positions [] [] e = refl
charged_positions [] (w ∷ ws) e = absurd (omega arith)
charged_positions (i ∷ is) [] e = absurd (omega arith)
charged_positions (i ∷ is) (w ∷ ws) e = ap (λ (t : List ℕ). i ∷ t) (charged_positions is ws (omega arith))

-- a walk for each list but the first
walks_length : (ls : List Listed) (xs : List ℕ) → length (walks ls xs) ≡ length ls
unfolding walks
walks_length [] xs = refl
walks_length (l ∷ ls) xs = ap suc (walks_length ls (walk_list l 0 xs).kept)

from_length : (u B : ℕ) (rs : List (List ℕ)) → length (from_smallest u B rs) ≡ length rs - 1
unfolding from_smallest
from_length u B [] = refl
from_length u B (r ∷ rs) =
    let w = walks_length (map (listed u B) rs) (contents u B r) in
    let m = length-map rs (listed u B) in
    omega arith

module _ (u B : ℕ) (rs : List (List ℕ)) where
  -- as many walks as positions to charge
  charged_length : length (drop 1 (positions rs)) ≡ length (from_smallest u B (in_order rs))
  unfolding in_order
  charged_length =
      let same : length (positions rs) ≡ length (in_order rs) = sym (length-map (positions rs) (λ i. get_or rs i [])) in
      length-drop 1 (positions rs) ∙ ap (λ (n : ℕ). n - 1) same ∙ sym (from_length u B (in_order rs))

  -- the positions charged are those behind the first, in order
  pub skips_positions : map (λ (c : Charge). c.position) (by_skips u B rs) ≡ drop 1 (positions rs)
  unfolding by_skips
  skips_positions = charged_positions _ _ charged_length

  -- and what is charged is what the walks from the smallest list on cost
  pub skips_charged : (f : Charge → ℕ) (g : Walk → ℕ) → ((i : ℕ) (w : Walk) → f (charge i w) ≡ g w)
      → map f (by_skips u B rs) ≡ map g (from_smallest u B (in_order rs))
  unfolding by_skips
  skips_charged f g same = charged_walks f g same _ _ charged_length

-- plainly nothing is charged
pub plain_costs : (index names : List ℕ) → costs index 0 names ≡ []
unfolding costs
plain_costs index names = refl
