-- The plain way through one list: candidates and the list's slots, both rising, are gone through side by side, once. What is kept is told
-- for any numbers; that it is what the list holds is told where both rise.
use Rattle.std.specs.Prelude.{ℕ, ◌≤◌, ◌≡◌, Bool, leb, eqb, length, take}
use mathlib.Core.List.{List, [], ◌∷◌, ◌++◌, flatten}
use Rattle.paper.specs.Lists.{pick}
use Rattle.paper.specs.Bytes.{part}
use Rattle.paper.specs.Record.{bit_at}
use Rattle.paper.specs.Held.{Listed}

-- the candidates kept, and those that are still to be told
pub record Sifted : Type 0 where
  pub kept : List ℕ
  pub left : List ℕ

-- none is told
abbrev pub untold : List ℕ → Sifted
untold xs = record { kept = []; left = xs }

-- x is told, and then the others
abbrev pub told : Bool → ℕ → Sifted → Sifted
told t x s = record { kept = pick t (x ∷ s.kept) s.kept; left = s.left }

-- those kept before, and then these
abbrev pub behind : List ℕ → Sifted → Sifted
behind ks s = record { kept = ks ++ s.kept; left = s.left }

-- candidates up to y: those that pass a test are kept
unfoldable pub up_to : ℕ → (ℕ → Bool) → List ℕ → Sifted
up_to y t [] = untold []
up_to y t (x ∷ xs) = let on = told (t x) x (up_to y t xs) in pick (leb x y) on (untold (x ∷ xs))

-- candidates up to the last of some slots: slot after slot, the one that is the slot is kept
unfoldable pub by_slots : List ℕ → List ℕ → Sifted
by_slots [] xs = untold xs
by_slots (y ∷ ys) xs = let s = up_to y (eqb y) xs in behind s.kept (by_slots ys s.left)

-- through a whole list: up to the cut by its bits, then by the slots of its blocks. A candidate behind the last slot is not kept
unfoldable pub plainly : Listed → List ℕ → List ℕ
plainly l xs = let s = up_to l.cut (bit_at l.bits) xs in s.kept ++ (by_slots (flatten l.blocks) s.left).kept

-- of `count` candidates in the slice s, those before `next` are told, and the kept ones of them stand at its front
pub record Told (w : Sifted) (count kept next : ℕ) (s : List ℕ) : Type 0 where
  pub low : kept ≤ next
  pub within : next ≤ count
  pub room : count ≤ length s
  pub front : take kept s ≡ w.kept
  pub rest : part s next count ≡ w.left
