-- [Numbers of refusal; The question and its search] The rows of a question: those of the index, and then 14, 10, 11 and 12. They are said of what
-- is asked and of what is written in the index, with the numbers spelt out, and not by how an index is read or a question answered. The rows
-- are gone through in the order of asking, so that at most one number is given.
use Prim.Native.Nat.{ℕ, ◌≤◌, ◌<◌}
use mathlib.Core.Path.{◌≡◌}
use mathlib.Core.Logic.{◌⊎◌}
use mathlib.Core.List.{List, [], ◌∷◌, ◌++◌}
use lib.ListN.{length, get_or}
use Rattle.laws.proofs.Lists.{In, Each}
use Rattle.promises.proofs.RecordRows.{Holds}
use Rattle.promises.proofs.IndexRows.{Inside, Outside, Refused, WellFormed, Counts}

-- the slot x stands in the list of this name, by the bytes of its record
abbrev pub Stands : {bs : List ℕ} → WellFormed bs → ℕ → ℕ → Type 0
Stands w name x = Holds w.trailer.u w.trailer.B (get_or w.records name []) x

-- the list of this name has c slots
abbrev pub HasCount : {bs : List ℕ} → WellFormed bs → ℕ → ℕ → Type 0
HasCount w name c = Counts w.trailer.u (Stands w name) c

-- c is the count of the smallest list named
pub record Smallest {bs : List ℕ} (w : WellFormed bs) (names : List ℕ) (c : ℕ) : Type 0 where
  -- some list named has c slots
  pub name : ℕ
  pub named : In name names
  pub count : HasCount w name c
  -- and none has fewer
  pub least : (other d : ℕ) → In other names → HasCount w other d → c ≤ d

-- Rows 14 and 10 are passed: the index is well formed, the way is 0 or 1, and there are 1 to 16 names
pub record Askable (bs : List ℕ) (way : ℕ) (names : List ℕ) : Type 0 where
  pub well : WellFormed bs
  pub known : (way ≡ 0) ⊎ (way ≡ 1)
  pub number : Inside 1 16 (length names)

-- and row 11: each name is below k
pub record Named (bs : List ℕ) (way : ℕ) (names : List ℕ) : Type 0 where
  pub askable : Askable bs way names
  pub below : Each (λ (n : ℕ). n < askable.well.trailer.k) names

-- THE NUMBER AND THE PLACE of a question that is refused, where the slice has this much room
pub data AskRefused (bs : List ℕ) (way : ℕ) (names : List ℕ) (room : ℕ) : ℕ → ℕ → Type 0 where
  -- those of the index
  index : {f p : ℕ} → Refused bs f p → AskRefused bs way names room f p
  -- 14: the way is neither 0 nor 1
  no_way : WellFormed bs → ¬ (way ≡ 0) → ¬ (way ≡ 1) → AskRefused bs way names room 14 0
  -- 10: there is no name, or there are more than 16
  no_number : WellFormed bs → (way ≡ 0) ⊎ (way ≡ 1) → Outside 1 16 (length names) → AskRefused bs way names room 10 0
  -- 11: the names in front are below k, and then comes one that is not; the place is its position
  unknown : (a : Askable bs way names) (front : List ℕ) (name : ℕ) (behind : List ℕ) → names ≡ front ++ name ∷ behind
      → Each (λ (n : ℕ). n < a.well.trailer.k) front → a.well.trailer.k ≤ name → AskRefused bs way names room 11 (length front)
  -- 12: the slice has less room than the smallest list named has slots; the place is that count
  no_room : (a : Named bs way names) (c : ℕ) → Smallest a.askable.well names c → room < c → AskRefused bs way names room 12 c

-- NO ROW: and the slice has room for the smallest list
pub record AskAccepted (bs : List ℕ) (way : ℕ) (names : List ℕ) (room : ℕ) : Type 0 where
  pub named : Named bs way names
  pub count : ℕ
  pub smallest : Smallest named.askable.well names count
  pub fits : count ≤ room
