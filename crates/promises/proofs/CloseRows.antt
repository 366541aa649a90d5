-- [Numbers of refusal] The rows of closing an index: 4, 1, 12, 5, and then 6 to 9 and 17 list by list. They are said of the numbers that are given and of the
-- bytes that stand in the buffer, with the numbers spelt out, and not by how records are read. D is the total length of the records, and k is how
-- many starts there are. The rows are gone through in the order of closing, so that at most one number is given.
use Prim.Native.Nat.{ℕ, ◌+◌, ◌*◌, ◌≤◌, ◌<◌}
use mathlib.Core.Path.{◌≡◌}
use mathlib.Core.List.{List, [], ◌∷◌, ◌++◌, flatten}
use lib.ListN.{length}
use Rattle.laws.proofs.Lists.{Each}
use Rattle.promises.proofs.RecordRows.{RecordRefused, RecordSound}
use Rattle.promises.proofs.IndexRows.{Inside, Outside, starts_from}

-- Row 4 is passed: u, B and k lie in their ranges
pub record Bounded (u B : ℕ) (starts : List ℕ) : Type 0 where
  pub u_inside : Inside 1 1048576 u
  pub b_inside : Inside 1 128 B
  pub k_inside : Inside 1 4096 (length starts)

-- and rows 1 and 12: the finished index, which is records, directory and trailer, has at most 16,777,216 bytes, and the buffer holds it
pub record Roomy (before : List ℕ) (u B D : ℕ) (starts : List ℕ) : Type 0 where
  pub bounded : Bounded u B starts
  pub small : D + 4 * length starts + 24 ≤ 16777216
  pub fits : D + 4 * length starts + 24 ≤ length before

-- and row 5: the first D bytes are records that lie one behind the other, each as its start says, none shorter than 12 bytes
pub record Laid (before : List ℕ) (u B D : ℕ) (starts : List ℕ) (records : List (List ℕ)) : Type 0 where
  pub roomy : Roomy before u B D starts
  pub rest : List ℕ
  pub is : before ≡ flatten records ++ rest
  pub total : length (flatten records) ≡ D
  pub from : starts ≡ starts_from 0 records
  pub long : Each (λ (r : List ℕ). 12 ≤ length r) records

-- THE NUMBER AND THE PLACE of a closing that is refused
pub data CloseRefused (before : List ℕ) (u B D : ℕ) (starts : List ℕ) : ℕ → ℕ → Type 0 where
  -- 4: u, B or k is out of its range
  u_range : Outside 1 1048576 u → CloseRefused before u B D starts 4 0
  b_range : Outside 1 128 B → CloseRefused before u B D starts 4 0
  k_range : Outside 1 4096 (length starts) → CloseRefused before u B D starts 4 0
  -- 1: the finished index would have more than 16,777,216 bytes. (It cannot have fewer than 24: the trailer alone has them.)
  long : Bounded u B starts → 16777216 < D + 4 * length starts + 24 → CloseRefused before u B D starts 1 0
  -- 12: the buffer is shorter than the finished index; the place is the length of that
  no_room : Bounded u B starts → D + 4 * length starts + 24 ≤ 16777216 → length before < D + 4 * length starts + 24
      → CloseRefused before u B D starts 12 (D + 4 * length starts + 24)
  -- 5: the first start is not 0
  first : Roomy before u B D starts → (s : ℕ) (more : List ℕ) → starts ≡ s ∷ more → ¬ (s ≡ 0) → CloseRefused before u B D starts 5 0
  -- 5: a record would start at s and end at e, the next start or D, and be shorter than 12 bytes
  tight : Roomy before u B D starts → (front behind : List ℕ) (s e : ℕ) → starts ++ D ∷ [] ≡ front ++ s ∷ e ∷ behind → e < s + 12
      → CloseRefused before u B D starts 5 0
  -- 6 to 9 and 17: the records in front are sound, and then comes one that is refused; the place is that list
  list : {f : ℕ} (front : List (List ℕ)) (r : List ℕ) (behind : List (List ℕ)) → Laid before u B D starts (front ++ r ∷ behind)
      → Each (RecordSound u B) front → RecordRefused u B r f → CloseRefused before u B D starts f (length front)

-- NO ROW: and each of the records is sound
pub record CloseAccepted (before : List ℕ) (u B D : ℕ) (starts : List ℕ) : Type 0 where
  pub records : List (List ℕ)
  pub laid : Laid before u B D starts records
  pub sound : Each (RecordSound u B) records
