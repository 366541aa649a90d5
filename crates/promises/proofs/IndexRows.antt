-- [The index, read from its end; Numbers of refusal] Rows 1 to 5 of the table, then rows 6 to 9 and 17 list by list, and rows 11 and 16 of the
-- operations on one list. They are said of an index's bytes by what is written there, with the numbers spelt out, and not by how an index
-- is read. The rows are gone through in the order of looking, so that at most one number is given. Last, what it is to go by the table.
use Prim.Native.Nat.{ℕ, ◌+◌, ◌*◌, ◌≤◌, ◌<◌}
use mathlib.Core.Path.{◌≡◌}
use mathlib.Core.Logic.{◌⊎◌, ◌↔◌}
use mathlib.Core.List.{List, [], ◌∷◌, ◌++◌, map, flatten}
use lib.ListN.{length}
use Rattle.paper.specs.Bytes.{u32_bytes}
use Rattle.laws.proofs.Lists.{In, Each}
use Rattle.meaning.proofs.Rising.{Ascends}
use Rattle.promises.proofs.RecordRows.{Stained, RecordRefused, RecordSound}

-- x lies in lo..hi
abbrev pub Inside : ℕ → ℕ → ℕ → Type 0
Inside lo hi x = (lo ≤ x) × (x ≤ hi)

-- x lies below lo or above hi
abbrev pub Outside : ℕ → ℕ → ℕ → Type 0
Outside lo hi x = (x < lo) ⊎ (hi < x)

-- a number that four bytes hold
abbrev pub Word : ℕ → Type 0
Word x = x < 4294967296

-- the bytes of numbers, four for each
abbrev pub words : List ℕ → List ℕ
words xs = flatten (map u32_bytes xs)

-- The trailer: five numbers and four bytes more; and what stands before it
pub record Trailer : Type 0 where
  pub before : List ℕ
  pub edition : ℕ
  pub u : ℕ
  pub B : ℕ
  pub k : ℕ
  pub D : ℕ
  pub last : List ℕ

-- its numbers, in their order
abbrev pub numbers_of : Trailer → List ℕ
numbers_of t = t.edition ∷ t.u ∷ t.B ∷ t.k ∷ t.D ∷ []

-- the bytes end in this trailer
pub record EndsIn (bs : List ℕ) (t : Trailer) : Type 0 where
  pub is : bs ≡ t.before ++ (words (numbers_of t) ++ t.last)
  pub small : Each Word (numbers_of t)
  pub four : length t.last ≡ 4

-- Row 1 is passed: an index has 24 to 16,777,216 bytes
abbrev pub Sized : List ℕ → Type 0
Sized bs = Inside 24 16777216 (length bs)

-- and row 2: its trailer ends in the tag
pub record Tagged (bs : List ℕ) (t : Trailer) : Type 0 where
  pub sized : Sized bs
  pub ends : EndsIn bs t
  pub tag : t.last ≡ 0x53 ∷ 0x4c ∷ 0x4f ∷ 0x54 ∷ []

-- and row 3: it is edition 1
pub record Edited (bs : List ℕ) (t : Trailer) : Type 0 where
  pub tagged : Tagged bs t
  pub edition : t.edition ≡ 1

-- and row 4: u, B and k lie in their ranges
pub record Ranged (bs : List ℕ) (t : Trailer) : Type 0 where
  pub edited : Edited bs t
  pub u : Inside 1 1048576 t.u
  pub B : Inside 1 128 t.B
  pub k : Inside 1 4096 t.k

-- and of row 5 this much: D bytes of records, a directory of k starts and the trailer make up the index
pub record Filled (bs : List ℕ) (t : Trailer) (records starts : List ℕ) : Type 0 where
  pub ranged : Ranged bs t
  pub size : t.D + 4 * t.k + 24 ≡ length bs
  pub is : t.before ≡ records ++ words starts
  pub long : length records ≡ t.D
  pub count : length starts ≡ t.k
  pub small : Each Word starts

-- where records start that lie one behind the other from position a on
abbrev pub starts_from : ℕ → List (List ℕ) → List ℕ
starts_from a [] = []
starts_from a (r ∷ rs) = a ∷ starts_from (a + length r) rs

-- and all of row 5: the records lie one behind the other from 0 up to D, each as its start says, none shorter than 12 bytes
pub record Packed (bs : List ℕ) (t : Trailer) (records : List (List ℕ)) : Type 0 where
  pub filled : Filled bs t (flatten records) (starts_from 0 records)
  pub long : Each (λ (r : List ℕ). 12 ≤ length r) records

-- THE NUMBER AND THE PLACE of an index that is refused
pub data Refused (bs : List ℕ) : ℕ → ℕ → Type 0 where
  -- 1: it has fewer than 24 bytes, or more than 16,777,216
  short : length bs < 24 → Refused bs 1 0
  long : 16777216 < length bs → Refused bs 1 0
  -- 2: its last four bytes are not the tag
  tag : (t : Trailer) → Sized bs → EndsIn bs t → ¬ (t.last ≡ 0x53 ∷ 0x4c ∷ 0x4f ∷ 0x54 ∷ []) → Refused bs 2 0
  -- 3: it is another edition
  edition : (t : Trailer) → Tagged bs t → ¬ (t.edition ≡ 1) → Refused bs 3 0
  -- 4: u, B or k is out of its range
  u_range : (t : Trailer) → Edited bs t → Outside 1 1048576 t.u → Refused bs 4 0
  b_range : (t : Trailer) → Edited bs t → Outside 1 128 t.B → Refused bs 4 0
  k_range : (t : Trailer) → Edited bs t → Outside 1 4096 t.k → Refused bs 4 0
  -- 5: D, the directory and the trailer do not make up its length
  size : (t : Trailer) → Ranged bs t → ¬ (t.D + 4 * t.k + 24 ≡ length bs) → Refused bs 5 0
  -- 5: the first start is not 0
  first : (t : Trailer) (records : List ℕ) (s : ℕ) (starts : List ℕ) → Filled bs t records (s ∷ starts) → ¬ (s ≡ 0) → Refused bs 5 0
  -- 5: a record would start at s and end at e, the next start or D, and be shorter than 12 bytes
  tight : (t : Trailer) (records starts : List ℕ) → Filled bs t records starts → (front behind : List ℕ) (s e : ℕ)
      → starts ++ t.D ∷ [] ≡ front ++ s ∷ e ∷ behind → e < s + 12 → Refused bs 5 0
  -- 6 to 9 and 17: the lists in front are sound, and then comes one that is refused; the place is that list
  list : {f : ℕ} (t : Trailer) (front : List (List ℕ)) (r : List ℕ) (behind : List (List ℕ)) → Packed bs t (front ++ r ∷ behind)
      → Each (RecordSound t.u t.B) front → RecordRefused t.u t.B r f → Refused bs f (length front)

-- ROW 17 ALONE, of list i: the lists before it are sound, and then comes one with rubbish beyond its cut
pub record StainedAt (bs : List ℕ) (i : ℕ) : Type 0 where
  pub trailer : Trailer
  pub front : List (List ℕ)
  pub r : List ℕ
  pub behind : List (List ℕ)
  pub packed : Packed bs trailer (front ++ r ∷ behind)
  pub sound : Each (RecordSound trailer.u trailer.B) front
  pub stained : Stained trailer.u trailer.B r
  pub place : length front ≡ i

-- NO ROW: the index is well formed, each of its records being sound
pub record WellFormed (bs : List ℕ) : Type 0 where
  pub trailer : Trailer
  pub records : List (List ℕ)
  pub packed : Packed bs trailer records
  pub sound : Each (RecordSound trailer.u trailer.B) records

-- AN OPERATION ON ONE LIST, counting it, lending its record or telling where that lies, is refused: as the index is, or with 11 where the
-- name is not below k
pub data NameRefused (bs : List ℕ) (name : ℕ) : ℕ → ℕ → Type 0 where
  index : {f p : ℕ} → Refused bs f p → NameRefused bs name f p
  unknown : (w : WellFormed bs) → w.trailer.k ≤ name → NameRefused bs name 11 0

-- it is accepted: a well-formed index and a name below k
pub record NameAccepted (bs : List ℕ) (name : ℕ) : Type 0 where
  pub well : WellFormed bs
  pub below : name < well.trailer.k

-- A TEST OF A SLOT, and telling the next one from a slot on, is refused: as counting is, or with 16 where the slot lies outside 1..u
pub data TestRefused (bs : List ℕ) (name slot : ℕ) : ℕ → ℕ → Type 0 where
  named : {f p : ℕ} → NameRefused bs name f p → TestRefused bs name slot f p
  outside : (a : NameAccepted bs name) → Outside 1 a.well.trailer.u slot → TestRefused bs name slot 16 0

-- it is accepted: and the slot lies in 1..u
pub record TestAccepted (bs : List ℕ) (name slot : ℕ) : Type 0 where
  pub named : NameAccepted bs name
  pub inside : Inside 1 named.well.trailer.u slot

-- An operation goes by the table: it gives a number (not 0) and a place exactly when its conditions for these hold, and 0 exactly when it is to
-- accept, with the place 0; no two of its conditions hold at once
pub record ByTheTable (number place : ℕ) (Refuses : ℕ → ℕ → Type 0) (Accepts : Type 0) : Type 0 where
  pub refuses : (r p : ℕ) → ((number ≡ r) × (place ≡ p) × ¬ (r ≡ 0)) ↔ Refuses r p
  pub accepts : (number ≡ 0) ↔ Accepts
  pub placed : number ≡ 0 → place ≡ 0
  pub one : (r p q o : ℕ) → Refuses r p → Refuses q o → (r ≡ q) × (p ≡ o)
  pub apart : (r p : ℕ) → Refuses r p → ¬ Accepts

-- There are n slots in 1..u with the property P: some list of n slots rises strictly and has exactly these
pub record Counts (u : ℕ) (P : ℕ → Type 0) (n : ℕ) : Type 0 where
  pub slots : List ℕ
  pub rising : Ascends u 0 slots
  pub exactly : (x : ℕ) → In x slots ↔ P x
  pub long : length slots ≡ n
