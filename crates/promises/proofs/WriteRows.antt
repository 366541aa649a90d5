-- [Numbers of refusal] The rows of writing a record: 4, 15, 13 and 12. They are said of what is to be written, with the numbers spelt out. The rows
-- are gone through in the order of writing, so that at most one number is given. Before them, what it is for some bytes to be the record of a cut and
-- of slots. The record is described by its parts, in the words of writing (`u32_bytes`, `bit_bytes`, `in_blocks`, `skip_entries` and `block_codes` of crate
-- paper), so this alone does not judge these words. That the parts read back as the cut and the slots is said in Writing, by RecordForReads,
-- WriteReadsBack and WriteHolds.
use Prim.Native.Nat.{ℕ, ◌≤◌, ◌<◌}
use mathlib.Core.Path.{◌≡◌}
use mathlib.Core.Bool.{Bool, true}
use mathlib.Core.Logic.{◌↔◌}
use mathlib.Core.List.{List, ◌∷◌, ◌++◌}
use lib.ListN.{length}
use Rattle.paper.specs.Write.{bit_bytes}
use Rattle.laws.proofs.Lists.{In}
use Rattle.meaning.proofs.Rising.{Ascends}
use Rattle.promises.proofs.RecordRows.{AboveAll, RecordSound}
use Rattle.promises.proofs.IndexRows.{Inside, Outside}

-- THE RECORD of the slots xs with this cut, by its bytes
pub record RecordFor (u B cut : ℕ) (xs r : List ℕ) : Type 0 where
  -- it is sound: written from a cut, bytes of bits, and slots above the cut in blocks of B
  pub sound : RecordSound u B r
  -- the cut is this one
  pub cut_is : sound.cut ≡ cut
  -- the bits are those of the slots up to the cut, and no other bit is set, beyond the cut neither
  pub test : ℕ → Bool
  pub bits_are : sound.bits ≡ bit_bytes test 1 (length sound.bits)
  pub low : (x : ℕ) → (test x ≡ true) ↔ (In x xs × (x ≤ cut))
  -- and the others are the slots above it
  pub high : (x : ℕ) → In x sound.slots ↔ (In x xs × (cut < x))

-- Row 4 is passed: u and B lie in their ranges
pub record Ranges (u B : ℕ) : Type 0 where
  pub slots_within : Inside 1 1048576 u
  pub block_within : Inside 1 128 B

-- and row 15: the cut is at most u
pub record Cuts (u B cut : ℕ) : Type 0 where
  pub ranges : Ranges u B
  pub cut_within : cut ≤ u

-- and row 13: the slots rise strictly in 1..u
pub record Writable (u B cut : ℕ) (slots : List ℕ) : Type 0 where
  pub cuts : Cuts u B cut
  pub rising : Ascends u 0 slots

-- THE NUMBER AND THE PLACE of a writing that is refused, where the buffer has this much room
pub data WriteRefused (u B cut : ℕ) (slots : List ℕ) (room : ℕ) : ℕ → ℕ → Type 0 where
  -- 4: u or B is out of its range
  u_range : Outside 1 1048576 u → WriteRefused u B cut slots room 4 0
  b_range : Outside 1 128 B → WriteRefused u B cut slots room 4 0
  -- 15: the cut is above u
  cut_above : Ranges u B → u < cut → WriteRefused u B cut slots room 15 0
  -- 13: the slots in front rise strictly in 1..u, and then comes one that is not above all of them, or is 0; the place is its position
  not_above : Cuts u B cut → (front : List ℕ) (x : ℕ) (behind : List ℕ) → slots ≡ front ++ x ∷ behind → Ascends u 0 front → ¬ (AboveAll x (0 ∷ front))
      → WriteRefused u B cut slots room 13 (length front)
  -- 13: or one that is above u
  beyond : Cuts u B cut → (front : List ℕ) (x : ℕ) (behind : List ℕ) → slots ≡ front ++ x ∷ behind → Ascends u 0 front → u < x
      → WriteRefused u B cut slots room 13 (length front)
  -- 12: the record is longer than the buffer; the place is its length
  no_room : Writable u B cut slots → (r : List ℕ) → RecordFor u B cut slots r → room < length r → WriteRefused u B cut slots room 12 (length r)

-- NO ROW: and the buffer has room for the record
pub record WriteAccepted (u B cut : ℕ) (slots : List ℕ) (room : ℕ) : Type 0 where
  pub writable : Writable u B cut slots
  pub bytes : List ℕ
  pub is : RecordFor u B cut slots bytes
  pub fits : length bytes ≤ room
