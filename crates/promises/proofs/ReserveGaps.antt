-- [Order 6] How many bytes the codes of rising slots take, by induction over the gaps. A code of two bytes leads to a slot 129 or more above the one before it, a code of three
-- to one 16,385 or more above it; and all of them lead from the cut to no more than u.
use Prim.Native.Nat.{ℕ, ◌+◌, ◌-◌, ◌*◌, ◌≤◌, ◌<◌}
use mathlib.Core.Path.{◌≡◌, refl}
use mathlib.Core.List.{List, ◌++◌}
use native.Mathlib.Decide.{dec_lt}
use native.Mathlib.Omega.{arith}
use lib.ListN.{length, length-append}
use Rattle.paper.specs.Code.{code_bytes}
use Rattle.laws.proofs.Codes.{bytes_one, bytes_two, bytes_three}

-- Slots in blocks have this many code bytes: one for each slot that begins no block; p more for codes of two bytes or three, which lead at least 129 p slots from one slot
-- to another; and q more for codes of three, which lead at least 16,385 q slots
pub record Spans (bytes blocks slots from to : ℕ) : Type 0 where
  pub p : ℕ
  pub q : ℕ
  pub sum : bytes + blocks ≡ slots + p + q
  pub twos : from + 129 * p ≤ to
  pub threes : from + 16385 * q ≤ to

-- no slots
pub spans_none : (from to : ℕ) → from ≤ to → Spans 0 0 0 from to
spans_none from to l = record { p = 0; q = 0; sum = refl; twos = omega arith; threes = omega arith }

-- slots behind others: their bytes are joined, and blocks and slots add up
module _ (bs cs : List ℕ) {m k n o from mid mid₂ to : ℕ} (s : Spans (length bs) m n from mid) (l : mid ≤ mid₂) (t : Spans (length cs) k o mid₂ to) where
  pub spans_join : (blocks slots : ℕ) → blocks ≡ m + k → slots ≡ n + o → Spans (length (bs ++ cs)) blocks slots from to
  spans_join blocks slots e f =
      let size = length-append bs cs in
      record {
        p = s.p + t.p;
        q = s.q + t.q;
        sum = omega (arith, s.sum, t.sum);
        twos = omega (arith, s.twos, t.twos);
        threes = omega (arith, s.threes, t.threes);
      }

-- one code, by how many bytes it has
pub code_spans : (prev x : ℕ) → prev < x → Spans (length (code_bytes (x - prev - 1))) 0 1 prev x
code_spans prev x l = go (dec_lt v 128) (dec_lt v 16384)
  where
    v : ℕ
    v = x - prev - 1

    go : Dec (v < 128) → Dec (v < 16384) → Spans (length (code_bytes v)) 0 1 prev x
    go (yes a) d = rw (bytes_one v a) (record { p = 0; q = 0; sum = refl; twos = omega arith; threes = omega arith })
    go (no g) (yes a) = rw (bytes_two v (omega arith) a) (record { p = 1; q = 0; sum = refl; twos = omega arith; threes = omega arith })
    go (no g) (no h) = rw (bytes_three v (omega arith)) (record { p = 1; q = 1; sum = refl; twos = omega arith; threes = omega arith })
