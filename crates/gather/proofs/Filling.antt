-- Slots put one behind the other to the front of a slice: those that stand there, with those still to come, are always the same.
use Prim.Native.Nat.{ℕ, ◌+◌, ◌-◌, ◌≤◌, ◌<◌}
use mathlib.Core.Path.{◌≡◌, sym, ◌∙◌}
use mathlib.Core.List.{List, [], ◌∷◌, ◌++◌, append_assoc, append-nil}
use native.Mathlib.Numerals.{add-one}
use native.Mathlib.Omega.{arith}
use lib.ListN.{length, set, take, length-set}
use lib.Seq.{take-suc-set}
use Rattle.record.specs.Front.{Front}

-- s has `size` places; w slots stand at its front, there is room for k more, and with the rest they are t
pub record Filling (t : List ℕ) (size : ℕ) (s : List ℕ) (w k : ℕ) (rest : List ℕ) : Type 0 where
  pub long : length s ≡ size
  pub room : w + k ≤ size
  pub same : take w s ++ rest ≡ t

module _ {t : List ℕ} {size : ℕ} {s : List ℕ} {w k : ℕ} {rest : List ℕ} (h : Filling t size s w k rest) where
  -- nothing is to come
  pub filled : rest ≡ [] → Front t w s
  filled e = record { few = omega (arith, h.long, h.room); are = sym (append-nil _) ∙ (rw e at h.same) }

  -- the slot x is put behind the others
  pub put : (x : ℕ) (xs : List ℕ) → rest ≡ x ∷ xs → 0 < k → Filling t size (set s w x) (w + 1) (k - 1) xs
  put x xs e l =
      let i : w < length s = omega (arith, h.long, h.room) in
      record {
        long = length-set s w x ∙ h.long;
        room = omega (arith, h.room);
        same = simp (add-one w, take-suc-set s w x i, append_assoc) (rw e at h.same);
      }
