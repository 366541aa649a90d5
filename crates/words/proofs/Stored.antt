-- Bytes written into a buffer: a part of it copied over at once.
use Prim.Native.Nat.{ℕ, ◌+◌, ◌-◌, ◌≤◌}
use mathlib.Core.Path.{◌≡◌, refl, ◌∙◌}
use mathlib.Core.List.{List, append_assoc}
use native.Mathlib.Omega.{arith}
use lib.ListN.{length}
use lib.Seq.{drop-drop, sets, sets-eq}
use borrow.Rule.Slice.PartMut.{put_mid}
use Rattle.std.specs.Int.{w32, to_le_bytes}
use Rattle.paper.specs.Bytes.{u32_bytes}
use Rattle.laws.proofs.Words.{length_word}

-- t put in the place of as many bytes from `at` on. (It is said of any t: with the bytes of a number, `++` computes and the laws no longer fit)
pub copied : (t l : List ℕ) (at n : ℕ) (r : List ℕ) → at + length t ≤ length l → n ≡ length t → r ≡ t → put_mid at n l r ≡ sets l at t
copied t l at n r h w e = rw (w, e, sets-eq t l at h) (simp (append_assoc, drop-drop))

bytes_are : (x : ℕ) → to_le_bytes w32 x ≡ u32_bytes x
unfolding u32_bytes
bytes_are x = refl

-- and so a number
pub word_put : (l : List ℕ) (at x : ℕ) (r : List ℕ) → at + 4 ≤ length l → r ≡ to_le_bytes w32 x → put_mid at (at + 4 - at) l r ≡ sets l at (u32_bytes x)
word_put l at x r h e = let n = length_word x in copied (u32_bytes x) l at (at + 4 - at) r (omega arith) (omega arith) (e ∙ bytes_are x)
