-- What the writing of directory and trailer cites: runs of stores, side by side, are one.
use Prim.Native.Nat.{ℕ, ◌+◌, ◌*◌, ◌-◌, ◌≤◌, ◌<◌}
use mathlib.Core.Path.{◌≡◌, refl, ap, ◌∙◌}
use mathlib.Core.List.{List, ◌++◌, map, flatten, append_assoc}
use native.Mathlib.Omega.{arith}
use borrow.Rule.Slice.PartMut.{put_mid}
use lib.ListN.{length, get_or, take, drop, length-append}
use lib.Seq.{length-take-le, drop-drop, sets, sets-eq, length-sets}
use Rattle.paper.specs.Lists.{on_front}
use Rattle.paper.specs.Bytes.{u32_bytes}
use Rattle.paper.specs.Refusal.{tag, finished}
use Rattle.paper.specs.Close.{frame_bytes}
use Rattle.laws.proofs.Parts.{front, nothing}
use Rattle.laws.proofs.Words.{length_word, length_words}
use Rattle.laws.proofs.Stores.{Run, run_more, run_word, run_first}
use Rattle.closing.specs.Trailer.{trailer}

-- the directory: once the starts from i on are written too, the room is t
pub record Putting (t : List ℕ) (size at : ℕ) (starts room : List ℕ) (i : ℕ) : Type 0 where
  pub long : length room ≡ size
  pub few : i ≤ length starts
  pub same : sets room (at + 4 * i) (flatten (map u32_bytes (drop i starts))) ≡ t

-- none is written
pub putting_begin : (at : ℕ) (starts room : List ℕ) → Putting (sets room at (flatten (map u32_bytes starts))) (length room) at starts room 0
putting_begin at starts room = record { long = refl; few = omega arith; same = let z : at + 4 * 0 ≡ at = omega arith in rw z }

module _ {t : List ℕ} {size at : ℕ} {starts room : List ℕ} {i : ℕ} (h : Putting t size at starts room i) where
  -- all are
  pub putting_done : length starts ≤ i → room ≡ t
  unfolding flatten
  putting_done l = rw (nothing starts i l) at h.same

  -- the next is; x is what was written
  pub putting_turn : i < length starts → (after : List ℕ) (x : ℕ) → after ≡ sets room (at + 4 * i) (u32_bytes x) → x ≡ get_or starts i 0 → Putting t size at starts after (i + 1)
  unfolding flatten
  putting_turn l after x e is =
      let rest = flatten (map u32_bytes (drop (i + 1) starts)) in
      let both = run_more (run_first x after e) rest _ refl (at + 4 * (i + 1)) (omega arith) (sets after (at + 4 * (i + 1)) rest) refl in
      record {
        long = ap length e ∙ length-sets room (at + 4 * i) (u32_bytes x) ∙ h.long;
        few = omega arith;
        same = both.is ∙ (rw (front starts i x l is) at h.same);
      }

-- all of these
pub ruleset puttings = (putting_begin, putting_done, putting_turn)

-- t put in the place of as many bytes from `at` on. (It is said of any t: with the tag's own bytes, `++` computes and the laws no longer fit)
copied : (t l : List ℕ) (at n : ℕ) (r : List ℕ) → at + length t ≤ length l → n ≡ length t → r ≡ t → put_mid at n l r ≡ sets l at t
copied t l at n r h w e = rw (w, e, sets-eq t l at h) (simp (append_assoc, drop-drop))

-- and so the tag
pub tag_put : (l : List ℕ) (at : ℕ) (r : List ℕ) → at + 4 ≤ length l → r ≡ tag → put_mid at (at + 4 - at) l r ≡ sets l at tag
tag_put l at r h e = copied tag l at (at + 4 - at) r h (omega arith) e

-- the trailer: its five numbers, and the tag
pub trailer_put : (l : List ℕ) (at u B k D : ℕ) (r₁ r₂ r₃ r₄ r₅ r : List ℕ) → r₁ ≡ sets l at (u32_bytes 1) → r₂ ≡ sets r₁ (at + 4) (u32_bytes u)
    → r₃ ≡ sets r₂ (at + 8) (u32_bytes B) → r₄ ≡ sets r₃ (at + 12) (u32_bytes k) → r₅ ≡ sets r₄ (at + 16) (u32_bytes D) → r ≡ sets r₅ (at + 20) tag
    → r ≡ sets l at (trailer u B k D)
trailer_put l at u B k D r₁ r₂ r₃ r₄ r₅ r e₁ e₂ e₃ e₄ e₅ e =
    let five = run_word (run_word (run_word (run_word (run_first 1 r₁ e₁) u r₂ e₂) B r₃ e₃) k r₄ e₄) D r₅ e₅ in
    (run_more five tag 4 refl (at + 20) refl r e).is

-- the directory, and the trailer behind it
module _ (l : List ℕ) (u B D : ℕ) (starts : List ℕ) where
  joined : flatten (map u32_bytes starts) ++ trailer u B (length starts) D ≡ frame_bytes u B D starts
  unfolding frame_bytes
  joined = simp append_assoc

  -- both are written behind the records
  pub frame_put : (r₁ r : List ℕ) → r₁ ≡ sets l D (flatten (map u32_bytes starts)) → r ≡ sets r₁ (D + 4 * length starts) (trailer u B (length starts) D)
      → r ≡ sets l D (frame_bytes u B D starts)
  frame_put r₁ r e₁ e =
      let directory : Run l D (flatten (map u32_bytes starts)) (4 * length starts) r₁ = record { size = length_words starts; is = e₁ } in
      (run_more directory (trailer u B (length starts) D) 24 (simp (length-append, length_word)) _ refl r e).is ∙ ap (λ (m : List ℕ). sets l D m) joined

  -- and the records stay, as does what stands behind
  pub frame_behind : finished D (length starts) ≤ length l → sets l D (frame_bytes u B D starts) ≡ on_front (take D l ++ frame_bytes u B D starts) l
  frame_behind h =
      let f = frame_bytes u B D starts in
      let n : length f ≡ 4 * length starts + 24 = rw (← joined, length-append, length_words) (simp (length-append, length_word)) in
      let d : length (take D l ++ f) ≡ D + length f = rw (length-append, length-take-le D l (omega arith)) in
      rw d (sets-eq f l D (omega arith))
