-- The loops of a merge: what stands kept at the front, and then what is said of the candidates left, stays the same from turn to turn.
use Prim.Native.Nat.{ℕ, ◌+◌, ◌≤◌, ◌<◌}
use mathlib.Core.Path.{◌≡◌, refl, sym, ap, ◌∙◌}
use mathlib.Core.Bool.{Bool, true, false}
use mathlib.Core.List.{List, [], ◌∷◌, append_assoc, append-nil}
use native.Mathlib.Nat.{add-zero}
use native.Mathlib.Numerals.{add-one}
use native.Mathlib.Omega.{arith}
use lib.ListN.{length, get_or, take, set, length-set}
use lib.Seq.{take-set-le, drop-set-lt, take-suc-set}
use Rattle.paper.specs.Lists.{bit_of}
use Rattle.paper.specs.Bytes.{part}
use Rattle.laws.proofs.Parts.{part_cons, part_none}
use Rattle.plain.specs.Sifted.{Sifted, untold, told, behind, Told}

-- of `count` candidates in the slice s those from `next` on are left: the kept ones at its front, and what f says of those left, are w
pub record Merging (w : Sifted) (f : List ℕ → Sifted) (long count kept next : ℕ) (s : List ℕ) : Type 0 where
  pub low : kept ≤ next
  pub within : next ≤ count
  pub room : count ≤ length s
  pub same_length : length s ≡ long
  pub same : behind (take kept s) (f (part s next count)) ≡ w

-- it begins with those that f is to tell, as they stand
pub begun : (f : List ℕ → Sifted) (count kept next : ℕ) (s : List ℕ) → kept ≤ next → next ≤ count → count ≤ length s
    → Merging (behind (take kept s) (f (part s next count))) f (length s) count kept next s
begun f count kept next s a b c = record { low = a; within = b; room = c; same_length = refl; same = refl }

-- x is stored at `kept`, and counts where the test passes
stored : (s : List ℕ) (kept x : ℕ) (b : Bool) → kept < length s → (w : Sifted) → behind (take (kept + bit_of b) (set s kept x)) w ≡ behind (take kept s) (told b x w)
stored s kept x true l w = rw (add-one kept, take-suc-set s kept x l, append_assoc)
stored s kept x false l w = let k : kept ≤ kept = omega arith in rw (add-zero kept, take-set-le kept s kept x k)

module _ (w : Sifted) (f : List ℕ → Sifted) (long count kept next : ℕ) (s : List ℕ) (h : Merging w f long count kept next s) where
  -- f tells none of those left, xs
  ended : (xs : List ℕ) → part s next count ≡ xs → f xs ≡ untold xs → Told w count kept next s
  ended xs is e =
      let q : behind (take kept s) (untold xs) ≡ w = ap (behind (take kept s)) (sym e) ∙ rw is at h.same in
      record {
        low = h.low;
        within = h.within;
        room = h.room;
        front = sym (append-nil _) ∙ ap (λ (v : Sifted). v.kept) q;
        rest = is ∙ ap (λ (v : Sifted). v.left) q;
      }

  -- f tells none of them
  pub all_left : f (part s next count) ≡ untold (part s next count) → Told w count kept next s
  all_left = ended (part s next count) refl

  -- none is left
  pub none_left : count ≤ next → f [] ≡ untold [] → Told w count kept next s
  none_left l e = ended [] (part_none s next count l) e

  module _ (l : next < count) where
    abbrev here : List ℕ
    here = get_or s next 0 ∷ part s (next + 1) count

    first : part s next count ≡ here
    first = part_cons s next count l h.room

    -- the first of them stops it
    pub stopped : f here ≡ untold here → Told w count kept next s
    stopped e = ended here first e

    -- another says the same of them
    pub handed : (g : List ℕ → Sifted) → f here ≡ g here → Merging w g long count kept next s
    handed g e =
        record { low = h.low; within = h.within; room = h.room; same_length = h.same_length; same = rw (first, ← e) (rw first at h.same) }

    -- the first of them is told: it is stored, and one more is kept where its test passes. Nothing that is left to tell stands so far in front
    pub turned : (b : Bool) → f here ≡ told b (get_or s next 0) (f (part s (next + 1) count)) → (more : ℕ) → more ≡ bit_of b → more ≤ 1
        → Merging w f long count (kept + more) (next + 1) (set s kept (get_or s next 0))
    turned b e more is few =
        let o = h.room in
        let k = h.low in
        let i : kept < next + 1 = omega arith in
        let r : kept < length s = omega arith in
        record {
          low = omega arith;
          within = omega arith;
          room = rw length-set o;
          same_length = length-set s kept _ ∙ h.same_length;
          same = rw (is, drop-set-lt (next + 1) s kept (get_or s next 0) i) (stored s kept (get_or s next 0) b r _ ∙ ap (behind (take kept s)) (sym e) ∙ rw first at h.same);
        }
