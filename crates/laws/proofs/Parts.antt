-- Lists of bytes: what stands from a position on, parts, and lists joined.
use Prim.Native.Nat.{ℕ, zero, suc, ◌+◌, ◌-◌, ◌≤◌, ◌<◌}
use mathlib.Core.Path.{◌≡◌, refl, ◌∙◌}
use mathlib.Core.List.{List, [], ◌∷◌, ◌++◌, append_assoc}
use native.Mathlib.Numerals.{add-one}
use native.Mathlib.Decide.{dec_lt}
use native.Mathlib.Omega.{arith}
use lib.ListN.{length, get_or, take, drop, length-take, length-drop, drop_of_length-le, get_or-append, get_or-eq_default}
use lib.Seq.{drop-cons, take_all, get_or-take, get_or-drop, get_or-append-add}
use Rattle.paper.specs.Bytes.{byte_at, part}

-- every number of the list is a byte
abbrev pub AllBytes : List ℕ → Type 0
AllBytes bs = (i : ℕ) → byte_at bs i < 256

-- and so is what stands behind n bytes
pub all_drop : (n : ℕ) (bs : List ℕ) → AllBytes bs → AllBytes (drop n bs)
all_drop n bs all i = rw (get_or-drop n bs i 0) (all (n + i))

-- and so is what stands behind the first byte
pub all_tail : (b : ℕ) (bs : List ℕ) → AllBytes (b ∷ bs) → AllBytes bs
all_tail b bs all = all_drop 1 (b ∷ bs) all

-- what stands behind in a list of bytes is bytes
pub all_behind : (xs ys : List ℕ) → AllBytes (xs ++ ys) → AllBytes ys
all_behind xs ys all i = rw (← get_or-append-add xs ys i 0) (all (length xs + i))

-- and what stands in front
pub all_front : (xs ys : List ℕ) → AllBytes (xs ++ ys) → AllBytes xs
all_front xs ys all i = go (dec_lt i (length xs))
  where
    go : Dec (i < length xs) → get_or xs i 0 < 256
    go (yes l) = rw (← get_or-append xs ys 0 i l) (all i)
    go (no g) = rw (get_or-eq_default xs 0 {n = i} (omega arith)) (omega arith)

-- and its first n
pub all_take : (n : ℕ) (xs : List ℕ) → AllBytes xs → AllBytes (take n xs)
all_take n xs all i = go (dec_lt i n)
  where
    go : Dec (i < n) → get_or (take n xs) i 0 < 256
    go (yes l) = rw (get_or-take n xs i 0 l) (all i)
    go (no g) = rw (get_or-eq_default (take n xs) 0 {n = i} (rw length-take (omega arith))) (omega arith)

-- two lists of bytes make one
pub all_join : (xs ys : List ℕ) → AllBytes xs → AllBytes ys → AllBytes (xs ++ ys)
all_join xs ys a b i = go (dec_lt i (length xs))
  where
    go : Dec (i < length xs) → get_or (xs ++ ys) i 0 < 256
    go (yes l) = rw (get_or-append xs ys 0 i l) (a i)
    go (no g) =
        let i-is : length xs + (i - length xs) ≡ i = omega arith in
        let e = rw i-is at (get_or-append-add xs ys (i - length xs) 0) in
        rw e (b (i - length xs))

-- the empty list has none but bytes
pub all_none : AllBytes []
all_none i = omega arith

-- a byte before bytes
pub all_more : (x : ℕ) (xs : List ℕ) → x < 256 → AllBytes xs → AllBytes (x ∷ xs)
all_more x xs l a zero = l
all_more x xs l a (suc i) = a i

-- what stands from position p on
module _ (bs : List ℕ) (p : ℕ) where
  -- a byte stands there
  pub front : (a : ℕ) → p < length bs → a ≡ byte_at bs p → drop p bs ≡ a ∷ drop (p + 1) bs
  front a h is = rw (is, add-one p) (drop-cons bs p 0 h)

  -- none does
  pub nothing : length bs ≤ p → drop p bs ≡ []
  nothing h = drop_of_length-le bs h

-- a part
module _ (bs : List ℕ) (a e : ℕ) where
  -- how long it is
  pub length_part : e ≤ length bs → length (part bs a e) ≡ e - a
  length_part h = rw (length-take, length-drop) (omega arith)

  -- one that is not empty, its first number taken off
  pub part_cons : a < e → e ≤ length bs → part bs a e ≡ get_or bs a 0 ∷ part bs (a + 1) e
  part_cons l h = let n : e - a ≡ suc (e - (a + 1)) = omega arith in rw (n, add-one a, drop-cons bs a 0 (omega arith))

  -- one that ends where it begins, or before
  pub part_none : e ≤ a → part bs a e ≡ []
  part_none l = let n : e - a ≡ 0 = omega arith in rw n

-- a part that goes up to the end is all that stands from its start on
pub part_end : (bs : List ℕ) (a : ℕ) → part bs a (length bs) ≡ drop a bs
part_end bs a = take_all (length bs - a) (drop a bs) (omega (arith, length-drop a bs))

-- no number, no list
pub no_length : {A : Type 0} (xs : List A) → length xs ≡ 0 → xs ≡ []
no_length [] e = refl
no_length (x ∷ xs) e = absurd (omega arith)

-- four lists joined, bracketed to the right
pub join_4 : (a b c d : List ℕ) → a ++ b ++ c ++ d ≡ a ++ (b ++ (c ++ d))
join_4 a b c d = append_assoc (a ++ b) c d ∙ append_assoc a b (c ++ d)
