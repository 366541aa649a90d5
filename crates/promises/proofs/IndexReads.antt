-- Numbers written one behind the other are read back, and every list of bytes that is long enough ends in some trailer.
use Prim.Native.Nat.{ℕ, zero, suc, ◌+◌, ◌-◌, ◌*◌, ◌≤◌, ◌<◌}
use mathlib.Core.Path.{◌≡◌, refl, sym, ap, ◌∙◌}
use mathlib.Core.List.{List, [], ◌∷◌, ◌++◌, append_assoc, flatten}
use native.Mathlib.Omega.{arith}
use lib.ListN.{length, get_or, take, drop, length-append, length-drop, take-append-drop}
use lib.Seq.{drop-drop, drop_at}
use Rattle.paper.specs.Bytes.{u32_at, u32_bytes}
use Rattle.paper.specs.Index.{from_end, edition_of, u_of, block_length, k_of, d_of}
use Rattle.laws.proofs.Lists.{Each}
use Rattle.laws.proofs.Parts.{AllBytes, all_drop}
use Rattle.laws.proofs.Words.{word_bound, word_read, word_behind, word_is, length_word, length_words}
use Rattle.promises.proofs.IndexRows.{Word, words, Trailer, numbers_of, EndsIn, WellFormed}

-- numbers, one at a time
words_none : words [] ≡ []
unfolding flatten
words_none = refl

-- one number, and then the others
words_next : (x : ℕ) (xs : List ℕ) → words (x ∷ xs) ≡ u32_bytes x ++ words xs
unfolding flatten
words_next x xs = refl

-- what is written is read back
words_read : (xs rest : List ℕ) (i : ℕ) → Each Word xs → i < length xs → u32_at (words xs ++ rest) (4 * i) ≡ get_or xs i 0
words_read [] rest i w l = absurd (omega arith)
words_read (x ∷ xs) rest zero w l = rw (words_next, append_assoc) (word_read x (words xs ++ rest) w.0)
words_read (x ∷ xs) rest (suc i) w l =
    let h = length_word x in
    let p : 4 * suc i ≡ length (u32_bytes x) + 4 * i = omega arith in
    rw (words_next, append_assoc, p) (word_behind (u32_bytes x) (words xs ++ rest) (4 * i) ∙ words_read xs rest i w.1 (omega arith))

module _ (bs front xs rest : List ℕ) (is : bs ≡ front ++ (words xs ++ rest)) (w : Each Word xs) where
  -- behind other bytes
  pub word_at : (p i : ℕ) → i < length xs → p ≡ length front + 4 * i → u32_at bs p ≡ get_or xs i 0
  word_at p i l e = rw (is, e) (word_behind front (words xs ++ rest) (4 * i) ∙ words_read xs rest i w l)

-- the k numbers that bytes begin with
abbrev pub numbers : ℕ → List ℕ → List ℕ
numbers zero xs = []
numbers (suc k) xs = u32_at xs 0 ∷ numbers k (drop 4 xs)

-- k of them
pub numbers_count : (k : ℕ) (xs : List ℕ) → length (numbers k xs) ≡ k
numbers_count zero xs = refl
numbers_count (suc k) xs = ap suc (numbers_count k (drop 4 xs))

-- each of four bytes
pub numbers_small : (k : ℕ) (xs : List ℕ) → AllBytes xs → Each Word (numbers k xs)
numbers_small zero xs all = tt
numbers_small (suc k) xs all = (word_bound xs 0 all, numbers_small k (drop 4 xs) (all_drop 4 xs all))

-- the bytes begin with theirs
pub numbers_are : (k : ℕ) (xs : List ℕ) → AllBytes xs → 4 * k ≤ length xs → xs ≡ words (numbers k xs) ++ drop (4 * k) xs
numbers_are zero xs all l = rw words_none
numbers_are (suc k) xs all l =
    let d = length-drop 4 xs in
    let on : 4 + 4 * k ≡ 4 * suc k = omega arith in
    let r = numbers_are k (drop 4 xs) (all_drop 4 xs all) (omega arith) in
    let rest = words (numbers k (drop 4 xs)) in
    let later : drop 4 xs ≡ rest ++ drop (4 * suc k) xs = r ∙ ap (λ (l : List ℕ). rest ++ l) (drop-drop (4 * k) 4 xs ∙ ap (λ (i : ℕ). drop i xs) on) in
    rw (words_next, append_assoc) (word_is xs all (omega arith) ∙ ap (λ (l : List ℕ). u32_bytes (u32_at xs 0) ++ l) later)

-- Every list of 24 bytes or more ends in a trailer
pub record Ending (bs : List ℕ) : Type 0 where
  pub trailer : Trailer
  pub ends : EndsIn bs trailer

-- the trailer of their last 24 bytes
pub ending : (bs : List ℕ) → AllBytes bs → 24 ≤ length bs → Ending bs
ending bs all l =
    let p = length bs - 24 in
    let back = drop p bs in
    let d : length back ≡ length bs - p = length-drop p bs in
    record {
      trailer =
          record {
            before = take p bs;
            edition = u32_at back 0;
            u = u32_at (drop 4 back) 0;
            B = u32_at (drop 4 (drop 4 back)) 0;
            k = u32_at (drop 4 (drop 4 (drop 4 back))) 0;
            D = u32_at (drop 4 (drop 4 (drop 4 (drop 4 back)))) 0;
            last = drop 20 back;
          };
      ends =
          record {
            is = sym (take-append-drop p bs) ∙ ap (λ (l : List ℕ). take p bs ++ l) (numbers_are 5 back (all_drop p bs all) (omega arith));
            small = numbers_small 5 back (all_drop p bs all);
            four = length-drop 20 back ∙ (omega arith);
          };
    }

-- The trailer that is written is the one that is read
module _ (bs : List ℕ) (t : Trailer) (e : EndsIn bs t) where
  twenty : length (words (numbers_of t)) ≡ 20
  twenty = length_words (numbers_of t)

  -- it has 24 bytes
  pub ends_length : length bs ≡ length t.before + 24
  ends_length =
      let f = e.four in
      let w = twenty in
      ap length e.is ∙ rw (length-append, length-append) (omega arith)

  at : (d i : ℕ) → i < 5 → d + 4 * i ≡ 24 → from_end bs d ≡ get_or (numbers_of t) i 0
  unfolding from_end
  at d i l h = let s = ends_length in word_at bs t.before (numbers_of t) t.last e.is e.small (length bs - d) i l (omega arith)

  -- the edition
  pub edition_read : edition_of bs ≡ t.edition
  edition_read = at 24 0 (omega arith) (omega arith)

  -- u
  pub u_read : u_of bs ≡ t.u
  u_read = at 20 1 (omega arith) (omega arith)

  -- B
  pub b_read : block_length bs ≡ t.B
  b_read = at 16 2 (omega arith) (omega arith)

  -- k
  pub k_read : k_of bs ≡ t.k
  k_read = at 12 3 (omega arith) (omega arith)

  -- D
  pub d_read : d_of bs ≡ t.D
  d_read = at 8 4 (omega arith) (omega arith)

  -- the last four bytes
  pub last_read : drop (length bs - 4) bs ≡ t.last
  last_read =
      let s = ends_length in
      let w = twenty in
      let five = words (numbers_of t) in
      let all : bs ≡ t.before ++ five ++ t.last = e.is ∙ sym (append_assoc t.before five t.last) in
      let long : length (t.before ++ five) ≡ length bs - 4 = rw length-append (omega arith) in
      ap (drop (length bs - 4)) all ∙ drop_at (t.before ++ five) t.last (length bs - 4) long

-- the numbers of a well-formed index
module _ (bs : List ℕ) (w : WellFormed bs) where
  ends : EndsIn bs w.trailer
  ends = w.packed.filled.ranged.edited.tagged.ends

  -- u
  pub well_u : u_of bs ≡ w.trailer.u
  well_u = u_read bs w.trailer ends

  -- B
  pub well_b : block_length bs ≡ w.trailer.B
  well_b = b_read bs w.trailer ends

  -- k
  pub well_k : k_of bs ≡ w.trailer.k
  well_k = k_read bs w.trailer ends
