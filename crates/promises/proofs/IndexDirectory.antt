-- The directory: the starts that are written are those that are read, records that lie one behind the other are those between the starts,
-- and starts either leave each record 12 bytes or do not.
use Prim.Native.Nat.{ℕ, zero, suc, ◌+◌, ◌-◌, ◌*◌, ◌≤◌, ◌<◌}
use mathlib.Core.Path.{◌≡◌, refl, sym, ap, ◌∙◌}
use mathlib.Core.Bool.{true, false, or-true}
use mathlib.Core.Logic.{◌⊎◌}
use mathlib.Core.Logic.◌⊎◌.{inl, inr}
use mathlib.Core.List.{List, [], ◌∷◌, ◌++◌, append_assoc, append-nil, flatten}
use native.Mathlib.Decide.{dec_le}
use native.Mathlib.Omega.{arith}
use lib.ListN.{length, get_or, take, drop, length-append, length-drop, take-append-drop}
use lib.Seq.{take_at, drop_at, length-take-le}
use lib.Dec.{ltb}
use borrow.Author.Tests.{lt-ltb, le-ltb}
use Rattle.paper.specs.Refusal.{too_short}
use Rattle.paper.specs.Index.{from_end, start_of, record_in}
use Rattle.laws.proofs.Lists.{Each}
use Rattle.laws.proofs.Frames.{start_end}
use Rattle.promises.proofs.IndexRows.{words, Trailer, numbers_of, EndsIn, Filled, starts_from}
use Rattle.promises.proofs.IndexReads.{word_at, k_read, d_read}

-- a function gives these numbers from i on
abbrev Gives : (ℕ → ℕ) → ℕ → List ℕ → Type 0
Gives start i [] = Unit {0}
Gives start i (x ∷ xs) = (start i ≡ x) × Gives start (i + 1) xs

gives_all : (start : ℕ → ℕ) (xs : List ℕ) (e i : ℕ) → ((j : ℕ) → j < length xs → start (i + j) ≡ get_or xs j 0) → start (i + length xs) ≡ e
    → Gives start i (xs ++ e ∷ [])
gives_all start [] e i h z = let n : i ≡ i + 0 = omega arith in (ap start n ∙ z, tt)
gives_all start (x ∷ xs) e i h z =
    let n : i ≡ i + 0 = omega arith in
    let m : i + 1 + length xs ≡ i + suc (length xs) = omega arith in
    let on : (j : ℕ) → j < length xs → start (i + 1 + j) ≡ get_or xs j 0
    = λ j l. let q : i + 1 + j ≡ i + suc j = omega arith in ap start q ∙ h (suc j) (omega arith) in
    (ap start n ∙ h 0 (omega arith), gives_all start xs e (i + 1) on (ap start m ∙ z))

-- An index's starts, and then D
module _ (bs : List ℕ) (t : Trailer) (records starts : List ℕ) (f : Filled bs t records starts) where
  ends : EndsIn bs t
  ends = f.ranged.edited.tagged.ends

  all_is : bs ≡ records ++ (words starts ++ (words (numbers_of t) ++ t.last))
  all_is = ends.is ∙ rw (f.is, append_assoc)

  -- start i is the i-th of the directory
  pub start_at : (i : ℕ) → i < t.k → start_of bs i ≡ get_or starts i 0
  unfolding start_of from_end
  start_at i l =
      let k_is = k_read bs t ends in
      let size = f.size in
      let long = f.long in
      let count = f.count in
      rw (k_is, lt-ltb i t.k l) (word_at bs records starts _ all_is f.small (length bs - (24 + 4 * (t.k - i))) i (omega arith) (omega arith))

  -- they are those of the directory
  pub starts_read : Gives (start_of bs) 0 (starts ++ t.D ∷ [])
  starts_read =
      let count = f.count in
      let n : 0 + length starts ≡ t.k = omega arith in
      let each : (j : ℕ) → j < length starts → start_of bs (0 + j) ≡ get_or starts j 0
      = λ j l. let z : 0 + j ≡ j = omega arith in ap (start_of bs) z ∙ start_at j (omega arith) in
      gives_all (start_of bs) starts t.D 0 each (ap (start_of bs) (n ∙ sym (k_read bs t ends)) ∙ start_end bs ∙ d_read bs t ends)

-- two neighbours less than 12 bytes apart are found
pub tight_found : (start : ℕ → ℕ) (front behind : List ℕ) (s e k i : ℕ) → Gives start i (front ++ s ∷ e ∷ behind) → e < s + 12 → length front < k
    → too_short start k i ≡ true
unfolding too_short
tight_found start front behind s e zero i g h l = absurd (omega arith)
tight_found start [] behind s e (suc k) i g h l =
    let a = g.0 in
    let b = g.1.0 in
    rw (lt-ltb (start (i + 1)) (start i + 12) (omega arith))
tight_found start (x ∷ front) behind s e (suc k) i g h l =
    rw (tight_found start front behind s e k (i + 1) g.1 h (omega arith)) (or-true (ltb (start (i + 1)) (start i + 12)))

-- Records that lie one behind the other from a on, the first being record i
abbrev pub Lie : (ℕ → ℕ) → ℕ → ℕ → List (List ℕ) → Type 0
Lie start i a [] = start i ≡ a
Lie start i a (r ∷ rs) = (start i ≡ a) × Lie start (i + 1) (a + length r) rs

-- as many starts as records
pub starts_count : (a : ℕ) (rs : List (List ℕ)) → length (starts_from a rs) ≡ length rs
starts_count a [] = refl
starts_count a (r ∷ rs) = ap suc (starts_count (a + length r) rs)

-- the first of them starts at a
pub lie_start : (start : ℕ → ℕ) (i a : ℕ) (rs : List (List ℕ)) → Lie start i a rs → start i ≡ a
lie_start start i a [] l = l
lie_start start i a (r ∷ rs) l = l.0

-- records lie so where the starts are theirs and D is their end
pub gives_lie : (start : ℕ → ℕ) (rs : List (List ℕ)) (e i a : ℕ) → Gives start i (starts_from a rs ++ e ∷ []) → a + length (flatten rs) ≡ e → Lie start i a rs
unfolding flatten
gives_lie start [] e i a g h = let z = g.0 in omega arith
gives_lie start (r ∷ rs) e i a g h =
    let n = length-append r (flatten rs) in
    (g.0, gives_lie start rs e (i + 1) (a + length r) g.1 (omega arith))

-- and where each has 12 bytes none is found too short
pub none_short : (start : ℕ → ℕ) (rs : List (List ℕ)) (i a : ℕ) → Lie start i a rs → Each (λ (r : List ℕ). 12 ≤ length r) rs
    → too_short start (length rs) i ≡ false
unfolding too_short
none_short start [] i a l w = refl
none_short start (r ∷ rs) i a l w =
    let p = l.0 in
    let q = lie_start start (i + 1) (a + length r) rs l.1 in
    let h = w.0 in
    rw (le-ltb (start (i + 1)) (start i + 12) (omega arith)) (none_short start rs (i + 1) (a + length r) l.1 w.1)

-- the record that is read there
pub record_read : (bs front r rest : List ℕ) (start : ℕ → ℕ) (i : ℕ) → bs ≡ front ++ (r ++ rest) → start i ≡ length front
    → start (i + 1) ≡ length front + length r → record_in bs start i ≡ r
record_read bs front r rest start i is p q =
    let n : length front + length r - length front ≡ length r = omega arith in
    rw (p, q, is, drop_at front (r ++ rest) (length front) refl, n) (take_at r rest (length r) refl)

-- Starts from s on that leave each record 12 bytes, the last one ending at D
abbrev Spaced : ℕ → List ℕ → ℕ → Type 0
Spaced s [] D = s + 12 ≤ D
Spaced s (t ∷ ts) D = (s + 12 ≤ t) × Spaced t ts D

-- or two neighbours that do not
pub record Tight (starts : List ℕ) (D : ℕ) : Type 0 where
  pub front : List ℕ
  pub behind : List ℕ
  pub s : ℕ
  pub e : ℕ
  pub is : starts ++ D ∷ [] ≡ front ++ s ∷ e ∷ behind
  pub short : e < s + 12

further : (s : ℕ) (ts : List ℕ) (D : ℕ) → Tight ts D → Tight (s ∷ ts) D
further s ts D t =
    record { front = s ∷ t.front; behind = t.behind; s = t.s; e = t.e; is = ap (λ (l : List ℕ). s ∷ l) t.is; short = t.short }

-- one or the other
pub spaced_or : (ts : List ℕ) (s D : ℕ) → Spaced s ts D ⊎ Tight (s ∷ ts) D
spaced_or [] s D =
    elim (dec_le (s + 12) D) [
      | yes l ↦ inl l
      | no g ↦ inr (record { front = []; behind = []; s = s; e = D; is = refl; short = omega arith })
    ]
spaced_or (t ∷ ts) s D =
    elim (dec_le (s + 12) t) [
      | no g ↦ inr (record { front = []; behind = ts ++ D ∷ []; s = s; e = t; is = refl; short = omega arith })
      | yes l ↦
          elim (spaced_or ts t D) [
            | inl w ↦ inl (l, w)
            | inr w ↦ inr (further s (t ∷ ts) D w)
          ]
    ]

spaced_below : (ts : List ℕ) (s D : ℕ) → Spaced s ts D → s + 12 ≤ D
spaced_below [] s D w = w
spaced_below (t ∷ ts) s D w = let r = spaced_below ts t D w.1 in omega arith

-- starts that are spaced part the bytes into records
pub record Parted (s : ℕ) (starts xs : List ℕ) : Type 0 where
  pub records : List (List ℕ)
  pub is : xs ≡ flatten records
  pub from : s ∷ starts ≡ starts_from s records
  pub long : Each (λ (r : List ℕ). 12 ≤ length r) records

-- each record goes from its start to the next
pub parted : (ts : List ℕ) (s D : ℕ) (xs : List ℕ) → Spaced s ts D → s + length xs ≡ D → Parted s ts xs
unfolding flatten
parted [] s D xs w e = record { records = xs ∷ []; is = sym (append-nil xs); from = refl; long = (omega arith, tt) }
parted (t ∷ ts) s D xs w e =
    let b = spaced_below ts t D w.1 in
    let n : length (take (t - s) xs) ≡ t - s = length-take-le (t - s) xs (omega arith) in
    let d = length-drop (t - s) xs in
    let p = parted ts t D (drop (t - s) xs) w.1 (omega arith) in
    let on : t ≡ s + length (take (t - s) xs) = omega arith in
    record {
      records = take (t - s) xs ∷ p.records;
      is = sym (take-append-drop (t - s) xs) ∙ ap (λ (l : List ℕ). take (t - s) xs ++ l) p.is;
      from = ap (λ (l : List ℕ). s ∷ l) (p.from ∙ ap (λ (a : ℕ). starts_from a p.records) on);
      long = (omega arith, p.long);
    }
