-- The slots of the bits that are set, put one behind the other: bit by bit, and by eight bytes that are one number.
use Prim.Native.Nat.{ℕ, zero, suc, ◌+◌, ◌*◌, ◌-◌, ◌/◌, ◌%◌, ◌^◌, ◌≤◌, ◌<◌}
use mathlib.Core.Path.{◌≡◌, refl, sym, ap, ◌∙◌}
use mathlib.Core.Bool.{Bool, true, false}
use mathlib.Core.List.{List, [], ◌∷◌, ◌++◌, append_assoc}
use native.Mathlib.Nat.{add-zero, zero-div, div-eq_of_lt}
use native.Mathlib.Decide.{dec_lt}
use native.Mathlib.Omega.{arith}
use lib.Dec.{eqb}
use lib.Count.{count_leading_zeros, leading_top}
use lib.Pow.{shr-shr, pow-add, pow_mono, mod-mod-pow, field, low, high, shl-shr}
use lib.ListN.{length, get_or, set, take, length-set, length-take, length-append}
use Rattle.std.specs.Int.{w64, to_be_bytes, from_be_bytes}
use Rattle.std.proofs.lemmas.Nat.{be_bytes_8}
use lib.Seq.{take-set-le}
use Rattle.paper.specs.Bytes.{byte_at}
use Rattle.paper.specs.Lists.{keep, up_from, bit_of}
use Rattle.paper.specs.Record.{bit_at, slots_to_cut}
use Rattle.laws.proofs.Lists.{up_pass, up_fail, up_join, keep_join}
use Rattle.record.specs.Front.{Front}
use Rattle.gather.specs.Shown.{Shown}
use Rattle.gather.proofs.Filling.{Filling, filled, put}

-- The slots from x up to the cut whose bits are set
abbrev pub bits_from : List ℕ → ℕ → ℕ → List ℕ
bits_from bits cut x = keep (bit_at bits) (up_from x (cut + 1 - x))

-- what holds at the head of the loop over the bits
pub record Bits (bits : List ℕ) (cut : ℕ) (t : List ℕ) (size : ℕ) (s : List ℕ) (x w : ℕ) : Type 0 where
  pub some : 0 < x
  pub fill : Filling t size s w (length (bits_from bits cut x)) (bits_from bits cut x)

-- at the start all of them are to come
pub bits_begin : (bits : List ℕ) (cut : ℕ) (s : List ℕ) → length (slots_to_cut cut bits) ≤ length s
    → Bits bits cut (slots_to_cut cut bits) (length s) s 1 0
unfolding slots_to_cut
bits_begin bits cut s l =
    let e : cut + 1 - 1 ≡ cut = omega arith in
    record { some = omega arith; fill = rw e (record { long = refl; room = omega arith; same = refl }) }

module _ (bits : List ℕ) (cut : ℕ) (t : List ℕ) (size : ℕ) (s : List ℕ) (x w : ℕ) (h : Bits bits cut t size s x w) where
  -- behind the cut nothing is to come
  pub bits_end : cut < x → Front t w s
  unfolding up_from keep
  bits_end l = let e : cut + 1 - x ≡ 0 = omega arith in filled h.fill (rw e)

  module _ (l : x ≤ cut) (b : Bool) (is : b ≡ bit_at bits x) where
    next : cut + 1 - x ≡ suc (cut + 1 - (x + 1))
    next = omega arith

    -- a set bit: x is the next of them
    set_one : b ≡ true → bits_from bits cut x ≡ x ∷ bits_from bits cut (x + 1)
    set_one e = rw next (up_pass (bit_at bits) x _ (sym is ∙ e))

    set_none : b ≡ false → bits_from bits cut x ≡ bits_from bits cut (x + 1)
    set_none e = rw next (up_fail (bit_at bits) x _ (sym is ∙ e))

    -- there is room for it
    pub bit_room : b ≡ true → w < length s
    bit_room e = omega (arith, h.fill.room, h.fill.long, ap length (set_one e))

    -- it is put to the others
    pub bit_set : b ≡ true → Bits bits cut t size (set s w x) (x + 1) (w + 1)
    bit_set e =
        let f = ap length (set_one e) in
        let z : length (bits_from bits cut x) - 1 ≡ length (bits_from bits cut (x + 1)) = omega arith in
        record { some = omega arith; fill = rw z at (put h.fill x _ (set_one e) (omega arith)) }

    -- a bit that is not set is passed over
    pub bit_clear : b ≡ false → Bits bits cut t size s (x + 1) w
    bit_clear e = record { some = omega arith; fill = rw (set_none e) at h.fill }

    -- x is stored, and stays where its bit is set
    pub bit_stored : (m : ℕ) → m ≡ bit_of b → w < length s → Bits bits cut t size (set s w x) (x + 1) (w + m)
    bit_stored m e k = go b refl
      where
        go : (d : Bool) → b ≡ d → Bits bits cut t size (set s w x) (x + 1) (w + m)
        go true i =
            let f = ap length (set_one i) in
            let z : length (bits_from bits cut x) - 1 ≡ length (bits_from bits cut (x + 1)) = omega arith in
            let j : m ≡ 1 = rw i at e in
            rw j (record { some = omega arith; fill = rw z at (put h.fill x _ (set_one i) (omega arith)) })
        go false i =
            let j : m ≡ 0 = rw i at e in
            let g : Filling t size s w (length (bits_from bits cut (x + 1))) (bits_from bits cut (x + 1)) = rw (set_none i) at h.fill in
            rw (j, add-zero w)
            (record {
              some = omega arith;
              fill = record { long = length-set s w x ∙ g.long; room = g.room; same = rw (take-set-le w s w x (omega arith)) g.same };
            })

  -- the slice is full: no bit is left that is set
  pub bits_full : size ≤ w → Front t w s
  bits_full l = filled h.fill (empty _ (omega (arith, h.fill.long, h.fill.room)))
    where
      empty : (xs : List ℕ) → length xs ≤ 0 → xs ≡ []
      empty [] m = refl
      empty (y ∷ ys) m = absurd (omega arith)

-- the slots of m bits up to the slot `end` that are set
abbrev pub last_bits : List ℕ → ℕ → ℕ → List ℕ
last_bits bits end m = keep (bit_at bits) (up_from (end + 1 - m) m)

-- the first 64 of the slots from x on, and then the others
first_word : (bits : List ℕ) (cut x : ℕ) → x + 63 ≤ cut → bits_from bits cut x ≡ keep (bit_at bits) (up_from x 64) ++ bits_from bits cut (x + 64)
first_word bits cut x l =
    let i : cut + 1 - x ≡ 64 + (cut + 1 - (x + 64)) = omega arith in
    ap (λ (m : ℕ). keep (bit_at bits) (up_from x m)) i ∙ ap (keep (bit_at bits)) (up_join x 64 (cut + 1 - (x + 64))) ∙ keep_join (bit_at bits) (up_from x 64) _

-- word n of the bits, whose first slot is x
module _ (bits : List ℕ) (cut : ℕ) (t : List ℕ) (size : ℕ) (s : List ℕ) (n w : ℕ) (h : Bits bits cut t size s (8 * (8 * n) + 1) w) where
  abbrev x : ℕ
  x = 8 * (8 * n) + 1

  -- no word is left
  pub words_end : cut / 64 ≤ n → n ≤ cut / 64 → Bits bits cut t size s (64 * (cut / 64) + 1) w
  words_end a b = let e : 8 * (8 * n) + 1 ≡ 64 * (cut / 64) + 1 = omega arith in rw e at h

  module _ (l : n < cut / 64) where
    -- there is room for its slots
    pub words_room : w + length (keep (bit_at bits) (up_from x 64)) ≤ length s
    words_room = omega (arith, h.fill.room, h.fill.long, ap length (first_word bits cut x (omega arith)) ∙ length-append (keep (bit_at bits) (up_from x 64)) (bits_from bits cut (x + 64)))

    -- and they are put by r places into s'
    pub words_turn : (r : ℕ) (s' : List ℕ) → length s' ≡ length s → Front (take w s ++ keep (bit_at bits) (up_from x 64)) r s' → Bits bits cut t size s' (8 * (8 * (n + 1)) + 1) r
    words_turn r s' e f =
        let k = keep (bit_at bits) (up_from x 64) in
        let j = first_word bits cut x (omega arith) in
        let i : 8 * (8 * (n + 1)) + 1 ≡ x + 64 = omega arith in
        let a = ap length j ∙ length-append k (bits_from bits cut (x + 64)) in
        let b = length-take r s' in
        let c = ap length f.are ∙ length-append (take w s) k in
        let d = length-take w s in
        rw i
        (record {
          some = omega arith;
          fill = record {
            long = e ∙ h.fill.long;
            room = omega (arith, f.few, h.fill.room, h.fill.long, a, b, c, d);
            same = ap (λ (xs : List ℕ). xs ++ bits_from bits cut (x + 64)) f.are ∙ append_assoc (take w s) k (bits_from bits cut (x + 64)) ∙ rw j at h.fill.same;
          };
        })

-- the digit j is set and none above it: its slot is the next one
next_is : (bits : List ℕ) (end j m : ℕ) → j < m → m ≤ end → ((e : ℕ) → j < e → e < m → bit_at bits (end - e) ≡ false) → bit_at bits (end - j) ≡ true
    → last_bits bits end m ≡ (end - j) ∷ last_bits bits end j
next_is bits end j zero l h none is = absurd (omega arith)
next_is bits end j (suc m) l h none is =
    let a : end + 1 - suc m ≡ end - m = omega arith in
    let b : end - m + 1 ≡ end + 1 - m = omega arith in
    elim (dec_lt j m) [
      | yes q ↦ ap (λ (x : ℕ). keep (bit_at bits) (up_from x (suc m))) a ∙ up_fail (bit_at bits) (end - m) m (none m q (omega arith)) ∙ ap (λ (x : ℕ). keep (bit_at bits) (up_from x m)) b ∙ next_is bits end j m q (omega arith) (λ e x y. none e x (omega arith)) is
      | no q ↦ let i : m ≡ j = omega arith in ap (λ (x : ℕ). keep (bit_at bits) (up_from x (suc m))) a ∙ up_pass (bit_at bits) (end - m) m (rw i is) ∙ ap (λ (x : ℕ). (end - m) ∷ keep (bit_at bits) (up_from x m)) b ∙ ap (λ (k : ℕ). (end - k) ∷ last_bits bits end k) i
    ]

-- no digit is set: there is no slot
none_is : (bits : List ℕ) (end m : ℕ) → m ≤ end → ((e : ℕ) → e < m → bit_at bits (end - e) ≡ false) → last_bits bits end m ≡ []
unfolding up_from keep
none_is bits end zero h none = refl
none_is bits end (suc m) h none =
    let a : end + 1 - suc m ≡ end - m = omega arith in
    let b : end - m + 1 ≡ end + 1 - m = omega arith in
    ap (λ (x : ℕ). keep (bit_at bits) (up_from x (suc m))) a ∙ up_fail (bit_at bits) (end - m) m (none m (omega arith)) ∙ ap (λ (x : ℕ). keep (bit_at bits) (up_from x m)) b
    ∙ none_is bits end m (omega arith) (λ e l. none e (omega arith))

-- a digit below the digit j does not change where those from j on are taken away
same_digit : (v j e : ℕ) → e < j → v / 2 ^ e % 2 ≡ v % 2 ^ j / 2 ^ e % 2
same_digit v j e l =
    let i : j - (1 + e) + (1 + e) ≡ j = omega arith in
    let m : v % 2 ^ j % 2 ^ (1 + e) ≡ v % 2 ^ (1 + e) = rw i at (mod-mod-pow v (j - (1 + e)) (1 + e)) in
    sym (field v 1 e) ∙ ap (λ (n : ℕ). n / 2 ^ e) (sym m) ∙ field (v % 2 ^ j) 1 e

-- eight bytes as one number, the first the highest: its digits are their bits
module _ (bits : List ℕ) (all : (i : ℕ) → byte_at bits i < 256) (at w : ℕ) where
  abbrev eight : List ℕ
  eight = byte_at bits at ∷ byte_at bits (at + 1) ∷ byte_at bits (at + 2) ∷ byte_at bits (at + 3) ∷ byte_at bits (at + 4) ∷ byte_at bits (at + 5) ∷ byte_at bits (at + 6) ∷ byte_at bits (at + 7) ∷ []

  module _ (is : w ≡ from_be_bytes w64 eight) where
    small : (i : ℕ) → get_or eight i 0 < 256
    small zero = all at
    small (suc zero) = all (at + 1)
    small (suc (suc zero)) = all (at + 2)
    small (suc (suc (suc zero))) = all (at + 3)
    small (suc (suc (suc (suc zero)))) = all (at + 4)
    small (suc (suc (suc (suc (suc zero))))) = all (at + 5)
    small (suc (suc (suc (suc (suc (suc zero)))))) = all (at + 6)
    small (suc (suc (suc (suc (suc (suc (suc zero))))))) = all (at + 7)
    small (suc (suc (suc (suc (suc (suc (suc (suc i)))))))) = omega arith

    low_end : w < 18446744073709551616
    low_end = omega (arith, is, small 0, small 1, small 2, small 3, small 4, small 5, small 6, small 7)

    bytes : to_be_bytes w64 w ≡ eight
    bytes = be_bytes_8 eight w refl small is

    -- each byte, by its number from the last
    which : (q : ℕ) → q < 8 → w / 2 ^ (8 * q) % 256 ≡ byte_at bits (at + (7 - q))
    which zero l = let z : w / 1 ≡ w = omega arith in ap (λ (n : ℕ). n % 256) z ∙ ap (λ (l : List ℕ). get_or l 7 0) bytes
    which (suc zero) l = ap (λ (l : List ℕ). get_or l 6 0) bytes
    which (suc (suc zero)) l = ap (λ (l : List ℕ). get_or l 5 0) bytes
    which (suc (suc (suc zero))) l = ap (λ (l : List ℕ). get_or l 4 0) bytes
    which (suc (suc (suc (suc zero)))) l = ap (λ (l : List ℕ). get_or l 3 0) bytes
    which (suc (suc (suc (suc (suc zero))))) l = ap (λ (l : List ℕ). get_or l 2 0) bytes
    which (suc (suc (suc (suc (suc (suc zero)))))) l = ap (λ (l : List ℕ). get_or l 1 0) bytes
    which (suc (suc (suc (suc (suc (suc (suc zero))))))) l = let z : at + 0 ≡ at = omega arith in ap (λ (l : List ℕ). get_or l 0 0) bytes ∙ ap (byte_at bits) (sym z)
    which (suc (suc (suc (suc (suc (suc (suc (suc q)))))))) l = absurd (omega arith)

    -- each digit
    digit_is : (e : ℕ) → e < 64 → w / 2 ^ e % 2 ≡ byte_at bits (at + (7 - e / 8)) / 2 ^ (e % 8) % 2
    digit_is e l =
        let i : 8 * (e / 8) + e % 8 ≡ e = omega arith in
        let a = shr-shr w (8 * (e / 8)) (e % 8) in
        let d = same_digit (w / 2 ^ (8 * (e / 8))) 8 (e % 8) (omega arith) in
        ap (λ (n : ℕ). w / 2 ^ n % 2) (sym i) ∙ ap (λ (n : ℕ). n % 2) (sym a) ∙ d ∙ ap (λ (n : ℕ). n / 2 ^ (e % 8) % 2) (which (e / 8) (omega arith))

    -- all 64 of them
    pub word_shown : Shown bits (8 * at + 64) 64 w
    unfolding bit_at
    word_shown =
        record {
          in_reach = omega arith;
          small = low_end;
          is = λ e l.
              let i : (8 * at + 64 - e - 1) / 8 ≡ at + (7 - e / 8) = omega arith in
              let j : 7 - (8 * at + 64 - e - 1) % 8 ≡ e % 8 = omega arith in
              rw (i, j) (ap (λ (n : ℕ). eqb n 1) (sym (digit_is e l)));
        }

-- the number v whose highest set digit is j, without that digit
module _ (v j : ℕ) (g : 2 ^ j ≤ v) (l : v < 2 ^ suc j) where
  twice : 2 ^ suc j ≡ 2 * 2 ^ j
  twice = let e : suc j ≡ 1 + j = omega arith in ap (λ (k : ℕ). 2 ^ k) e ∙ pow-add 2 1 j

  rest_small : v - 2 ^ j < 2 ^ j
  rest_small = omega (arith, twice)

  parted : 1 * 2 ^ j + (v - 2 ^ j) ≡ v
  parted = omega arith

  rest_is : v % 2 ^ j ≡ v - 2 ^ j
  rest_is = rw parted at (low 1 j rest_small)

  top_is : v / 2 ^ j ≡ 1
  top_is = rw parted at (high 1 j rest_small)

  above : (e : ℕ) → j < e → v / 2 ^ e ≡ 0
  above e h = let p : 2 ^ suc j ≤ 2 ^ e = pow_mono {i = suc j} {j = e} (omega arith) in div-eq_of_lt (omega arith)

-- what holds at the head of the loop over a word: m bits are left, and v shows them
pub record Word (bits : List ℕ) (end : ℕ) (t : List ℕ) (size : ℕ) (s : List ℕ) (v w : ℕ) : Type 0 where
  pub m : ℕ
  pub few : m ≤ 64
  pub shown : Shown bits end m v
  pub fill : Filling t size s w (length (last_bits bits end m)) (last_bits bits end m)

-- at the start all 64 are left
pub word_begin : (bits : List ℕ) (at v : ℕ) (s : List ℕ) (w : ℕ) → Shown bits (8 * at + 64) 64 v → w + length (keep (bit_at bits) (up_from (8 * at + 1) 64)) ≤ length s
    → Word bits (8 * at + 64) (take w s ++ keep (bit_at bits) (up_from (8 * at + 1) 64)) (length s) s v w
word_begin bits at v s w h l =
    let e : 8 * at + 64 + 1 - 64 ≡ 8 * at + 1 = omega arith in
    record { m = 64; few = omega arith; shown = h; fill = rw e (record { long = refl; room = l; same = refl }) }

module _ (bits : List ℕ) (end : ℕ) (t : List ℕ) (size : ℕ) (s : List ℕ) (v w : ℕ) (h : Word bits end t size s v w) where
  -- at 0 none is set any more
  pub word_end : v ≤ 0 → Front t w s
  word_end z =
      let i : v ≡ 0 = omega arith in
      let sh = h.shown in
      filled h.fill (none_is bits end h.m sh.in_reach (λ e l. sh.is e l ∙ rw (i, zero-div (2 ^ e))))

  module _ (z : ℕ) (is : z ≡ count_leading_zeros 64 v) (some : 0 < v) where
    -- the highest digit that is set
    record Top : Type 0 where
      j : ℕ
      sum : z + suc j ≡ 64
      from : 2 ^ j ≤ v
      to : v < 2 ^ suc j
      fits : j < h.m

    top : Top
    top =
        let sh = h.shown in
        let big : 2 ^ h.m ≤ 2 ^ 64 = pow_mono {i = h.m} {j = 64} h.few in
        let t = leading_top 64 v some (omega (arith, sh.small)) in
        record { j = t.0; sum = ap (λ (k : ℕ). k + suc t.0) is ∙ t.1; from = t.2; to = t.3; fits = inside t.0 t.2 }
      where
        inside : (j : ℕ) → 2 ^ j ≤ v → j < h.m
        inside j l = elim (dec_lt j h.m) [ yes q ↦ q | no q ↦ let p : 2 ^ h.m ≤ 2 ^ j = pow_mono {i = h.m} {j = j} (omega arith) in absurd (omega (arith, h.shown.small)) ]

    -- the highest of 64 digits, moved down by them, is this one
    high_is : 9223372036854775808 / 2 ^ z ≡ 2 ^ top.j
    high_is =
        let i : top.j + z ≡ 63 = omega (arith, top.sum) in
        let p : 9223372036854775808 ≡ 2 ^ (top.j + z) = rw i refl in
        ap (λ (n : ℕ). n / 2 ^ z) (p ∙ pow-add 2 top.j z) ∙ shl-shr (2 ^ top.j) z

    pub high_fits : 9223372036854775808 / 2 ^ z ≤ v
    high_fits = rw high_is top.from

    -- its slot is the next one
    next_slot : last_bits bits end h.m ≡ (end - top.j) ∷ last_bits bits end top.j
    next_slot =
        let sh = h.shown in
        next_is bits end top.j h.m top.fits sh.in_reach
        (λ e a b. sh.is e b ∙ rw (above v top.j top.from top.to e a))
        (sh.is top.j top.fits ∙ rw (top_is v top.j top.from top.to))

    -- for which there is room
    pub slot_fits : w < length s
    slot_fits = omega (arith, h.fill.room, h.fill.long, ap length next_slot)

    -- the slot is put, and the digit taken away
    pub word_turn : (x : ℕ) → x ≡ end - 63 + z → 64 ≤ end → Word bits end t size (set s w x) (v - 9223372036854775808 / 2 ^ z) (w + 1)
    word_turn x e l =
        let sh = h.shown in
        let j = top.j in
        let i : x ≡ end - j = omega (arith, top.sum) in
        let n = ap length next_slot in
        let k : length (last_bits bits end h.m) - 1 ≡ length (last_bits bits end j) = omega arith in
        let f = put h.fill (end - j) (last_bits bits end j) next_slot (omega arith) in
        rw (i, high_is)
        (record {
          m = j;
          few = omega (arith, top.sum);
          shown = record {
            in_reach = omega (arith, top.sum);
            small = rest_small v j top.from top.to;
            is = λ d q. sh.is d (omega (arith, top.fits)) ∙ ap (λ (b : ℕ). eqb b 1) (same_digit v j d q ∙ ap (λ (r : ℕ). r / 2 ^ d % 2) (rest_is v j top.from top.to));
          };
          fill = rw k at f;
        })
