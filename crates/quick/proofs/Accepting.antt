-- Bytes that are codes, by what a glance at them counts: the exact reading finds no fault in them, and their last slot is told by the sums. It is shown once, of
-- codes of one to three bytes; shorter ones are a case of it.
use Prim.Native.Nat.{ℕ, zero, suc, ◌+◌, ◌-◌, ◌*◌, ◌%◌, ◌≤◌, ◌<◌}
use mathlib.Core.Path.{◌≡◌, refl, ◌∙◌}
use mathlib.Core.List.{List, [], ◌∷◌}
use native.Mathlib.Decide.{dec_lt}
use native.Mathlib.Omega.{arith}
use lib.ListN.{length}
use borrow.Author.Tests.{lt-ltb, le-ltb}
use Rattle.paper.specs.Lists.{last_of}
use Rattle.paper.specs.Bytes.{byte_at}
use Rattle.paper.specs.Code.{code_of}
use Rattle.paper.specs.Code.Code.{code}
use Rattle.paper.specs.Block.{Block, read_codes}
use Rattle.laws.proofs.Parts.{AllBytes, all_tail, all_drop}
use Rattle.laws.proofs.Codes.{off_one, off_on, off_two, off_two_on, off_three}
use Rattle.laws.proofs.Blocks.{codes_end, codes_next}
use Rattle.quick.specs.Sums.{digits, led_to, seconds, leads, third_of, thirds, Pairs, Threes, Told, Flat, Told3}
use Rattle.quick.specs.Sums.Pairs.{none as pair_end, fresh as pair-fresh, second as pair-second}
use Rattle.quick.specs.Sums.Threes.{none, fresh, second, third}

-- no more bytes lead on than there are
pub leads_few : (bs : List ℕ) → AllBytes bs → leads bs ≤ length bs
unfolding leads
leads_few [] all = omega arith
leads_few (b ∷ r) all = omega (arith, all 0, leads_few r (all_tail b r all))

pub led_none : (p b : ℕ) → p < 128 → led_to p b ≡ 0
unfolding led_to
led_none p b l = simp (lt-ltb _ _ l)

pub led_some : (p b : ℕ) → 128 ≤ p → led_to p b ≡ b % 128
unfolding led_to
led_some p b l = simp (le-ltb _ _ l)

-- a block without a fault, whose last slot is x
pub record Good (prev x : ℕ) (b : Block) : Type 0 where
  pub fault : b.fault ≡ 0
  pub last : last_of prev b.slots ≡ x

-- one code more
pub good_step : (u k prev v x : ℕ) (bs r : List ℕ) → code_of bs ≡ code v r → prev + v + 1 ≤ u → Good (prev + v + 1) x (read_codes u k (prev + v + 1) r) → Good prev x (read_codes u (suc k) prev bs)
good_step u k prev v x bs r is l g = rw (codes_next u prev k bs v r is l) (record { fault = g.fault; last = g.last })

-- a digit that is led to twice
pub third_none : (q p b : ℕ) → q < 128 → third_of q p b ≡ 0
unfolding third_of
third_none q p b l = simp (lt-ltb _ _ l)

pub third_some : (q p b : ℕ) → 128 ≤ q → third_of q p b ≡ led_to p b
unfolding third_of
third_some q p b l = simp (le-ltb _ _ l)

pub third_off : (q p b : ℕ) → p < 128 → third_of q p b ≡ 0
third_off q p b l = elim (dec_lt q 128) [ yes h ↦ third_none q p b h | no n ↦ third_some q p b (omega arith) ∙ led_none p b l ]

-- what the counts say of k codes behind the slot prev, q and p standing before them
record Counts (u q p k prev x : ℕ) (bs : List ℕ) : Type 0 where
  before : p < 128
  threes : Threes q p bs
  all : length bs ≡ leads bs + k
  sum : x ≡ prev + k + digits bs + 127 * seconds p bs + 16256 * thirds q p bs
  low : x ≤ u

behind : {q p b : ℕ} {r : List ℕ} → Threes q p (b ∷ r) → Threes p b r
behind (fresh l g) = g
behind (second l m g) = g
behind (third l m g) = g

ends : {q p : ℕ} → Threes q p [] → p < 128
ends (none l) = l

-- the last byte does not lead on
leads_fewer : {q p : ℕ} (b : ℕ) (r : List ℕ) → AllBytes (b ∷ r) → Threes q p (b ∷ r) → leads (b ∷ r) < length (b ∷ r)
unfolding leads
leads_fewer b [] all g = omega (arith, ends (behind g))
leads_fewer b (c ∷ r) all g = omega (arith, all 0, leads_fewer c r (all_tail b (c ∷ r) all) (behind g))

-- a byte that is led to is not 0
some : {q p b : ℕ} {r : List ℕ} → 128 ≤ p → Threes q p (b ∷ r) → 0 < b
some l (fresh m g) = absurd (omega arith)
some l (second m n g) = n
some l (third n m g) = n

-- one that is led to twice ends its code
low_third : {q p b : ℕ} {r : List ℕ} → 128 ≤ q → 128 ≤ p → Threes q p (b ∷ r) → b < 128
low_third k l (fresh m g) = absurd (omega arith)
low_third k l (second m n g) = absurd (omega arith)
low_third k l (third n m g) = m

-- a code of one byte
module _ (u q p k prev x a : ℕ) (r : List ℕ) (c : Counts u q p (suc k) prev x (a ∷ r)) (l : a < 128) where
  one : Counts u p a k (prev + a + 1) x r
  unfolding digits seconds leads thirds
  one =
      let z = led_none p a c.before in
      let y = third_off q p a c.before in
      record { before = l; threes = behind c.threes; all = omega (arith, c.all); sum = omega (arith, c.sum, z, y); low = c.low }

  one_low : prev + a + 1 ≤ u
  unfolding digits
  one_low = omega (arith, c.sum, c.low)

-- a code of two bytes
module _ (u q p k prev x a b : ℕ) (r : List ℕ) (c : Counts u q p (suc k) prev x (a ∷ b ∷ r)) (l : 128 ≤ a) (m : a < 256) (h : b < 128) where
  abbrev two_of : ℕ
  two_of = a % 128 + 128 * b

  two : Counts u a b k (prev + two_of + 1) x r
  unfolding digits seconds leads thirds
  two =
      let z₁ = led_none p a c.before in
      let z₂ = third_off q p a c.before in
      let z₃ = third_none p a b c.before in
      let y = led_some a b l in
      record { before = h; threes = behind (behind c.threes); all = omega (arith, c.all); sum = omega (arith, c.sum, z₁, z₂, z₃, y); low = c.low }

  two_low : prev + two_of + 1 ≤ u
  unfolding digits seconds
  two_low = let y = led_some a b l in omega (arith, c.sum, c.low, y)

  two_code : code_of (a ∷ b ∷ r) ≡ code two_of r
  two_code = let n = some l (behind c.threes) in off_on _ a l ∙ off_two r _ b h (λ z. absurd (omega arith))

-- a code of three bytes
module _ (u q p k prev x a b d : ℕ) (r : List ℕ) (c : Counts u q p (suc k) prev x (a ∷ b ∷ d ∷ r)) (l : 128 ≤ a) (m : a < 256) (h : 128 ≤ b) (i : b < 256) where
  abbrev three_of : ℕ
  three_of = a % 128 + 128 * (b % 128) + 16384 * d

  ends_so : d < 128
  ends_so = low_third l h (behind (behind c.threes))

  three : Counts u b d k (prev + three_of + 1) x r
  unfolding digits seconds leads thirds
  three =
      let z₁ = led_none p a c.before in
      let z₂ = third_off q p a c.before in
      let z₃ = third_none p a b c.before in
      let y₁ = led_some a b l in
      let y₂ = led_some b d h in
      let y₃ = third_some a b d l in
      let e = ends_so in
      record { before = e; threes = behind (behind (behind c.threes)); all = omega (arith, c.all); sum = omega (arith, c.sum, z₁, z₂, z₃, y₁, y₂, y₃); low = c.low }

  three_low : prev + three_of + 1 ≤ u
  unfolding digits seconds thirds
  three_low =
      let y₁ = led_some a b l in
      let y₂ = led_some b d h in
      let y₃ = third_some a b d l in
      let e = ends_so in
      omega (arith, c.sum, c.low, y₁, y₂, y₃)

  three_code : code_of (a ∷ b ∷ d ∷ r) ≡ code three_of r
  three_code = let n = some h (behind (behind c.threes)) in off_on _ a l ∙ off_two_on _ _ b h ∙ off_three r _ d ends_so (λ z. absurd (omega arith))

-- what is left behind a code is read without a fault
abbrev Rest : ℕ → ℕ → ℕ → ℕ → ℕ → List ℕ → Type 0
Rest u q p k x r = (y : ℕ) → Counts u q p k y x r → Good y x (read_codes u k y r)

-- a code of one byte, and then the rest
short : (u q p k prev x a b : ℕ) (r : List ℕ) → AllBytes (a ∷ b ∷ r) → Counts u q p (suc k) prev x (a ∷ b ∷ r) → a < 128 → Rest u p a k x (b ∷ r)
    → Good prev x (read_codes u (suc k) prev (a ∷ b ∷ r))
short u q p k prev x a b r all c l on = good_step u k prev a x _ _ (off_one (b ∷ r) a l) (one_low u q p k prev x a (b ∷ r) c l) (on (prev + a + 1) (one u q p k prev x a (b ∷ r) c l))

-- a code of two bytes, and then the rest
middle : (u q p k prev x a b : ℕ) (r : List ℕ) → AllBytes (a ∷ b ∷ r) → Counts u q p (suc k) prev x (a ∷ b ∷ r) → 128 ≤ a → b < 128 → Rest u a b k x r
    → Good prev x (read_codes u (suc k) prev (a ∷ b ∷ r))
middle u q p k prev x a b r all c l h on =
    good_step u k prev _ x _ _ (two_code u q p k prev x a b r c l (all 0) h) (two_low u q p k prev x a b r c l (all 0) h) (on _ (two u q p k prev x a b r c l (all 0) h))

-- all of them
accepted : (u : ℕ) (bs : List ℕ) → AllBytes bs → (q p k prev x : ℕ) → Counts u q p k prev x bs → Good prev x (read_codes u k prev bs)
unfolding digits seconds leads thirds
accepted u [] all q p (suc k) prev x c = absurd (omega (arith, c.all))
accepted u [] all q p zero prev x c = rw (codes_end u prev) (record { fault = refl; last = omega (arith, c.sum) })
accepted u (a ∷ r) all q p zero prev x c = absurd (omega (arith, c.all, leads_fewer a r all c.threes))
accepted u (a ∷ []) all q p (suc k) prev x c =
    let l = ends (behind c.threes) in
    good_step u k prev a x _ _ (off_one [] a l) (one_low u q p k prev x a [] c l) (accepted u [] (all_tail a [] all) p a k (prev + a + 1) x (one u q p k prev x a [] c l))
accepted u (a ∷ b ∷ []) all q p (suc k) prev x c =
    go (dec_lt a 128) (λ y d. accepted u (b ∷ []) (all_tail a (b ∷ []) all) p a k y x d) (λ y d. accepted u [] (all_drop 2 (a ∷ b ∷ []) all) a b k y x d)
  where
    go : Dec (a < 128) → Rest u p a k x (b ∷ []) → Rest u a b k x [] → Good prev x (read_codes u (suc k) prev (a ∷ b ∷ []))
    go (yes l) on₁ on₂ = short u q p k prev x a b [] all c l on₁
    go (no n) on₁ on₂ = middle u q p k prev x a b [] all c (omega arith) (ends (behind (behind c.threes))) on₂
accepted u (a ∷ b ∷ d ∷ r) all q p (suc k) prev x c =
    go (dec_lt a 128) (dec_lt b 128) (λ y e. accepted u (b ∷ d ∷ r) (all_tail a (b ∷ d ∷ r) all) p a k y x e)
    (λ y e. accepted u (d ∷ r) (all_drop 2 (a ∷ b ∷ d ∷ r) all) a b k y x e) (λ y e. accepted u r (all_drop 3 (a ∷ b ∷ d ∷ r) all) b d k y x e)
  where
    go : Dec (a < 128) → Dec (b < 128) → Rest u p a k x (b ∷ d ∷ r) → Rest u a b k x (d ∷ r) → Rest u b d k x r → Good prev x (read_codes u (suc k) prev (a ∷ b ∷ d ∷ r))
    go (yes l) t on₁ on₂ on₃ = short u q p k prev x a b (d ∷ r) all c l on₁
    go (no n) (yes h) on₁ on₂ on₃ = middle u q p k prev x a b (d ∷ r) all c (omega arith) h on₂
    go (no n) (no m) on₁ on₂ on₃ =
        let l : 128 ≤ a = omega arith in
        let h : 128 ≤ b = omega arith in
        good_step u k prev _ x _ _ (three_code u q p k prev x a b d r c l (all 0) h (all 1)) (three_low u q p k prev x a b d r c l (all 0) h (all 1))
        (on₃ _ (three u q p k prev x a b d r c l (all 0) h (all 1)))

-- codes of one and two bytes are such codes, whatever stands before them
pairs_threes : {q p : ℕ} {bs : List ℕ} → Pairs p bs → Threes q p bs
pairs_threes (pair_end l) = none l
pairs_threes (pair-fresh l g) = fresh l (pairs_threes g)
pairs_threes (pair-second l m g) = third l m (pairs_threes g)

-- and no byte of them is led to twice, unless those before them lead on to it
pairs_thirds : (q p : ℕ) (bs : List ℕ) → Pairs p bs → third_of q p (byte_at bs 0) ≡ 0 → thirds q p bs ≡ 0
unfolding thirds
pairs_thirds q p [] g z = refl
pairs_thirds q p (b ∷ r) (pair-fresh l g) z = omega (arith, z, pairs_thirds p b r g (third_none p b (byte_at r 0) l))
pairs_thirds q p (b ∷ r) (pair-second l m g) z = omega (arith, z, pairs_thirds p b r g (third_off p b (byte_at r 0) m))

-- where no byte leads on, each is a code of its own, and none is led to
flat_pairs : (bs : List ℕ) → AllBytes bs → (p : ℕ) → p < 128 → leads bs ≡ 0 → Pairs p bs
unfolding leads
flat_pairs [] all p l z = pair_end l
flat_pairs (b ∷ r) all p l z = pair-fresh l (flat_pairs r (all_tail b r all) b (omega arith) (omega arith))

flat_seconds : (bs : List ℕ) (p : ℕ) → p < 128 → leads bs ≡ 0 → seconds p bs ≡ 0
unfolding leads seconds
flat_seconds [] p l z = refl
flat_seconds (b ∷ r) p l z = omega (arith, led_none p b l, flat_seconds r b (omega arith) (omega arith))

-- what a glance tells of k codes behind the slot first: they are read without a fault, and x is the last slot
module _ (u k first x : ℕ) (s : List ℕ) (all : AllBytes s) (low wrong : ℕ) where
  pub threes_good : (led on far : ℕ) → Told3 s wrong low led on far → wrong ≡ 0 → byte_at s (length s - 1) < 128 → on + k ≡ length s
      → x ≡ first + k + low + 127 * led + 16256 * far → x ≤ u → Good first x (read_codes u k first s)
  threes_good led on far t z l n e le =
      accepted u s all 0 0 k first x
      (record { before = omega arith; threes = t.fine z l; all = omega (arith, t.ons); sum = omega (arith, t.lows, t.leds, t.fars); low = le })

  pub pairs_good : (led on : ℕ) → Told s wrong low led on → wrong ≡ 0 → byte_at s (length s - 1) < 128 → on + k ≡ length s → x ≡ first + k + low + 127 * led → x ≤ u
      → Good first x (read_codes u k first s)
  pairs_good led on t z l n e le =
      let g = t.fine z l in
      let none-far = pairs_thirds 0 0 s g (third_none 0 0 (byte_at s 0) (omega arith)) in
      accepted u s all 0 0 k first x
      (record { before = omega arith; threes = pairs_threes g; all = omega (arith, t.ons); sum = omega (arith, t.lows, t.leds, none-far); low = le })

  pub flat_good : Flat s wrong low → wrong ≡ 0 → length s ≡ k → x ≡ first + k + low → x ≤ u → Good first x (read_codes u k first s)
  flat_good t z n e le =
      let f = t.fine z in
      let g = flat_pairs s all 0 (omega arith) f in
      let none-far = pairs_thirds 0 0 s g (third_none 0 0 (byte_at s 0) (omega arith)) in
      accepted u s all 0 0 k first x
      (record { before = omega arith; threes = pairs_threes g; all = omega arith; sum = omega (arith, t.lows, flat_seconds s 0 (omega arith) f, none-far); low = le })
