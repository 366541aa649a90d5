-- Seeking in a block that has as many bytes as codes: each byte is a code.
use Prim.Native.Nat.{ℕ, zero, suc, ◌+◌, ◌-◌, ◌*◌, ◌/◌, ◌≤◌, ◌<◌}
use mathlib.Core.Path.{◌≡◌, refl, sym, ap, ◌∙◌}
use mathlib.Core.List.{List}
use native.Mathlib.Decide.{dec_lt}
use native.Mathlib.Omega.{arith}
use lib.Dec.{ltb}
use lib.ListN.{length, drop, take, get_or}
use Rattle.std.proofs.lemmas.List.{get_or-take, get_or-drop}
use borrow.Author.Tests.{lt-ltb, le-ltb}
use Rattle.paper.specs.Lists.{pick, bit_of}
use Rattle.paper.specs.Bytes.{byte_at}
use Rattle.paper.specs.Block.{read_codes}
use Rattle.paper.specs.Walk.{seek}
use Rattle.quick.specs.Sums.{digits}
use Rattle.quick.proofs.Places.{digits_next}
use Rattle.codes.proofs.Sound as sound
use Rattle.codes.specs.declared.Stopped.{Stopped}
use Rattle.codes.specs.InBlock.{stopped}
use Rattle.seeks.specs.Sought.{Head}
use Rattle.seeks.proofs.Turns.{code_below, seek_turn}

module _ (x u : ℕ) (bs : List ℕ) (count : ℕ) (t : Stopped) (all : length bs ≡ count) where
  module _ (n y : ℕ) (h : Head x u bs count t n n y) (lt : n < count) where
    -- the next byte is below 128
    small : byte_at bs n < 128
    small = sound.alone u (count - n) y bs n h.sound (omega arith) (omega arith)

    module _ (b : ℕ) (is : b ≡ byte_at bs n) where
      -- its slot is not above u
      byte_below : y + b + 1 ≤ u
      byte_below = code_below x u bs count t n n y h lt b (n + 1) (sound.alone_is u (count - n) y bs n h.sound (omega arith) (omega arith) b is)

      -- and is the next one
      step : y < x → Head x u bs count t (n + 1) (n + 1) (y + b + 1)
      step = seek_turn x u bs count t n n y h lt b (n + 1) (sound.alone_is u (count - n) y bs n h.sound (omega arith) (omega arith) b is)

  -- m bytes, all of whose slots are below x
  pub hop : (m n y to : ℕ) → Head x u bs count t n n y → n + m ≤ count → to ≡ y + m + digits (take m (drop n bs)) → to < x → Head x u bs count t (n + m) (n + m) to
  unfolding digits
  hop zero n y to h c e g =
      let i : to ≡ y = omega arith in
      let j : n + 0 ≡ n = omega arith in
      rw (i, j) h
  hop (suc m) n y to h c e g =
      let d = digits_next bs n m (omega arith) in
      let j : n + suc m ≡ n + 1 + m = omega arith in
      let b = small n y h (omega arith) in
      rw j (hop m (n + 1) (y + byte_at bs n + 1) to (step n y h (omega arith) _ refl (omega arith)) (omega arith) (omega arith) g)

-- m bytes do not lead above u
fits : (u : ℕ) (bs : List ℕ) (m n k y : ℕ) → y ≤ u → (read_codes u k y (drop n bs)).fault ≡ 0 → length bs ≡ n + k → m ≤ k → y + m + digits (take m (drop n bs)) ≤ u
unfolding digits
fits u bs zero n k y low f all l = omega arith
fits u bs (suc m) n k y low f all l =
    let b = byte_at bs n in
    let d = digits_next bs n m (omega arith) in
    let a = sound.alone u k y bs n f (omega arith) all in
    let i = sound.alone_is u k y bs n f (omega arith) all b refl in
    let r = fits u bs m (n + 1) (k - 1) (y + b + 1) (sound.below u k y bs n f (omega arith) b (n + 1) i) (sound.rest_sound u k y bs n f (omega arith) b (n + 1) i) (omega arith) (omega arith) in
    omega arith

-- how far it came in i hops of eight: n codes are read, in as many bytes, and y is the slot read last
pub record Ahead (x u : ℕ) (bs : List ℕ) (count : ℕ) (t : Stopped) (i n y : ℕ) : Type 0 where
  pub all : length bs ≡ count
  pub hops : n ≡ 8 * i
  pub head : Head x u bs count t n n y

module _ (x u : ℕ) (bs : List ℕ) (count : ℕ) (t : Stopped) (i n y : ℕ) (h : Ahead x u bs count t i n y) (l : i < length bs / 8) where
  module _ (sum : ℕ) (is : sum ≡ digits (take 8 (drop (8 * i) bs))) where
    there : sum ≡ digits (take 8 (drop n bs))
    there = is ∙ ap (λ (p : ℕ). digits (take 8 (drop p bs))) (sym h.hops)

    -- the next eight do not lead above u
    pub ahead_fits : y + sum + 8 ≤ u
    ahead_fits = let r = fits u bs 8 n (count - n) y h.head.low h.head.sound (omega (arith, h.all, h.hops)) (omega (arith, h.all, h.hops)) in omega (arith, there)

    -- all of them are below x
    pub ahead_turn : y + sum + 8 < x → Ahead x u bs count t (i + 1) (n + 8) (y + sum + 8)
    ahead_turn g =
        record { all = h.all; hops = omega (arith, h.hops); head = hop x u bs count t h.all 8 n y (y + sum + 8) h.head (omega (arith, h.all, h.hops)) (omega (arith, there)) g }

-- up to the slot that is not below x, which is one of the next eight: i of them are tried, and n codes are read in all
pub record Along (x u : ℕ) (bs : List ℕ) (count : ℕ) (t : Stopped) (at i n y : ℕ) : Type 0 where
  pub head : Head x u bs count t n n y
  pub tried : i ≤ 8
  pub far : n ≤ at + i
  pub on : y < x → n ≡ at + i

module _ (x u : ℕ) (bs : List ℕ) (count at y : ℕ) (some : at + 8 ≤ length bs) (all : length bs ≡ count) where
  abbrev Here : Stopped
  Here = stopped at (seek x y (read_codes u (count - at) y (drop at bs)).slots)

  -- none is tried
  pub along_begin : y ≤ u → (read_codes u (count - at) y (drop at bs)).fault ≡ 0 → Along x u bs count Here at 0 at y
  along_begin l f =
      record {
        head = record { few = omega arith; low = l; sound = f; same = refl };
        tried = omega arith;
        far = omega arith;
        on = λ l. omega arith;
      }

  module _ (i m z : ℕ) (h : Along x u bs count Here at i m z) (l : i < 8) (b : ℕ) (is : b ≡ byte_at bs (at + i)) where
    -- the next slot, where it is wanted, is not above u
    pub next_fits : z < x → z + b + 1 ≤ u
    next_fits g =
        let k = h.on g in
        byte_below x u bs count Here all m z h.head (omega arith) b (rw k is)

    -- one more is tried, and is read where the slot before it is below x
    pub along_turn : (more y' : ℕ) → more ≡ bit_of (ltb z x) → y' ≡ pick (ltb z x) (z + b + 1) z → Along x u bs count Here at (i + 1) (m + more) y'
    along_turn more y' f g = go (dec_lt z x)
      where
        go : Dec (z < x) → Along x u bs count Here at (i + 1) (m + more) y'
        go (yes lt) =
            let k = h.on lt in
            let one : more ≡ 1 = f ∙ simp (lt-ltb z x lt) in
            let yes : y' ≡ z + b + 1 = g ∙ simp (lt-ltb z x lt) in
            record {
              head = rw (one, yes) (step x u bs count Here all m z h.head (omega arith) b (rw k is) lt);
              tried = omega arith;
              far = omega arith;
              on = λ q. omega arith;
            }
        go (no n) =
            let none : more ≡ 0 = f ∙ simp (le-ltb z x (omega arith)) in
            let same : y' ≡ z = g ∙ simp (le-ltb z x (omega arith)) in
            let k : m + more ≡ m = omega arith in
            let e = h.far in
            record { head = rw (same, k) h.head; tried = omega arith; far = omega arith; on = λ q. absurd (omega arith) }

-- the i-th of the bytes that are tried
pub nth_byte : (bs : List ℕ) (at m i b : ℕ) → b ≡ get_or (take m (drop at bs)) i 0 → i < m → b ≡ byte_at bs (at + i)
nth_byte bs at m i b e l = e ∙ get_or-take m (drop at bs) i 0 l ∙ get_or-drop at bs i 0
