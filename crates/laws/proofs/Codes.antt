-- One code. By position: how reading goes, path by path, for a reader that has the bytes as it read them and the tests as facts. Then the
-- bytes of a value: they read back as the value, and nothing else does.
use Prim.Native.Nat.{ℕ, ◌+◌, ◌-◌, ◌*◌, ◌/◌, ◌%◌, ◌≤◌, ◌<◌}
use mathlib.Core.Path.{◌≡◌, sym, ap, subst, ◌∙◌}
use mathlib.Core.List.{List, [], ◌∷◌, ◌++◌}
use native.Mathlib.Decide.{dec_lt, ℕ_discrete}
use native.Mathlib.Omega.{arith}
use lib.ListN.{length, drop, length-append}
use borrow.Author.Tests.{lt-ltb, le-ltb, eq-eqb, ne_eqb}
use Rattle.paper.specs.Bytes.{byte_at}
use Rattle.paper.specs.Code.{Code, code_of, second, third, code_bytes}
use Rattle.paper.specs.Code.Code.{code, bad}
use Rattle.paper.specs.Write.{gap_codes}
use Rattle.laws.proofs.Parts.{AllBytes, all_tail, all_none, all_more, front, nothing}

-- A code off the front of a list. Its second and third byte come with the value v of those before
module _ (r : List ℕ) where
  pub off_one : (a : ℕ) → a < 128 → code_of (a ∷ r) ≡ code a r
  unfolding code_of
  off_one a l = simp (lt-ltb _ _ l)

  pub off_on : (a : ℕ) → 128 ≤ a → code_of (a ∷ r) ≡ second (a % 128) r
  unfolding code_of
  off_on a l = simp (le-ltb _ _ l)

  module _ (v : ℕ) where
    pub off_two : (b : ℕ) → b < 128 → ¬ (b ≡ 0) → second v (b ∷ r) ≡ code (v + 128 * b) r
    unfolding second
    off_two b l n = simp (lt-ltb _ _ l, ne_eqb _ _ n)

    pub off_two_zero : (b : ℕ) → b < 128 → b ≡ 0 → second v (b ∷ r) ≡ bad
    unfolding second
    off_two_zero b l z = simp (lt-ltb _ _ l, eq-eqb _ _ z)

    pub off_two_on : (b : ℕ) → 128 ≤ b → second v (b ∷ r) ≡ third (v + 128 * (b % 128)) r
    unfolding second
    off_two_on b l = simp (le-ltb _ _ l)

    pub off_three : (d : ℕ) → d < 128 → ¬ (d ≡ 0) → third v (d ∷ r) ≡ code (v + 16384 * d) r
    unfolding third
    off_three d l n = simp (lt-ltb _ _ l, ne_eqb _ _ n)

    pub off_three_zero : (d : ℕ) → d < 128 → d ≡ 0 → third v (d ∷ r) ≡ bad
    unfolding third
    off_three_zero d l z = simp (lt-ltb _ _ l, eq-eqb _ _ z)

    pub off_three_on : (d : ℕ) → 128 ≤ d → third v (d ∷ r) ≡ bad
    unfolding third
    off_three_on d l = simp (le-ltb _ _ l)

-- the same by position: what is left to read is `drop p bs`. One law for each way out of a reader
module _ (bs : List ℕ) (p : ℕ) where
  pub none : length bs ≤ p → bad ≡ code_of (drop p bs)
  unfolding code_of
  none h = rw (nothing bs p h)

  module _ (a : ℕ) (h : p < length bs) (is : a ≡ byte_at bs p) where
    pub one : a < 128 → code a (drop (p + 1) bs) ≡ code_of (drop p bs)
    one l = rw (front bs p a h is) (sym (off_one _ a l))

    module _ (l : 128 ≤ a) where
      on : code_of (drop p bs) ≡ second (a % 128) (drop (p + 1) bs)
      on = rw (front bs p a h is) (off_on _ a l)

      pub none_2 : length bs ≤ p + 1 → bad ≡ code_of (drop p bs)
      unfolding second
      none_2 h₂ = rw (on, nothing bs (p + 1) h₂)

      module _ (b : ℕ) (h₂ : p + 1 < length bs) (is₂ : b ≡ byte_at bs (p + 1)) where
        next : drop (p + 1) bs ≡ b ∷ drop (p + 2) bs
        next = let e : p + 1 + 1 ≡ p + 2 = omega arith in front bs (p + 1) b h₂ is₂ ∙ ap (λ (k : ℕ). b ∷ drop k bs) e

        pub two : b < 128 → ¬ (b ≡ 0) → code (a % 128 + 128 * b) (drop (p + 2) bs) ≡ code_of (drop p bs)
        two l₂ n = rw (on, next) (sym (off_two _ _ b l₂ n))

        pub two_zero : b < 128 → b ≡ 0 → bad ≡ code_of (drop p bs)
        two_zero l₂ z = rw (on, next) (sym (off_two_zero _ _ b l₂ z))

        module _ (l₂ : 128 ≤ b) where
          on_2 : code_of (drop p bs) ≡ third (a % 128 + 128 * (b % 128)) (drop (p + 2) bs)
          on_2 = rw (on, next) (off_two_on _ _ b l₂)

          pub none_3 : length bs ≤ p + 2 → bad ≡ code_of (drop p bs)
          unfolding third
          none_3 h₃ = rw (on_2, nothing bs (p + 2) h₃)

          module _ (d : ℕ) (h₃ : p + 2 < length bs) (is₃ : d ≡ byte_at bs (p + 2)) where
            last : drop (p + 2) bs ≡ d ∷ drop (p + 3) bs
            last = let e : p + 2 + 1 ≡ p + 3 = omega arith in front bs (p + 2) d h₃ is₃ ∙ ap (λ (k : ℕ). d ∷ drop k bs) e

            pub three : d < 128 → ¬ (d ≡ 0) → code (a % 128 + 128 * (b % 128) + 16384 * d) (drop (p + 3) bs) ≡ code_of (drop p bs)
            three l₃ n = rw (on_2, last) (sym (off_three _ _ d l₃ n))

            pub three_zero : d < 128 → d ≡ 0 → bad ≡ code_of (drop p bs)
            three_zero l₃ z = rw (on_2, last) (sym (off_three_zero _ _ d l₃ z))

            pub four : 128 ≤ d → bad ≡ code_of (drop p bs)
            four l₃ = rw (on_2, last) (sym (off_three_on _ _ d l₃))

pub ruleset ways = (none, one, none_2, two, two_zero, none_3, three, three_zero, four)

-- The bytes of a value, by their number
pub bytes_one : (v : ℕ) → v < 128 → code_bytes v ≡ v ∷ []
unfolding code_bytes
bytes_one v h = simp (lt-ltb _ _ h)

pub bytes_two : (v : ℕ) → 128 ≤ v → v < 16384 → code_bytes v ≡ (128 + v % 128) ∷ v / 128 ∷ []
unfolding code_bytes
bytes_two v h l = simp (le-ltb _ _ h, lt-ltb _ _ l)

pub bytes_three : (v : ℕ) → 16384 ≤ v → code_bytes v ≡ (128 + v % 128) ∷ (128 + v / 128 % 128) ∷ v / 16384 ∷ []
unfolding code_bytes
bytes_three v h = let l : 128 ≤ v = omega arith in simp (le-ltb _ _ h, le-ltb _ _ l)

-- one to three bytes
pub record Short (n : ℕ) : Type 0 where
  pub some : 1 ≤ n
  pub few : n ≤ 3

-- so long is every code
pub length_of_code : (v : ℕ) → Short (length (code_bytes v))
length_of_code v = go (dec_lt v 128) (dec_lt v 16384)
  where
    go : Dec (v < 128) → Dec (v < 16384) → Short (length (code_bytes v))
    go (yes l) d = rw (bytes_one v l) (record { some = omega arith; few = omega arith })
    go (no g) (yes l) = rw (bytes_two v (omega arith) l) (record { some = omega arith; few = omega arith })
    go (no g) (no m) = rw (bytes_three v (omega arith)) (record { some = omega arith; few = omega arith })

-- and the codes of slots take as many for each
pub gaps_few : (prev : ℕ) (xs : List ℕ) → length (gap_codes prev xs) ≤ 3 * length xs
unfolding gap_codes
gaps_few prev [] = omega arith
gaps_few prev (x ∷ xs) = rw length-append (omega (arith, (length_of_code (x - prev - 1)).few, gaps_few x xs))

-- the bytes of a code are bytes
pub all_code : (v : ℕ) → v < 2097152 → AllBytes (code_bytes v)
all_code v small = go (dec_lt v 128) (dec_lt v 16384)
  where
    go : Dec (v < 128) → Dec (v < 16384) → AllBytes (code_bytes v)
    go (yes l) d = rw (bytes_one v l) (all_more v [] (omega arith) all_none)
    go (no g) (yes l) =
        rw (bytes_two v (omega arith) l) (all_more (128 + v % 128) (v / 128 ∷ []) (omega arith) (all_more (v / 128) [] (omega arith) all_none))
    go (no g) (no m) =
        rw (bytes_three v (omega arith))
        (all_more (128 + v % 128) ((128 + v / 128 % 128) ∷ v / 16384 ∷ []) (omega arith)
        (all_more (128 + v / 128 % 128) (v / 16384 ∷ []) (omega arith) (all_more (v / 16384) [] (omega arith) all_none)))

-- the bytes of a value read back as the value, whatever stands behind them
module _ (v : ℕ) (r : List ℕ) where
  read_two : 128 ≤ v → v < 16384 → code_of ((128 + v % 128) ∷ v / 128 ∷ r) ≡ code v r
  read_two h l =
      let e : (128 + v % 128) % 128 + 128 * (v / 128) ≡ v = omega arith in
      off_on _ (128 + v % 128) (omega arith) ∙ off_two r _ (v / 128) (omega arith) (λ z. absurd (omega arith)) ∙ ap (λ (x : ℕ). code x r) e

  read_three : 16384 ≤ v → v < 2097152 → code_of ((128 + v % 128) ∷ (128 + v / 128 % 128) ∷ v / 16384 ∷ r) ≡ code v r
  read_three h l =
      let d : v / 128 / 128 ≡ v / 16384 = omega arith in
      let e₁ : (128 + v % 128) % 128 ≡ v % 128 = omega arith in
      let e₂ : (128 + v / 128 % 128) % 128 ≡ v / 128 % 128 = omega arith in
      let k : v / 128 % 128 + 128 * (v / 16384) ≡ v / 128 = rw (← d) (omega arith) in
      let e : (128 + v % 128) % 128 + 128 * ((128 + v / 128 % 128) % 128) + 16384 * (v / 16384) ≡ v = rw (e₁, e₂) (omega (arith, k)) in
      off_on _ (128 + v % 128) (omega arith) ∙ off_two_on _ _ (128 + v / 128 % 128) (omega arith)
      ∙ off_three r _ (v / 16384) (omega arith) (λ z. absurd (omega arith)) ∙ ap (λ (x : ℕ). code x r) e

  -- a code of any length
  pub code_read : v < 2097152 → code_of (code_bytes v ++ r) ≡ code v r
  code_read small = go (dec_lt v 128) (dec_lt v 16384)
    where
      go : Dec (v < 128) → Dec (v < 16384) → code_of (code_bytes v ++ r) ≡ code v r
      go (yes l) d = rw (bytes_one v l) (off_one r v l)
      go (no g) (yes l) = rw (bytes_two v (omega arith) l) (read_two (omega arith) l)
      go (no g) (no m) = rw (bytes_three v (omega arith)) (read_three (omega arith) small)

-- bytes begin with the code of v, and r stands behind it
pub record CodeIs (bs : List ℕ) (v : ℕ) (r : List ℕ) : Type 0 where
  pub bytes : bs ≡ code_bytes v ++ r
  pub small : v < 2097152

is_one : (a : ℕ) (r : List ℕ) → a < 128 → CodeIs (a ∷ r) a r
is_one a r l = record { bytes = rw (bytes_one a l); small = omega arith }

module _ (a : ℕ) (l : 128 ≤ a) (m : a < 256) where
  is_two : (b : ℕ) (r : List ℕ) → b < 128 → ¬ (b ≡ 0) → CodeIs (a ∷ b ∷ r) (a % 128 + 128 * b) r
  is_two b r l₂ n =
      let v = a % 128 + 128 * b in
      let i₁ : 128 + v % 128 ≡ a = omega arith in
      let i₂ : v / 128 ≡ b = omega arith in
      record { bytes = rw (bytes_two v (omega arith) (omega arith), i₁, i₂); small = omega arith }

  is_three : (b d : ℕ) (r : List ℕ) → 128 ≤ b → b < 256 → d < 128 → ¬ (d ≡ 0) → CodeIs (a ∷ b ∷ d ∷ r) (a % 128 + 128 * (b % 128) + 16384 * d) r
  is_three b d r l₂ m₂ l₃ n =
      let v = a % 128 + 128 * (b % 128) + 16384 * d in
      let w : v / 128 ≡ b % 128 + 128 * d = omega arith in
      let i₁ : 128 + v % 128 ≡ a = omega arith in
      let i₂ : 128 + v / 128 % 128 ≡ b = rw w (omega arith) in
      let i₃ : v / 16384 ≡ d = omega arith in
      record { bytes = rw (bytes_three v (omega arith), i₁, i₂, i₃); small = omega arith }

-- what a reading says of the bytes
abbrev Says : List ℕ → Code → Type 0
Says bs bad = Unit {0}
Says bs (code v r) = CodeIs bs v r

through : (bs : List ℕ) {c d : Code} → c ≡ d → Says bs d → Says bs c
through bs e s = rw e s

module _ (a : ℕ) (l : 128 ≤ a) (m : a < 256) where
  says_3 : (b : ℕ) (r : List ℕ) → 128 ≤ b → b < 256 → AllBytes r → Says (a ∷ b ∷ r) (third (a % 128 + 128 * (b % 128)) r)
  unfolding third
  says_3 b [] l₂ m₂ all = tt
  says_3 b (d ∷ r) l₂ m₂ all = go (dec_lt d 128) (ℕ_discrete d 0)
    where
      go : Dec (d < 128) → Dec (d ≡ 0) → Says (a ∷ b ∷ d ∷ r) (third (a % 128 + 128 * (b % 128)) (d ∷ r))
      go (no g) z = through _ (off_three_on r _ d (omega arith)) tt
      go (yes l₃) (yes z) = through _ (off_three_zero r _ d l₃ z) tt
      go (yes l₃) (no n) = through _ (off_three r _ d l₃ n) (is_three a l m b d r l₂ m₂ l₃ n)

  says_2 : (r : List ℕ) → AllBytes r → Says (a ∷ r) (second (a % 128) r)
  unfolding second
  says_2 [] all = tt
  says_2 (b ∷ r) all = go (dec_lt b 128) (ℕ_discrete b 0)
    where
      go : Dec (b < 128) → Dec (b ≡ 0) → Says (a ∷ b ∷ r) (second (a % 128) (b ∷ r))
      go (no g) z = through _ (off_two_on r _ b (omega arith)) (says_3 b r (omega arith) (all 0) (all_tail b r all))
      go (yes l₂) (yes z) = through _ (off_two_zero r _ b l₂ z) tt
      go (yes l₂) (no n) = through _ (off_two r _ b l₂ n) (is_two a l m b r l₂ n)

says : (bs : List ℕ) → AllBytes bs → Says bs (code_of bs)
unfolding code_of
says [] all = tt
says (a ∷ r) all = go (dec_lt a 128)
  where
    go : Dec (a < 128) → Says (a ∷ r) (code_of (a ∷ r))
    go (yes l) = through _ (off_one r a l) (is_one a r l)
    go (no g) = through _ (off_on r a (omega arith)) (says_2 a (omega arith) (all 0) r (all_tail a r all))

-- bytes that read as a value are the bytes of that value: it has no other code
pub code_is : (bs : List ℕ) → AllBytes bs → (v : ℕ) (r : List ℕ) → code_of bs ≡ code v r → CodeIs bs v r
code_is bs all v r e = subst (λ (c : Code). Says bs c) e (says bs all)
