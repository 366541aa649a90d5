-- Reading the numbers of a text, step by step: one law for each byte that can stand there, and for the end.
use Prim.Native.Nat.{ℕ, ◌+◌, ◌-◌, ◌*◌, ◌≤◌, ◌<◌}
use mathlib.Core.Path.{◌≡◌, refl, sym, ap, ◌∙◌}
use mathlib.Core.Bool.{Bool, true, false, true≢false}
use mathlib.Core.Option.{Option, none, some}
use mathlib.Core.List.{List, []}
use native.Mathlib.Decide.{dec_lt}
use native.Mathlib.Omega.{arith}
use lib.ListN.{length, drop}
use borrow.Author.Tests.{lt-ltb, le-ltb}
use Rattle.paper.specs.Bytes.{byte_at}
use Rattle.paper.specs.Line.{is_parting, is_digit, also, read_numbers}
use Rattle.laws.proofs.Parts.{front, nothing}
use Rattle.line.specs.OneNumber.{Begins}

-- what stands at position i of a text
module _ (text : List ℕ) (i : ℕ) where
  abbrev from : Bool → ℕ → Option (List ℕ)
  from inside v = read_numbers (drop i text) inside v

  -- nothing does, outside of a number
  pub end_outside : length text ≤ i → from false 0 ≡ some []
  unfolding read_numbers
  end_outside h = rw (nothing text i h)

  -- nothing does, inside of one
  pub end_inside : (v : ℕ) → length text ≤ i → also v (read_numbers (drop (i + 1) text) false 0) ≡ from true v
  unfolding read_numbers
  end_inside v h = rw (nothing text i h, nothing text (i + 1) (omega arith))

  module _ (h : i < length text) (b : ℕ) (is : b ≡ byte_at text i) where
    -- a parting byte, outside of a number
    pub parting_outside : is_parting b ≡ true → read_numbers (drop (i + 1) text) false 0 ≡ from false 0
    unfolding read_numbers
    parting_outside p = rw (front text i b h is, p)

    -- and inside of one
    pub parting_inside : is_parting b ≡ true → (v : ℕ) → also v (read_numbers (drop (i + 1) text) false 0) ≡ from true v
    unfolding read_numbers
    parting_inside p v = rw (front text i b h is, p)

    module _ (p : is_parting b ≡ false) where
      -- any other byte begins a number, or goes on with one, all the same
      pub begin_number : from true 0 ≡ from false 0
      unfolding read_numbers
      begin_number = rw (front text i b h is, p)

      -- a byte that is no digit
      pub no_digit : is_digit b ≡ false → (v : ℕ) → none ≡ from true v
      unfolding read_numbers
      no_digit d v = rw (front text i b h is, p, d)

      module _ (d : is_digit b ≡ true) (v : ℕ) where
        -- a digit, and the number gets too large
        pub too_large : 4294967295 < 10 * v + (b - 0x30) → none ≡ from true v
        unfolding read_numbers
        too_large l = rw (front text i b h is, p, d, le-ltb (10 * v + (b - 0x30)) 4294967296 (omega arith))

        -- a digit
        pub one_digit : 10 * v + (b - 0x30) ≤ 4294967295 → read_numbers (drop (i + 1) text) true (10 * v + (b - 0x30)) ≡ from true v
        unfolding read_numbers
        one_digit l = rw (front text i b h is, p, d, lt-ltb (10 * v + (b - 0x30)) 4294967296 (omega arith))

-- SKIPPING: i lies at `at` or behind it, with nothing but parting bytes between them
pub record Skipped (text : List ℕ) (at i : ℕ) : Type 0 where
  pub behind : at ≤ i
  pub near : i ≤ length text + 1
  pub same : read_numbers (drop i text) false 0 ≡ read_numbers (drop at text) false 0

-- none is skipped yet
pub skip_none : (text : List ℕ) (at : ℕ) → at ≤ length text + 1 → Skipped text at at
skip_none text at l = record { behind = omega arith; near = l; same = refl }

module _ (text : List ℕ) (at i : ℕ) (s : Skipped text at i) where
  -- the end
  pub skip_end : length text ≤ i → Begins text at i
  skip_end l = record { behind = s.behind; near = s.near; same = s.same; none_there = λ h. absurd (omega arith) }

  module _ (h : i < length text) (b : ℕ) (is : b ≡ byte_at text i) (t : Bool) (test : t ≡ is_parting b) where
    -- a byte that is no parting byte
    pub skip_stop : t ≡ false → Begins text at i
    skip_stop p = record { behind = s.behind; near = s.near; same = s.same; none_there = λ _. rw (← is) (sym test ∙ p) }

    -- one more parting byte
    pub skip_more : t ≡ true → Skipped text at (i + 1)
    skip_more p =
        let lo = s.behind in
        record { behind = omega arith; near = omega arith; same = parting_outside text i h b is (sym test ∙ p) ∙ s.same }

-- all of these
pub ruleset skips = (skip_none, skip_end, skip_stop, skip_more)

-- ONE NUMBER, which begins at `at`: it is read up to i, and v is its value so far
pub record Inside (text : List ℕ) (at i v : ℕ) : Type 0 where
  pub begins : at < length text
  pub first : is_parting (byte_at text at) ≡ false
  pub behind : at ≤ i
  pub near : i ≤ length text
  pub low : v ≤ 4294967295
  pub same : read_numbers (drop i text) true v ≡ read_numbers (drop at text) false 0

-- nothing of it is read yet
pub number_begin : (text : List ℕ) (at : ℕ) → at < length text → is_parting (byte_at text at) ≡ false → Inside text at at 0
number_begin text at h p =
    record {
      begins = h;
      first = p;
      behind = omega arith;
      near = omega arith;
      low = omega arith;
      same = begin_number text at h (byte_at text at) refl p;
    }

module _ (text : List ℕ) (at i v : ℕ) (s : Inside text at i v) where
  pub number_low : v < 4294967296
  number_low = let l = s.low in omega arith

  -- the end of the text is the number's end
  pub number_end : length text ≤ i → also v (read_numbers (drop (i + 1) text) false 0) ≡ read_numbers (drop at text) false 0
  number_end l = end_inside text i v l ∙ s.same

  pub number_end_beyond : length text ≤ i → at + 2 ≤ i + 1
  number_end_beyond l = let b = s.begins in omega arith

  module _ (h : i < length text) (b : ℕ) (is : b ≡ byte_at text i) (t : Bool) (test : t ≡ is_parting b) where
    pub number_within : i + 1 ≤ length text + 1
    number_within = omega arith

    -- so is a parting byte, which is not the first byte
    pub number_parted : t ≡ true → also v (read_numbers (drop (i + 1) text) false 0) ≡ read_numbers (drop at text) false 0
    number_parted p = parting_inside text i h b is (sym test ∙ p) v ∙ s.same

    pub number_parted_beyond : t ≡ true → at + 2 ≤ i + 1
    number_parted_beyond p = elim (dec_lt at i) [ yes l ↦ omega arith | no g ↦ absurd (apart g) ]
      where
        apart : ¬ (at < i) → ⊥
        apart g =
            let lo = s.behind in
            let e : i ≡ at = omega arith in
            let q : is_parting (byte_at text at) ≡ true = rw (← e, ← is) (sym test ∙ p) in
            true≢false (sym q ∙ s.first)

    module _ (p : t ≡ false) where
      no_part : is_parting b ≡ false
      no_part = sym test ∙ p

      module _ (d : Bool) (isD : d ≡ is_digit b) where
        -- a byte that is no digit
        pub number_ends : d ≡ false → none ≡ read_numbers (drop at text) false 0
        number_ends f = no_digit text i h b is no_part (sym isD ∙ f) v ∙ s.same

        -- a digit too many
        pub number_large : d ≡ true → 4294967295 < 10 * v + (b - 0x30) → none ≡ read_numbers (drop at text) false 0
        number_large f l = too_large text i h b is no_part (sym isD ∙ f) v l ∙ s.same

        -- one more digit
        pub number_more : d ≡ true → (w : ℕ) → w ≡ 10 * v + (b - 0x30) → w ≤ 4294967295 → Inside text at (i + 1) w
        number_more f w e l =
            let on = s.behind in
            let k : 10 * v + (b - 0x30) ≤ 4294967295 = omega arith in
            record {
              begins = s.begins;
              first = s.first;
              behind = omega arith;
              near = omega arith;
              low = l;
              same = ap (λ (n : ℕ). read_numbers (drop (i + 1) text) true n) e ∙ one_digit text i h b is no_part (sym isD ∙ f) v k ∙ s.same;
            }

-- all of these
pub ruleset numbers = (number_begin, number_end, number_end_beyond, number_within, number_parted, number_parted_beyond, number_ends, number_large, number_more)
