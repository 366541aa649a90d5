-- The loop over the blocks of a tail: what is left to read has the fault of the whole. One law for each way out and one for a turn.
use Prim.Native.Nat.{ℕ, ◌+◌, ◌*◌, ◌-◌, ◌≤◌, ◌<◌, min}
use mathlib.Core.Path.{◌≡◌, sym, ap, ◌∙◌}
use mathlib.Core.List.{List}
use native.Mathlib.Nat.{le_of_lt}
use native.Mathlib.Omega.{arith}
use lib.ListN.{length, drop}
use borrow.Author.Tests.{ne_eqb}
use Rattle.paper.specs.Lists.{pick, last_of}
use Rattle.paper.specs.Bytes.{u32_at, part, ceil_div}
use Rattle.paper.specs.Block.{Block, read_codes}
use Rattle.paper.specs.Tail.{Tail, end_of, read_blocks}
use Rattle.laws.proofs.Rounding.{ceil_some, ceil_next}
use Rattle.laws.proofs.Tails as tails
use Rattle.laws.proofs.Words.{word_drop}
use Rattle.std.specs.Prelude.{Ok, Err}
use Rattle.codes.specs.InBlock.{Checked, told, checked}
use Rattle.codes.specs.declared.Misread.{Misread}
use Rattle.laws.proofs.Faults.{some_number}
use Rattle.paper.specs.Fault.{number_of}

-- where the block whose entry is at byte e ends, k blocks being left
module _ (L : ℕ) (es : List ℕ) (e k : ℕ) where
  pub end_inner : (r : ℕ) → 0 < k → ¬ (k ≡ 1) → r ≡ u32_at es (e + 12) → r ≡ end_of L (drop e es) (k - 1)
  end_inner r p n is =
      let z : ¬ (k - 1 ≡ 0) = λ q. n (omega arith) in
      is ∙ sym (word_drop e es 12) ∙ sym (ap (λ t. pick t L (u32_at (drop e es) 12)) (ne_eqb (k - 1) 0 z))

-- what holds at the loop's head: of m blocks those from block i on are left, with n slots, their codes from offset a on
pub record Head (u B L t : ℕ) (es cs : List ℕ) (m i n a prev : ℕ) : Type 0 where
  pub room : 8 * m ≤ length es
  pub inside : a ≤ L
  pub count : m - i ≡ ceil_div n B
  pub same : (read_blocks u B L (m - i) n prev a (drop (8 * i) es) (drop a cs)).fault ≡ t

-- at first all are
pub head_all : (u B L t : ℕ) (es cs : List ℕ) (m n prev : ℕ) → 8 * m ≤ length es → m ≡ ceil_div n B → (read_blocks u B L m n prev 0 es cs).fault ≡ t → Head u B L t es cs m 0 n 0 prev
head_all u B L t es cs m n prev h c e =
    let z : m - 0 ≡ m = omega arith in
    record { room = h; inside = omega arith; count = rw z c; same = rw z e }

module _ {u B L t : ℕ} {es cs : List ℕ} {m i n a prev : ℕ} (h : Head u B L t es cs m i n a prev) where
  by : (r : Tail) → read_blocks u B L (m - i) n prev a (drop (8 * i) es) (drop a cs) ≡ r → r.fault ≡ t
  by r e = sym (ap (λ (x : Tail). x.fault) e) ∙ h.same

  pub none_left : m ≤ i → 0 ≡ t
  none_left l = by _ (tails.turn_end u B L (m - i) n prev (8 * i) a es cs (omega arith))

  module _ (lt : i < m) where
    some_left : 0 < m - i
    some_left = omega arith

    pub entry_there : 8 * i + 8 * (m - i) ≤ length es
    entry_there = omega (arith, h.room)

    pub size_some : (size : ℕ) → 0 < B → size ≡ min B n → 1 ≤ size
    size_some size p e = let l = ceil_some B p n (m - i) h.count some_left in omega arith

    module _ (first z : ℕ) (is_f : first ≡ u32_at es (8 * i)) (is_z : z ≡ end_of L (drop (8 * i) es) (m - i - 1)) where
      pub back : z < a → 7 ≡ t
      back l = by _ (tails.turn_back u B L (m - i) n prev (8 * i) a es cs some_left first z is_f is_z l)

      module _ (l₁ : a ≤ z) where
        pub beyond : L < z → 7 ≡ t
        beyond l = by _ (tails.turn_beyond u B L (m - i) n prev (8 * i) a es cs some_left first z is_f is_z l₁ l)

        module _ (l₂ : z ≤ L) where
          pub low : first ≤ prev → 9 ≡ t
          low l = by _ (tails.turn_low u B L (m - i) n prev (8 * i) a es cs some_left first z is_f is_z l₁ l₂ l)

          module _ (l₃ : prev < first) where
            pub high : u < first → 9 ≡ t
            high l = by _ (tails.turn_high u B L (m - i) n prev (8 * i) a es cs some_left first z is_f is_z l₁ l₂ l₃ l)

            module _ (l₄ : first ≤ u) (pos : 0 < B) (size : ℕ) (isS : size ≡ min B n) where
              -- what the check of the codes reads is what the definition reads there
              abbrev read : Block
              read = read_codes u (size - 1) first (part cs a z)

              codes : read ≡ read_codes u (min B n - 1) first (part cs a z)
              codes = rw isS

              pub bad_block : (m : Misread) → told (Err m) ≡ checked first read → number_of m.fault ≡ t
              bad_block w is =
                  let e = ap (λ (c : Checked). c.fault) is ∙ ap (λ (b : Block). b.fault) codes in
                  let some = some_number w.fault in
                  e ∙ by _ (tails.turn_bad u B L (m - i) n prev (8 * i) a es cs some_left first z is_f is_z l₁ l₂ l₃ l₄ (λ q. let o = e ∙ q in omega arith))

              pub turn : (last : ℕ) → told (Ok last) ≡ checked first read → Head u B L t es cs m (i + 1) (n - size) z last
              turn last is =
                  let d : n - size ≡ n - B = omega arith in
                  let k : m - i - 1 ≡ m - (i + 1) = omega arith in
                  let j : 8 * i + 8 ≡ 8 * (i + 1) = omega arith in
                  let ok = ap (λ (c : Checked). c.fault) is ∙ ap (λ (b : Block). b.fault) codes in
                  let q = ap (λ (c : Checked). c.last) is ∙ ap (λ (b : Block). last_of first b.slots) codes in
                  let next = by _ (tails.turn_next u B L (m - i) n prev (8 * i) a es cs some_left first z is_f is_z l₁ l₂ l₃ l₄ (sym ok)) in
                  record { room = h.room; inside = l₂; count = rw d (sym k ∙ ceil_next B pos n (m - i) h.count some_left); same = rw (q, d, ← k, ← j) next }

-- weaker bounds, where the loop ends before m, or a test gives a stronger one. (No proof needs them today; with them, a shorter loop and a weaker test fail at what they break)
pub block_left : (i r k m : ℕ) → i < r → r ≡ m - k → i < m
block_left i r k m l e = omega arith

pub ruleset turns = (head_all, none_left, entry_there, size_some, back, beyond, low, high, block_left, le_of_lt)
