-- A code that is known to stand at position p: there are as many bytes as it leads on to, and none of them is wrong.
use Prim.Native.Nat.{ℕ, ◌+◌, ◌*◌, ◌%◌, ◌≤◌, ◌<◌}
use mathlib.Core.Path.{◌≡◌, sym}
use mathlib.Core.List.{List}
use native.Mathlib.Decide.{dec_lt, ℕ_discrete}
use native.Mathlib.Omega.{arith}
use lib.ListN.{length, drop}
use Rattle.paper.specs.Bytes.{byte_at}
use Rattle.paper.specs.Code.{code_of}
use Rattle.paper.specs.Code.Code.{code, bad}
use Rattle.laws.proofs.Codes as codes
use Rattle.codes.specs.Got.{Stands}

module _ (bs : List ℕ) (p : ℕ) (t : Stands bs p) where
  k : ¬ (code_of (drop p bs) ≡ bad)
  k = t.sound

  pub there : p < length bs
  there = elim (dec_lt p (length bs)) [ yes l ↦ l | no n ↦ absurd (k (sym (codes.none bs p (omega arith)))) ]

  module _ (a : ℕ) (is : a ≡ byte_at bs p) where
    pub known_one : a < 128 → code a (drop (p + 1) bs) ≡ code_of (drop p bs)
    known_one l = codes.one bs p a there is l

    module _ (l : 128 ≤ a) where
      pub there_2 : p + 1 < length bs
      there_2 = elim (dec_lt (p + 1) (length bs)) [ yes h ↦ h | no n ↦ absurd (k (sym (codes.none_2 bs p a there is l (omega arith)))) ]

      module _ (b : ℕ) (is₂ : b ≡ byte_at bs (p + 1)) where
        pub known_two : b < 128 → code (a % 128 + 128 * b) (drop (p + 2) bs) ≡ code_of (drop p bs)
        known_two l₂ =
            elim (ℕ_discrete b 0) [
              | yes z ↦ absurd (k (sym (codes.two_zero bs p a there is l b there_2 is₂ l₂ z)))
              | no n ↦ codes.two bs p a there is l b there_2 is₂ l₂ n
            ]

        module _ (l₂ : 128 ≤ b) where
          pub there_3 : p + 2 < length bs
          there_3 = elim (dec_lt (p + 2) (length bs)) [ yes h ↦ h | no n ↦ absurd (k (sym (codes.none_3 bs p a there is l b there_2 is₂ l₂ (omega arith)))) ]

          pub known_three : (d : ℕ) → d ≡ byte_at bs (p + 2) → code (a % 128 + 128 * (b % 128) + 16384 * d) (drop (p + 3) bs) ≡ code_of (drop p bs)
          known_three d is₃ = go (dec_lt d 128) (ℕ_discrete d 0)
            where
              go : Dec (d < 128) → Dec (d ≡ 0) → code (a % 128 + 128 * (b % 128) + 16384 * d) (drop (p + 3) bs) ≡ code_of (drop p bs)
              go (no n) z = absurd (k (sym (codes.four bs p a there is l b there_2 is₂ l₂ d there_3 is₃ (omega arith))))
              go (yes l₃) (yes z) = absurd (k (sym (codes.three_zero bs p a there is l b there_2 is₂ l₂ d there_3 is₃ l₃ z)))
              go (yes l₃) (no n) = codes.three bs p a there is l b there_2 is₂ l₂ d there_3 is₃ l₃ n

pub ruleset known = (there, known_one, there_2, known_two, there_3, known_three)
