-- Some bytes, gone through in eights, and the first eights that are empty.
use Prim.Native.Nat.{ℕ, zero, suc, ◌+◌, ◌*◌, ◌/◌, ◌%◌, ◌≤◌, ◌<◌}
use mathlib.Core.Path.{◌≡◌, refl, sym, ap, ◌∙◌}
use mathlib.Core.List.{List, []}
use native.Mathlib.Omega.{arith}
use lib.ListN.{get_or, take, drop}
use lib.Seq.{drop-drop, get_or-take, get_or-drop}
use Rattle.std.specs.Int.{w64, from_le_bytes}
use Rattle.std.specs.List.{AllWithin}
use Rattle.std.specs.Simd.{first_chunks}
use Rattle.paper.specs.Bytes.{byte_at}

-- the number that eight bytes make is 0 where each of them is
abbrev pub Empty : List ℕ → Type 0
Empty xs = from_le_bytes w64 xs ≡ 0

empty_bytes : (xs : List ℕ) → Empty xs → (i : ℕ) → i < 8 → byte_at xs i ≡ 0
empty_bytes xs z zero h = omega arith
empty_bytes xs z (suc zero) h = omega arith
empty_bytes xs z (suc (suc zero)) h = omega arith
empty_bytes xs z (suc (suc (suc zero))) h = omega arith
empty_bytes xs z (suc (suc (suc (suc zero)))) h = omega arith
empty_bytes xs z (suc (suc (suc (suc (suc zero))))) h = omega arith
empty_bytes xs z (suc (suc (suc (suc (suc (suc zero)))))) h = omega arith
empty_bytes xs z (suc (suc (suc (suc (suc (suc (suc zero))))))) h = omega arith
empty_bytes xs z (suc (suc (suc (suc (suc (suc (suc (suc i)))))))) h = absurd (omega arith)

-- the eight number k of some bytes
eight_at : (k n : ℕ) (xs d : List ℕ) → k < n → get_or (first_chunks 8 n xs) k d ≡ take 8 (drop (8 * k) xs)
eight_at zero zero xs d h = absurd (omega arith)
eight_at (suc k) zero xs d h = absurd (omega arith)
eight_at zero (suc n) xs d h = refl
eight_at (suc k) (suc n) xs d h =
    let e : 8 * k + 8 ≡ 8 * suc k = omega arith in
    eight_at k n (drop 8 xs) d (omega arith) ∙ ap (take 8) (drop-drop (8 * k) 8 xs ∙ ap (λ (i : ℕ). drop i xs) (omega arith))

-- the first k of them are empty, and so each byte up to these
pub empty_to : (xs : List ℕ) (n k : ℕ) → k ≤ n → AllWithin Empty (first_chunks 8 n xs) 0 k → (i : ℕ) → i < 8 * k → byte_at xs i ≡ 0
empty_to xs n k h all i l =
    let e : 8 * (i / 8) + i % 8 ≡ i = omega arith in
    let ys = take 8 (drop (8 * (i / 8)) xs) in
    let z : Empty ys = rw (eight_at (i / 8) n xs [] (omega arith)) at (all (i / 8) [] (omega arith) (omega arith)) in
    let b = get_or-take 8 (drop (8 * (i / 8)) xs) (i % 8) 0 (omega arith) ∙ get_or-drop (8 * (i / 8)) xs (i % 8) 0 in
    ap (byte_at xs) (sym e) ∙ sym b ∙ empty_bytes ys z (i % 8) (omega arith)
