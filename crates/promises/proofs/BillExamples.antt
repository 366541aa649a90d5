-- [Order 14] An example of a bill that is far below q + 2m, and nearly reached: few slots sought in a long list.
use Prim.Native.Nat.{ℕ, zero, suc, ◌*◌, ◌≤◌, ◌<◌}
use mathlib.Core.Path.{◌≡◌}
use mathlib.Core.Logic.{◌↔◌}
use mathlib.Core.List.{List, [], ◌∷◌, map}
use native.Mathlib.Omega.{arith}
use lib.ListN.{get_or}
use Rattle.paper.specs.Lists.{up_from}
use Rattle.paper.specs.Index.{u_of, held}
use Rattle.paper.specs.Write.{encode}
use Rattle.paper.proofs.Open.{opened}
use Rattle.laws.proofs.Lists.{In}
use Rattle.meaning.proofs.Orders.{Before}
use Rattle.meaning.proofs.Orders.Before.{fewer}
use Rattle.promises.proofs.Questions.{index_of}
use Rattle.promises.proofs.QuestionNumbers.{same_rising}
use Rattle.promises.proofs.QuestionAlike.{never}
use Rattle.promises.proofs.WalkCost.{searches}
use Rattle.promises.proofs.Bills.{bill}
use Rattle.promises.proofs.SkipOrder.{sizes}
use Rattle.promises.proofs.PlaceCosts.{list_at, Spent}

-- the even slots 2 to 62
abbrev pub evens : List ℕ
evens = map (λ i. 2 * i) (up_from 1 31)

-- a block for each slot: the even slots in 31 blocks; 16 32 48; the even slots with cut 32, in bits and 15 blocks; 31 and 32
abbrev pub long : List ℕ
long = index_of 64 1 (encode 1 0 evens ∷ encode 1 0 (16 ∷ 32 ∷ 48 ∷ []) ∷ encode 1 32 evens ∷ encode 1 0 (31 ∷ 32 ∷ []) ∷ [])

-- lists 0 and 1
abbrev pub both : List ℕ
both = 0 ∷ 1 ∷ []

-- list 1 comes before list 0, and no other position does: its slots are the candidates there
come : (x : ℕ) → In x (16 ∷ 32 ∷ 48 ∷ []) ↔ ((j : ℕ) → j < 2 → Before (sizes long both) j 0 → In x (held long (get_or both j 0)))
unfolding opened
come x = (λ h j l b. go j h l b, λ h. h 1 (omega arith) (fewer (omega arith)))
  where
    go : (j : ℕ) → In x (16 ∷ 32 ∷ 48 ∷ []) → j < 2 → Before (sizes long both) j 0 → In x (held long (get_or both j 0))
    go zero h l b = never (sizes long both) 0 0 b b
    go (suc zero) h l b = h
    go (suc (suc j)) h l b = absurd (omega arith)

-- so all three are searched for, whoever tells the candidates
pub long_searches : (s : Spent long both 3 0) → searches (list_at long both 0) s.candidates ≡ 3
unfolding opened
long_searches s =
    let e = same_rising (u_of long) 64 s.candidates (16 ∷ 32 ∷ 48 ∷ []) s.rise (omega arith)
    λ x. (λ h. (come x).1 ((s.come x).0 h), λ h. (s.come x).1 ((come x).0 h)) in
    rw e

-- 27 is the least that an e gives for them
pub long_least : (e : ℕ) → 27 ≤ bill e 3 31
long_least zero = omega arith
long_least (suc zero) = omega arith
long_least (suc (suc zero)) = omega arith
long_least (suc (suc (suc zero))) = omega arith
long_least (suc (suc (suc (suc e)))) = omega arith
