-- [Order 8] The next slot from x on, of some slots: what it is, that there is one answer, and that the first of a rising list that is not below x is it.
use Prim.Native.Nat.{ℕ, ◌≤◌, ◌<◌}
use mathlib.Core.Path.{◌≡◌, refl, sym, ◌∙◌}
use mathlib.Core.Logic.{◌↔◌}
use mathlib.Core.List.{List, [], ◌∷◌}
use native.Mathlib.Decide.{dec_le, ℕ_discrete}
use native.Mathlib.Omega.{arith}
use Rattle.paper.specs.Lists.{first_from}
use Rattle.laws.proofs.Lists.{In, first_none, first_here, first_on}
use Rattle.laws.proofs.Lists.In.{here, there}
use Rattle.meaning.proofs.Rising.{Ascends, in_rising}

-- y is the next one from x on of the slots that P says. Where it is not 0, it is one of them, it is not below x, and none of them between is
-- left out; and it is 0 exactly where all of them are below x
pub record NextOf (P : ℕ → Type 0) (x y : ℕ) : Type 0 where
  pub least : ¬ (y ≡ 0) → P y × (x ≤ y) × ((z : ℕ) → P z → x ≤ z → y ≤ z)
  pub none : (y ≡ 0) ↔ ((z : ℕ) → P z → z < x)

-- it goes by what P says of each slot
pub next_same : (P Q : ℕ → Type 0) → ((z : ℕ) → P z ↔ Q z) → (x y : ℕ) → NextOf P x y → NextOf Q x y
next_same P Q same x y n =
    record {
      least = λ f. let t = n.least f in ((same y).0 t.0, t.1, λ z q l. t.2 z ((same z).1 q) l);
      none = (λ e z q. n.none.0 e z ((same z).1 q), λ h. n.none.1 (λ z p. h z ((same z).0 p)));
    }

-- there is one such answer
pub next_one : (P : ℕ → Type 0) (x y z : ℕ) → NextOf P x y → NextOf P x z → y ≡ z
next_one P x y z n m = go (ℕ_discrete y 0) (ℕ_discrete z 0)
  where
    go : Dec (y ≡ 0) → Dec (z ≡ 0) → y ≡ z
    go (yes e) d = e ∙ sym (m.none.1 (n.none.0 e))
    go (no f) (yes e) = n.none.1 (m.none.0 e) ∙ sym e
    go (no f) (no g) =
        let a = n.least f in
        let b = m.least g in
        let l = a.2 z b.0 b.1 in
        let k = b.2 y a.0 a.1 in
        omega arith

-- it is x itself exactly where x is one of them
pub next_itself : (P : ℕ → Type 0) (x y : ℕ) → 0 < x → NextOf P x y → (y ≡ x) ↔ P x
next_itself P x y some n = (λ e. let f : ¬ (y ≡ 0) = omega arith in rw e at (n.least f).0, back (ℕ_discrete y 0))
  where
    back : Dec (y ≡ 0) → P x → y ≡ x
    back (yes e) p = let l = n.none.0 e x p in absurd (omega arith)
    back (no f) p = let t = n.least f in let a = t.1 in let b = t.2 x p (omega arith) in omega arith

-- THE FIRST OF A RISING LIST that is not below x
pub first_next : (u p x : ℕ) (xs : List ℕ) → 0 < x → Ascends u p xs → NextOf (λ z. In z xs) x (first_from x xs)
first_next u p x [] some a =
    rw (first_none x) (record { least = λ f. absurd (f refl); none = (λ e z i. elim i [ ], λ h. refl) })
first_next u p x (y ∷ ys) some a =
    elim (dec_le x y) [
      | yes l ↦ rw (first_here x y ys l) (at_once l)
      | no g ↦ let l : y < x = omega arith in rw (first_on x y ys l) (later l (first_next u y x ys some a.2))
    ]
  where
    behind : (z : ℕ) → In z (y ∷ ys) → y ≤ z
    behind z (here e) = omega arith
    behind z (there i) = let t = in_rising u y z ys a.2 i in let l = t.0 in omega arith

    at_once : x ≤ y → NextOf (λ z. In z (y ∷ ys)) x y
    at_once l =
        record {
          least = λ f. (here refl, l, λ z i k. behind z i);
          none = (λ e. absurd (omega arith), λ h. let k = h y (here refl) in absurd (omega arith));
        }

    low : y < x → (r : ℕ) → NextOf (λ z. In z ys) x r → r ≡ 0 → (z : ℕ) → In z (y ∷ ys) → z < x
    low l r n e z (here i) = omega arith
    low l r n e z (there i) = n.none.0 e z i

    over : y < x → (r : ℕ) → ((z : ℕ) → In z ys → x ≤ z → r ≤ z) → (z : ℕ) → In z (y ∷ ys) → x ≤ z → r ≤ z
    over l r h z (here i) k = absurd (omega arith)
    over l r h z (there i) k = h z i k

    later : {r : ℕ} → y < x → NextOf (λ z. In z ys) x r → NextOf (λ z. In z (y ∷ ys)) x r
    later {r} l n =
        record {
          least = λ f. let t = n.least f in (there t.0, t.1, over l r t.2);
          none = (low l r n, λ h. n.none.1 (λ z i. h z (there i)));
        }
