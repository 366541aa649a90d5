-- Row 17 of an index by itself: its number is that of no other row, so that it says which list has the rubbish.
use Prim.Native.Nat.{ℕ}
use mathlib.Core.Path.{◌≡◌, refl, subst}
use mathlib.Core.Logic.{◌↔◌}
use mathlib.Core.List.{List}
use native.Mathlib.Omega.{arith}
use Rattle.paper.specs.Look.{look}
use Rattle.laws.proofs.Parts.{AllBytes}
use Rattle.promises.proofs.RecordRows.RecordRefused.{seventeen}
use Rattle.promises.proofs.RecordNumbers.{told_stained}
use Rattle.promises.proofs.IndexRows.{Refused, StainedAt}
use Rattle.promises.proofs.IndexRows.Refused.{short, long, tag, edition, u_range, b_range, k_range, size, first, tight, list}
use Rattle.promises.proofs.IndexNumbers.{look_by_the_table}

told_at : (bs : List ℕ) (f i : ℕ) → f ≡ 17 → Refused bs f i → StainedAt bs i
told_at bs f i e (short l) = absurd (omega arith)
told_at bs f i e (long l) = absurd (omega arith)
told_at bs f i e (tag t s n d) = absurd (omega arith)
told_at bs f i e (edition t s n) = absurd (omega arith)
told_at bs f i e (u_range t s n) = absurd (omega arith)
told_at bs f i e (b_range t s n) = absurd (omega arith)
told_at bs f i e (k_range t s n) = absurd (omega arith)
told_at bs f i e (size t s n) = absurd (omega arith)
told_at bs f i e (first t rs s ss g n) = absurd (omega arith)
told_at bs f i e (tight t rs ss g fr bh s z q l) = absurd (omega arith)
told_at bs f i e (list t front r behind p s q) =
    record { trailer = t; front = front; r = r; behind = behind; packed = p; sound = s; stained = told_stained t.u t.B r f e q; place = refl }

at_told : (bs : List ℕ) (i : ℕ) → StainedAt bs i → Refused bs 17 i
at_told bs i s =
    subst (λ (k : ℕ). Refused bs 17 k) s.place (list s.trailer s.front s.r s.behind s.packed s.sound (seventeen s.stained))

-- looking gives 17 and the place i exactly when row 17 applies to list i, behind sound lists
pub look_seventeen : (bs : List ℕ) → AllBytes bs → (i : ℕ) → (((look bs).number ≡ 17) × ((look bs).place ≡ i)) ↔ StainedAt bs i
look_seventeen bs all i =
    let t = (look_by_the_table bs all).refuses 17 i in
    (λ e. told_at bs 17 i refl (t.0 (e.0, e.1, λ z. omega arith)), λ s. let r = t.1 (at_told bs i s) in (r.0, r.1))
