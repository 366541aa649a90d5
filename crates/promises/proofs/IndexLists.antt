-- Looking list by list: the first record with a fault gives its number and its position. Before that, the first of a list that is not as those before it.
use Prim.Native.Nat.{ℕ, suc, ◌+◌, ◌≤◌}
use mathlib.Core.Path.{◌≡◌, refl, sym, ap, ap₂, ◌∙◌}
use mathlib.Core.Logic.{◌⊎◌}
use mathlib.Core.Logic.◌⊎◌.{inl, inr}
use mathlib.Core.List.{List, [], ◌∷◌, ◌++◌, append_assoc, flatten}
use native.Mathlib.Decide.{ℕ_discrete}
use native.Mathlib.Omega.{arith}
use lib.ListN.{length, length-append}
use borrow.Author.Tests.{eq-eqb, ne_eqb}
use Rattle.paper.specs.Record.{record_fault}
use Rattle.paper.specs.Refusal.{verdict, accepted, or_else}
use Rattle.paper.specs.Look.{list_fault, lists_fault}
use Rattle.paper.specs.declared.Verdict.{Verdict}
use Rattle.laws.proofs.Lists.{Each}
use Rattle.laws.proofs.Parts.{AllBytes, all_front, all_behind}
use Rattle.promises.proofs.RecordRows.{RecordRefused, RecordSound}
use Rattle.promises.proofs.RecordNumbers.{record_number, record_sound}
use Rattle.promises.proofs.IndexDirectory.{Lie, lie_start, record_read}

-- The first of a list that is of the kind Q; those before it are of the kind P
pub record First {A : Type 0} (P Q : A → Type 0) (xs : List A) : Type 0 where
  pub front : List A
  pub bad : A
  pub behind : List A
  pub is : xs ≡ front ++ bad ∷ behind
  pub good : Each P front
  pub here : Q bad

-- where each thing is of one kind or of the other, all are of the kind P, or there is a first that is not
pub first_or : {A : Type 0} (P Q : A → Type 0) → ((x : A) → P x ⊎ Q x) → (xs : List A) → Each P xs ⊎ First P Q xs
first_or P Q kind [] = inl tt
first_or {A} P Q kind (x ∷ xs) =
    elim (kind x) [
      | inr q ↦ inr (record { front = []; bad = x; behind = xs; is = refl; good = tt; here = q })
      | inl p ↦
          elim (first_or P Q kind xs) [
            | inl e ↦ inl (p, e)
            | inr f ↦
                inr
                (record {
                  front = x ∷ f.front;
                  bad = f.bad;
                  behind = f.behind;
                  is = ap (λ (l : List A). x ∷ l) f.is;
                  good = (p, f.good);
                  here = f.here;
                })
          ]
    ]

-- the first fault of records, the first of them being list i
unfoldable pub first_of : (ℕ → List ℕ → Verdict) → ℕ → List (List ℕ) → Verdict
first_of test i [] = accepted
first_of test i (r ∷ rs) = let later = first_of test (i + 1) rs in or_else (test i r) later

-- records that lie one behind the other are those that are looked at
pub lists_read : (test : ℕ → List ℕ → Verdict) (bs : List ℕ) (start : ℕ → ℕ) (rs : List (List ℕ)) (i : ℕ) (front rest : List ℕ)
    → bs ≡ front ++ (flatten rs ++ rest) → Lie start i (length front) rs → lists_fault test bs start (length rs) i ≡ first_of test i rs
unfolding lists_fault first_of flatten
lists_read test bs start [] i front rest is l = refl
lists_read test bs start (r ∷ rs) i front rest is l =
    let here : bs ≡ front ++ (r ++ (flatten rs ++ rest)) = is ∙ rw append_assoc in
    let next : start (i + 1) ≡ length front + length r = lie_start start (i + 1) (length front + length r) rs l.1 in
    let n = length-append front r in
    let one = record_read bs front r (flatten rs ++ rest) start i here l.0 next in
    let later = lists_read test bs start rs (i + 1) (front ++ r) rest (here ∙ sym (append_assoc front r (flatten rs ++ rest))) (rw n l.1) in
    ap₂ (λ (x : List ℕ) (v : Verdict). or_else (test i x) v) one later

module _ (u B : ℕ) where
  abbrev fault : List ℕ → ℕ
  fault r = record_fault u B (length r) r

  abbrev Free : List ℕ → Type 0
  Free r = fault r ≡ 0

  first_on : (i : ℕ) (r : List ℕ) (rs : List (List ℕ)) → Free r → first_of (list_fault u B) i (r ∷ rs) ≡ first_of (list_fault u B) (i + 1) rs
  unfolding first_of
  first_on i r rs e = rw (eq-eqb _ _ e)

  first_off : (i : ℕ) (r : List ℕ) (rs : List (List ℕ)) → ¬ (Free r) → first_of (list_fault u B) i (r ∷ rs) ≡ verdict (fault r) i
  unfolding first_of
  first_off i r rs n = rw (ne_eqb _ _ n)

  -- none has a fault
  free_all : (rs : List (List ℕ)) (i : ℕ) → Each Free rs → first_of (list_fault u B) i rs ≡ accepted
  unfolding first_of
  free_all [] i e = refl
  free_all (r ∷ rs) i e = first_on i r rs e.0 ∙ free_all rs (i + 1) e.1

  -- none before a list that has one
  faulty_at : (front : List (List ℕ)) (r : List ℕ) (behind : List (List ℕ)) (i : ℕ) → Each Free front → ¬ (Free r)
      → first_of (list_fault u B) i (front ++ r ∷ behind) ≡ verdict (fault r) (i + length front)
  faulty_at [] r behind i e n = let z : i ≡ i + 0 = omega arith in first_off i r behind n ∙ ap (λ (p : ℕ). verdict (fault r) p) z
  faulty_at (x ∷ front) r behind i e n =
      let z : i + 1 + length front ≡ i + suc (length front) = omega arith in
      first_on i x (front ++ r ∷ behind) e.0 ∙ faulty_at front r behind (i + 1) e.1 n ∙ ap (λ (p : ℕ). verdict (fault r) p) z

-- each, by what each of them is
pub each_by : {A : Type 0} (P Q R : A → Type 0) → ((x : A) → P x → Q x → R x) → (xs : List A) → Each P xs → Each Q xs → Each R xs
each_by P Q R f [] p q = tt
each_by P Q R f (x ∷ xs) p q = (f x p.0 q.0, each_by P Q R f xs p.1 q.1)

each_front : {A : Type 0} (P : A → Type 0) (xs ys : List A) → Each P (xs ++ ys) → Each P xs
each_front P [] ys e = tt
each_front P (x ∷ xs) ys e = (e.0, each_front P xs ys e.1)

each_at : {A : Type 0} (P : A → Type 0) (xs : List A) (y : A) (ys : List A) → Each P (xs ++ y ∷ ys) → P y
each_at P [] y ys e = e.0
each_at P (x ∷ xs) y ys e = each_at P xs y ys e.1

-- what is known of a record when lists are looked at
pub record Whole (r : List ℕ) : Type 0 where
  pub bytes : AllBytes r
  pub long : 12 ≤ length r

-- all of this is known of each
pub whole_each : (rs : List (List ℕ)) → AllBytes (flatten rs) → Each (λ (r : List ℕ). 12 ≤ length r) rs → Each Whole rs
unfolding flatten
whole_each [] all l = tt
whole_each (r ∷ rs) all l =
    (record { bytes = all_front r (flatten rs) all; long = l.0 }, whole_each rs (all_behind r (flatten rs) all) l.1)

module _ (u B : ℕ) (pos : 1 ≤ B) (small : u ≤ 1048576) where
  free_sound : (rs : List (List ℕ)) → Each Whole rs → Each (Free u B) rs → Each (RecordSound u B) rs
  free_sound = each_by Whole (Free u B) (RecordSound u B) (λ r w e. (record_sound u B r w.bytes pos small w.long).0 e)

  sound_free : (rs : List (List ℕ)) → Each Whole rs → Each (RecordSound u B) rs → Each (Free u B) rs
  sound_free = each_by Whole (RecordSound u B) (Free u B) (λ r w e. (record_sound u B r w.bytes pos small w.long).1 e)

  -- all records are sound: no fault
  pub lists_sound : (rs : List (List ℕ)) → Each Whole rs → Each (RecordSound u B) rs → first_of (list_fault u B) 0 rs ≡ accepted
  lists_sound rs w s = free_all u B rs 0 (sound_free rs w s)

  -- a record is refused, and those before it are sound: its number, and its position
  module _ (front : List (List ℕ)) (r : List ℕ) (behind : List (List ℕ)) (w : Each Whole (front ++ r ∷ behind)) (s : Each (RecordSound u B) front)
      (f : ℕ) (t : RecordRefused u B r f) where
    told : (fault u B r ≡ f) × ¬ (f ≡ 0)
    told = let v = each_at Whole front r behind w in (record_number u B r v.bytes pos small v.long f).1 t

    -- the number is not 0
    pub lists_number : ¬ (f ≡ 0)
    lists_number = told.1

    -- it is given, with the position as the place
    pub lists_refused : first_of (list_fault u B) 0 (front ++ r ∷ behind) ≡ verdict f (length front)
    lists_refused =
        let z : 0 + length front ≡ length front = omega arith in
        faulty_at u B front r behind 0 (sound_free front (each_front Whole front (r ∷ behind) w) s) (λ e. told.1 (sym told.0 ∙ e))
        ∙ ap₂ verdict told.0 z

  -- and one of the two is so
  pub record ListRefused (rs : List (List ℕ)) : Type 0 where
    pub front : List (List ℕ)
    pub bad : List ℕ
    pub behind : List (List ℕ)
    pub number : ℕ
    pub is : rs ≡ front ++ bad ∷ behind
    pub sound : Each (RecordSound u B) front
    pub refused : RecordRefused u B bad number

  -- one or the other
  pub lists_or : (rs : List (List ℕ)) → Each Whole rs → Each (RecordSound u B) rs ⊎ ListRefused rs
  lists_or rs w =
      elim (first_or (Free u B) (λ r. ¬ (Free u B r)) kind rs) [
        | inl e ↦ inl (free_sound rs w e)
        | inr t ↦
            let w₂ : Each Whole (t.front ++ t.bad ∷ t.behind) = rw t.is at w in
            let v = each_at Whole t.front t.bad t.behind w₂ in
            inr
            (record {
              front = t.front;
              bad = t.bad;
              behind = t.behind;
              number = fault u B t.bad;
              is = t.is;
              sound = free_sound t.front (each_front Whole t.front (t.bad ∷ t.behind) w₂) t.good;
              refused = (record_number u B t.bad v.bytes pos small v.long (fault u B t.bad)).0 (refl, t.here);
            })
      ]
    where
      kind : (r : List ℕ) → Free u B r ⊎ (¬ (Free u B r))
      kind r =
          elim (ℕ_discrete (fault u B r) 0) [
            | yes e ↦ inl e
            | no n ↦ inr n
          ]
