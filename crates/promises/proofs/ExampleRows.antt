-- The rows of the tables of examples. The definitions were held against every row where the tables are; so what is so of every row that holds is so of
-- each of theirs, of the one at a place, and of the one with a label.
use Prim.Native.Nat.{ℕ, zero, suc}
use mathlib.Core.Path.{◌≡◌, refl, ap}
use mathlib.Core.Bool.{Bool, true, false}
use mathlib.Core.List.{List, [], ◌∷◌}
use native.Mathlib.Omega.{arith}
use lib.Dec.{eqb}
use lib.ListN.{length, get_or}
use Rattle.paper.specs.Lists.{pick}
use Rattle.paper.specs.declared.Written.{Written}
use Rattle.paper.proofs.Open.{opened}
use Rattle.paper.proofs.Rows.{Row, holds, failing, judged}
use Rattle.paper.proofs.Rows.Row.{uncoding}
use Rattle.paper.proofs.Table.{table, table_holds}
use Rattle.paper.proofs.Readings.{readings, readings_hold}
use Rattle.laws.proofs.Lists.{Each}

-- each row of a table is so
abbrev pub EachRow : (Row → Type 0) → List (ℕ × Row) → Type 0
EachRow P rows = Each (λ (r : ℕ × Row). P r.1) rows

-- the row at position i; behind the last there is one of no bytes and no code, which says nothing
abbrev pub row_at : List (ℕ × Row) → ℕ → Row
row_at rows i = (get_or rows i (0, uncoding [])).1

-- the row with this label
unfoldable pub labelled : List (ℕ × Row) → ℕ → Row
labelled [] n = uncoding []
labelled (r ∷ rs) n = let on = labelled rs n in pick (eqb r.0 n) r.1 on

none_holds : holds (uncoding []) ≡ true
unfolding opened judged
none_holds = refl

-- what is so of every row that holds
module _ (P : Row → Type 0) (of_row : (row : Row) → holds row ≡ true → P row) where
  -- is so of each row of a table of which none fails
  each_row : (rows : List (ℕ × Row)) → failing rows ≡ [] → EachRow P rows
  unfolding failing
  each_row [] e = tt
  each_row (r ∷ rs) e = go (each_row rs) (holds r.1) refl e
    where
      go : (failing rs ≡ [] → EachRow P rs) → (t : Bool) → holds r.1 ≡ t → pick t (failing rs) (r.0 ∷ failing rs) ≡ [] → P r.1 × EachRow P rs
      go on true h f = (of_row r.1 h, on f)
      go on false h f = absurd (let z : ◌≡◌ {A = ℕ} (suc (length (failing rs))) 0 = ap length f in omega arith)

  at_row : (rows : List (ℕ × Row)) → EachRow P rows → (i : ℕ) → P (row_at rows i)
  at_row [] e i = of_row (uncoding []) none_holds
  at_row (r ∷ rs) e zero = e.0
  at_row (r ∷ rs) e (suc i) = at_row rs e.1 i

  labelled_row : (rows : List (ℕ × Row)) → EachRow P rows → (n : ℕ) → P (labelled rows n)
  unfolding labelled
  labelled_row [] e n = of_row (uncoding []) none_holds
  labelled_row (r ∷ rs) e n = go (eqb r.0 n) e.0 (labelled_row rs e.1 n)
    where
      go : (t : Bool) → P r.1 → P (labelled rs n) → P (pick t r.1 (labelled rs n))
      go true p q = p
      go false p q = q

  -- of the paper's table
  pub all_table : EachRow P table
  all_table = each_row table table_holds

  -- and of the paper's other examples and those for what its own do not see
  pub all_readings : EachRow P readings
  all_readings = each_row readings readings_hold

  -- in the first by place: some of its labels stand twice
  pub in_table : (i : ℕ) → P (row_at table i)
  in_table = at_row table all_table

  -- in the second by label
  pub in_readings : (n : ℕ) → P (labelled readings n)
  in_readings = labelled_row readings all_readings

-- the three numbers of an answer of writing or closing, in the order in which the tables print them
abbrev pub numbers_of : Written → List ℕ
numbers_of w = w.number ∷ w.place ∷ w.length ∷ []
