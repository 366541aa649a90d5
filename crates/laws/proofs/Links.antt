-- The rows of the table as links, from behind: where a test passes, what follows is the answer; where it fails, its number is. `x` is a number as
-- it was read, and r is an answer. One law for each way a test can go; and before them, what all links have in common.
use Prim.Native.Nat.{ℕ, ◌+◌, ◌*◌, ◌-◌, ◌≤◌, ◌<◌}
use mathlib.Core.Path.{◌≡◌, refl, sym, ap, ◌∙◌}
use mathlib.Core.Bool.{Bool, true, false}
use mathlib.Core.List.{List}
use native.Mathlib.Omega.{arith}
use lib.Dec.{ltb, eqb}
use lib.ListN.{length, drop}
use borrow.Author.Tests.{lt-ltb, le-ltb, eq-eqb, ne_eqb}
use Rattle.paper.specs.Lists.{pick, same, leading}
use Rattle.paper.specs.Refusal.{verdict, accepted, within, tag, good_slots, too_short, starts_fault, fault1, fault2, fault3, fault4, fault4k, fault5, fault10, fault11, fault12, fault13, fault13n, fault14, fault15, fault16}
use Rattle.paper.specs.Fault.{number_of}
use Rattle.paper.specs.declared.Verdict.{Verdict}
use Rattle.paper.specs.declared.refusal.Fault.{Fault}
use Rattle.laws.proofs.Faults.{no_zero}

-- x in lo..hi
module _ (lo hi x : ℕ) (v rest : Verdict) where
  -- too small
  pub low : x < lo → v ≡ within lo hi x v rest
  low l = simp (lt-ltb _ _ l)

  module _ (g : lo ≤ x) where
    high : hi < x → v ≡ within lo hi x v rest
    high l = simp (le-ltb _ _ g, lt-ltb _ _ l)

    -- within
    pub between : x ≤ hi → (r : Verdict) → r ≡ rest → r ≡ within lo hi x v rest
    between l r e = e ∙ simp (le-ltb _ _ g, le-ltb _ _ l)

-- A LINK refuses whatever follows, or hands on whatever follows
pub data Link (f : Verdict → Verdict) : Type 0 where
  refuses : (v : Verdict) → ¬ (v.number ≡ 0) → ((rest : Verdict) → f rest ≡ v) → Link f
  passes : ((rest : Verdict) → f rest ≡ rest) → Link f

-- one that refuses where a test says so
link_test : (t : Bool) (v : Verdict) → ¬ (v.number ≡ 0) → Link (λ rest. pick t v rest)
link_test true v n = refuses v n (λ rest. refl)
link_test false v n = passes (λ rest. refl)

-- one that refuses where a test does not say so
link_unless : (t : Bool) (v : Verdict) → ¬ (v.number ≡ 0) → Link (λ rest. pick t rest v)
link_unless true v n = passes (λ rest. refl)
link_unless false v n = refuses v n (λ rest. refl)

-- one behind another
link_then : (f g : Verdict → Verdict) → Link f → Link g → Link (λ rest. f (g rest))
link_then f g (refuses v n e) q = refuses v n (λ rest. e (g rest))
link_then f g (passes e) (refuses v n d) = refuses v n (λ rest. e (g rest) ∙ d rest)
link_then f g (passes e) (passes d) = passes (λ rest. e (g rest) ∙ d rest)

-- v is what a link says with nothing behind it
module _ (f : Verdict → Verdict) (link : Link f) (v : Verdict) (is : v ≡ f accepted) (rest : Verdict) where
  -- where it refuses, it refuses so with anything behind it
  pub link_bad : ¬ (v.number ≡ 0) → f rest ≡ v
  link_bad n =
      elim link [
        | refuses w k e ↦ e rest ∙ sym (is ∙ e accepted)
        | passes e ↦ absurd (n (ap (λ (w : Verdict). w.number) (is ∙ e accepted)))
      ]

  -- and where it does not, what is behind it counts
  pub link_good : v.number ≡ 0 → f rest ≡ rest
  link_good z =
      elim link [
        | refuses w k e ↦ absurd (k (sym (ap (λ (w : Verdict). w.number) (is ∙ e accepted)) ∙ z))
        | passes e ↦ e rest
      ]

-- where nothing is refused, neither a link refuses nor what is behind it
pub link_both : (f : Verdict → Verdict) → Link f → (rest : Verdict) → (f rest).number ≡ 0 → ((f accepted).number ≡ 0) × (rest.number ≡ 0)
link_both f (refuses v n e) rest z = absurd (n (sym (ap (λ (w : Verdict). w.number) (e rest)) ∙ z))
link_both f (passes e) rest z = (ap (λ (w : Verdict). w.number) (e accepted), sym (ap (λ (w : Verdict). w.number) (e rest)) ∙ z)

-- a range
link_within : (lo hi x n : ℕ) → ¬ (n ≡ 0) → Link (λ rest. within lo hi x (verdict n 0) rest)
link_within lo hi x n k = link_then _ _ (link_test (ltb x lo) (verdict n 0) k) (link_test (ltb hi x) (verdict n 0) k)

-- 1
link_1 : (size : ℕ) → Link (fault1 size)
unfolding fault1
link_1 size = link_within 24 16777216 size 1 (λ e. omega arith)

-- 4 of u and B
link_4 : (u B : ℕ) → Link (fault4 u B)
unfolding fault4
link_4 u B = link_then _ _ (link_within 1 1048576 u 4 (λ e. omega arith)) (link_within 1 128 B 4 (λ e. omega arith))

-- 4 of k
link_4k : (k : ℕ) → Link (fault4k k)
unfolding fault4k
link_4k k = link_within 1 4096 k 4 (λ e. omega arith)

-- 5 of the starts
link_starts : (start : ℕ → ℕ) (k : ℕ) → Link (starts_fault start k)
unfolding starts_fault
link_starts start k =
    link_then _ _ (link_unless (eqb (start 0) 0) (verdict 5 0) (λ e. omega arith)) (link_test (too_short start k 0) (verdict 5 0) (λ e. omega arith))

-- 10
link_10 : (names : List ℕ) → Link (fault10 names)
unfolding fault10
link_10 names = link_within 1 16 (length names) 10 (λ e. omega arith)

-- 11
link_11 : (k : ℕ) (names : List ℕ) → Link (fault11 k names)
unfolding fault11
link_11 k names =
    let good = leading (λ i. ltb i k) names in
    link_test (ltb good (length names)) (verdict 11 good) (λ e. omega arith)

-- 12
link_12 : (room need : ℕ) → Link (fault12 room need)
unfolding fault12
link_12 room need = link_test (ltb room need) (verdict 12 need) (λ e. omega arith)

-- 13
link_13 : (u : ℕ) (slots : List ℕ) → Link (fault13 u slots)
unfolding fault13
link_13 u slots = link_test (ltb (good_slots u 0 slots) (length slots)) (verdict 13 (good_slots u 0 slots)) (λ e. omega arith)

-- 14
link_14 : (way : ℕ) → Link (fault14 way)
unfolding fault14
link_14 way = link_test (ltb 1 way) (verdict 14 0) (λ e. omega arith)

-- 15
link_15 : (u cut : ℕ) → Link (fault15 u cut)
unfolding fault15
link_15 u cut = link_test (ltb u cut) (verdict 15 0) (λ e. omega arith)

-- the way and the names of a question: 14, 10, 11
pub link_names : (k way : ℕ) (names : List ℕ) → Link (λ rest. fault14 way (fault10 names (fault11 k names rest)))
link_names k way names = link_then _ _ (link_14 way) (link_then _ _ (link_10 names) (link_11 k names))

-- a record to be written, up to its room: 4, 15, 13
pub link_written : (u B cut : ℕ) (slots : List ℕ) → Link (λ rest. fault4 u B (fault15 u cut (fault13 u slots rest)))
link_written u B cut slots = link_then _ _ (link_4 u B) (link_then _ _ (link_15 u cut) (link_13 u slots))

-- an index to be closed, up to its lists: 4, 1, 12, 5
pub link_closed : (room u B size k : ℕ) (start : ℕ → ℕ)
    → Link (λ rest. fault4 u B (fault4k k (fault1 size (fault12 room size (starts_fault start k rest)))))
link_closed room u B size k start =
    link_then _ _ (link_4 u B) (link_then _ _ (link_4k k) (link_then _ _ (link_1 size) (link_then _ _ (link_12 room size) (link_starts start k))))

module _ (rest : Verdict) where
  module _ (size : ℕ) where
    -- 1: too few bytes
    pub one_small : size < 24 → verdict 1 0 ≡ fault1 size rest
    unfolding fault1
    one_small l = low 24 16777216 size _ _ l

    module _ (g : 24 ≤ size) where
      -- too many
      pub one_large : 16777216 < size → verdict 1 0 ≡ fault1 size rest
      unfolding fault1
      one_large l = high 24 16777216 size _ _ g l

      -- as many as there may be
      pub one : size ≤ 16777216 → (r : Verdict) → r ≡ rest → r ≡ fault1 size rest
      unfolding fault1
      one l r e = between 24 16777216 size _ _ g l r e

  module _ (bs : List ℕ) (t : Bool) (is : t ≡ same (drop (length bs - 4) bs) tag) where
    -- 2: another tag
    pub two_other : t ≡ false → verdict 2 0 ≡ fault2 bs rest
    unfolding fault2
    two_other f = simp (sym is ∙ f)

    -- the tag
    pub two : t ≡ true → (r : Verdict) → r ≡ rest → r ≡ fault2 bs rest
    unfolding fault2
    two f r e = e ∙ simp (sym is ∙ f)

  module _ (edition x : ℕ) (is : x ≡ edition) where
    -- 3: another edition
    pub three_other : ¬ (x ≡ 1) → verdict 3 0 ≡ fault3 edition rest
    unfolding fault3
    three_other n = simp (← is, ne_eqb _ _ n)

    -- edition 1
    pub three : x ≡ 1 → (r : Verdict) → r ≡ rest → r ≡ fault3 edition rest
    unfolding fault3
    three n r e = e ∙ simp (← is, eq-eqb _ _ n)

  module _ (u B : ℕ) where
    -- 4: u is 0
    pub four_u_small : u < 1 → verdict 4 0 ≡ fault4 u B rest
    unfolding fault4
    four_u_small l = low 1 1048576 u _ _ l

    module _ (g : 1 ≤ u) where
      -- u is too large
      pub four_u_large : 1048576 < u → verdict 4 0 ≡ fault4 u B rest
      unfolding fault4
      four_u_large l = high 1 1048576 u _ _ g l

      module _ (l : u ≤ 1048576) where
        -- B is 0
        pub four_b_small : B < 1 → verdict 4 0 ≡ fault4 u B rest
        unfolding fault4
        four_b_small m = between 1 1048576 u _ _ g l _ (low 1 128 B _ _ m)

        module _ (h : 1 ≤ B) where
          -- B is too large
          pub four_b_large : 128 < B → verdict 4 0 ≡ fault4 u B rest
          unfolding fault4
          four_b_large m = between 1 1048576 u _ _ g l _ (high 1 128 B _ _ h m)

          -- u and B lie within their bounds
          pub four_within : B ≤ 128 → (r : Verdict) → r ≡ rest → r ≡ fault4 u B rest
          unfolding fault4
          four_within m r e = between 1 1048576 u _ _ g l _ (between 1 128 B _ _ h m r e)

  -- 4 of u and B, where they were judged by themselves
  module _ (u B x y : ℕ) (isU : x ≡ u) (is_b : y ≡ B) where
    -- they are refused
    pub four_bad : (f : Fault) → verdict (number_of f) 0 ≡ fault4 x y accepted → verdict (number_of f) 0 ≡ fault4 u B rest
    four_bad f judged = rw (← isU, ← is_b) (sym (link_bad (fault4 x y) (link_4 x y) _ judged rest (no_zero f)))

    -- they lie within their bounds
    pub four : accepted ≡ fault4 x y accepted → (r : Verdict) → r ≡ rest → r ≡ fault4 u B rest
    four judged r e = e ∙ rw (← isU, ← is_b) (sym (link_good (fault4 x y) (link_4 x y) _ judged rest refl))

  module _ (k : ℕ) where
    -- 4: there is no list
    pub four_k_small : k < 1 → verdict 4 0 ≡ fault4k k rest
    unfolding fault4k
    four_k_small l = low 1 4096 k _ _ l

    module _ (g : 1 ≤ k) where
      -- there are too many
      pub four_k_large : 4096 < k → verdict 4 0 ≡ fault4k k rest
      unfolding fault4k
      four_k_large l = high 1 4096 k _ _ g l

      -- k lies within its bounds
      pub four_k_within : k ≤ 4096 → (r : Verdict) → r ≡ rest → r ≡ fault4k k rest
      unfolding fault4k
      four_k_within l r e = between 1 4096 k _ _ g l r e

  -- 4 of k, where it was judged by itself
  module _ (k x : ℕ) (is : x ≡ k) where
    -- it is refused
    pub four_k_bad : (f : Fault) → verdict (number_of f) 0 ≡ fault4k x accepted → verdict (number_of f) 0 ≡ fault4k k rest
    four_k_bad f judged = rw (← is) (sym (link_bad (fault4k x) (link_4k x) _ judged rest (no_zero f)))

    -- it lies within its bounds
    pub four_k : accepted ≡ fault4k x accepted → (r : Verdict) → r ≡ rest → r ≡ fault4k k rest
    four_k judged r e = e ∙ rw (← is) (sym (link_good (fault4k x) (link_4k x) _ judged rest refl))

  module _ (size D k : ℕ) (start : ℕ → ℕ) (x y : ℕ) (isD : x ≡ D) (isK : y ≡ k) where
    -- 5: the parts do not make up the length
    pub five_sum : ¬ (x + 4 * y + 24 ≡ size) → verdict 5 0 ≡ fault5 size D k start rest
    unfolding fault5
    five_sum n = simp (← isD, ← isK, ne_eqb _ _ n)

    -- they do, and the starts are next
    pub five : x + 4 * y + 24 ≡ size → (r : Verdict) → r ≡ starts_fault start y rest → r ≡ fault5 size D k start rest
    unfolding fault5
    five n r e = e ∙ simp (← isD, ← isK, eq-eqb _ _ n)

  module _ (start : ℕ → ℕ) (k x : ℕ) (is : x ≡ start 0) where
    -- the first list does not start at 0
    pub five_first : ¬ (x ≡ 0) → verdict 5 0 ≡ starts_fault start k rest
    unfolding starts_fault
    five_first n = simp (← is, ne_eqb _ _ n)

    module _ (z : x ≡ 0) (t : Bool) (isT : t ≡ too_short start k 0) where
      -- it does, but a record is too short
      pub five_short : t ≡ true → verdict 5 0 ≡ starts_fault start k rest
      unfolding starts_fault
      five_short e = simp (← is, eq-eqb _ _ z, sym isT ∙ e)

      -- no record is
      pub five_starts : t ≡ false → (r : Verdict) → r ≡ rest → r ≡ starts_fault start k rest
      unfolding starts_fault
      five_starts f r e = e ∙ simp (← is, eq-eqb _ _ z, sym isT ∙ f)

  module _ (u x y : ℕ) (is : y ≡ u) where
    -- 16: slot 0
    pub sixteen_small : x < 1 → verdict 16 0 ≡ fault16 u x rest
    unfolding fault16
    sixteen_small l = low 1 u x _ _ l

    module _ (g : 1 ≤ x) where
      -- a slot above u
      pub sixteen_large : y < x → verdict 16 0 ≡ fault16 u x rest
      unfolding fault16
      sixteen_large l = high 1 u x _ _ g (rw (← is) l)

      -- a slot in 1..u
      pub sixteen : x ≤ y → (r : Verdict) → r ≡ rest → r ≡ fault16 u x rest
      unfolding fault16
      sixteen l r e = between 1 u x _ _ g (rw (← is) l) r e

  module _ (way : ℕ) where
    -- 14: another way
    pub fourteen_other : 1 < way → verdict 14 0 ≡ fault14 way rest
    unfolding fault14
    fourteen_other l = simp (lt-ltb _ _ l)

    -- way 0 or 1
    pub fourteen : way ≤ 1 → (r : Verdict) → r ≡ rest → r ≡ fault14 way rest
    unfolding fault14
    fourteen l r e = e ∙ simp (le-ltb _ _ l)

    -- where it was judged by itself, it is refused
    pub fourteen_bad : (f : Fault) → verdict (number_of f) 0 ≡ fault14 way accepted → verdict (number_of f) 0 ≡ fault14 way rest
    fourteen_bad f judged = sym (link_bad (fault14 way) (link_14 way) _ judged rest (no_zero f))

    -- or known
    pub fourteen_good : accepted ≡ fault14 way accepted → (r : Verdict) → r ≡ rest → r ≡ fault14 way rest
    fourteen_good judged r e = e ∙ sym (link_good (fault14 way) (link_14 way) _ judged rest refl)

  module _ (names : List ℕ) where
    -- 10: no name
    pub ten_none : length names < 1 → verdict 10 0 ≡ fault10 names rest
    unfolding fault10
    ten_none l = low 1 16 (length names) _ _ l

    module _ (g : 1 ≤ length names) where
      -- too many names
      pub ten_many : 16 < length names → verdict 10 0 ≡ fault10 names rest
      unfolding fault10
      ten_many l = high 1 16 (length names) _ _ g l

      -- 1 to 16 names
      pub ten : length names ≤ 16 → (r : Verdict) → r ≡ rest → r ≡ fault10 names rest
      unfolding fault10
      ten l r e = between 1 16 (length names) _ _ g l r e

    module _ (k x good : ℕ) (is : x ≡ k) (isG : good ≡ leading (λ i. ltb i x) names) where
      -- 11: `good` names are below k, and the next is not
      pub eleven_bad : good < length names → verdict 11 good ≡ fault11 k names rest
      unfolding fault11
      eleven_bad l = rw (← is, ← isG) (simp (lt-ltb _ _ l))

      -- all names are below k
      pub eleven : length names ≤ good → (r : Verdict) → r ≡ rest → r ≡ fault11 k names rest
      unfolding fault11
      eleven l r e = e ∙ rw (← is, ← isG) (simp (le-ltb _ _ l))

  module _ (u cut : ℕ) where
    -- 15: a cut above u
    pub fifteen_above : u < cut → verdict 15 0 ≡ fault15 u cut rest
    unfolding fault15
    fifteen_above l = simp (lt-ltb _ _ l)

    -- a cut up to u
    pub fifteen : cut ≤ u → (r : Verdict) → r ≡ rest → r ≡ fault15 u cut rest
    unfolding fault15
    fifteen l r e = e ∙ simp (le-ltb _ _ l)

  module _ (u : ℕ) (slots : List ℕ) (good : ℕ) (isG : good ≡ good_slots u 0 slots) where
    -- 13: `good` slots rise within u, and the next does not
    pub thirteen_bad : good < length slots → verdict 13 good ≡ fault13 u slots rest
    unfolding fault13
    thirteen_bad l = rw (← isG) (simp (lt-ltb _ _ l))

    -- all slots do
    pub thirteen : length slots ≤ good → (r : Verdict) → r ≡ rest → r ≡ fault13 u slots rest
    unfolding fault13
    thirteen l r e = e ∙ rw (← isG) (simp (le-ltb _ _ l))

  module _ (left n : ℕ) where
    -- 13: more slots than the cut leaves
    pub thirteen_many : left < n → verdict 13 0 ≡ fault13n left n rest
    unfolding fault13n
    thirteen_many l = simp (lt-ltb _ _ l)

    -- not more
    pub thirteen_few : n ≤ left → (r : Verdict) → r ≡ rest → r ≡ fault13n left n rest
    unfolding fault13n
    thirteen_few l r e = e ∙ simp (le-ltb _ _ l)

  module _ (room need : ℕ) where
    -- 12: too little room
    pub twelve_small : room < need → verdict 12 need ≡ fault12 room need rest
    unfolding fault12
    twelve_small l = simp (lt-ltb _ _ l)

    -- room enough
    pub twelve : need ≤ room → (r : Verdict) → r ≡ rest → r ≡ fault12 room need rest
    unfolding fault12
    twelve l r e = e ∙ simp (le-ltb _ _ l)

-- the links of 1 and 2
pub ruleset frame_links = (one_small, one_large, one, two_other, two)

-- of 4, u and B by themselves
pub ruleset size_links = (four_u_small, four_u_large, four_b_small, four_b_large, four_within)

-- of k by itself
pub ruleset count_links = (four_k_small, four_k_large, four_k_within)

-- of 3 to 5, up to the starts
pub ruleset number_links = (three_other, three, four_bad, four, four_k_bad, four_k, five_sum, five)

-- of the starts
pub ruleset start_links = (five_first, five_short, five_starts)

-- of the way by itself
pub ruleset way_links = (fourteen_other, fourteen)

-- of the way and the names of a question
pub ruleset name_links = (fourteen_bad, fourteen_good, ten_none, ten_many, ten, eleven_bad, eleven)

-- of a record to be written, up to its room
pub ruleset write_links = (four_bad, four, fifteen_above, fifteen, thirteen_bad, thirteen)

-- of a record whose bound is told
pub ruleset bound_links = (four_bad, four, fifteen_above, fifteen, thirteen_many, thirteen_few)
