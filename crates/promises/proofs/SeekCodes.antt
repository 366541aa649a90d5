-- The codes that a search reads in its block: as many as slots of the block below x, but never more than the block has codes.
use Prim.Native.Nat.{ℕ, zero, suc, ◌+◌, ◌-◌, ◌*◌, ◌≤◌, ◌<◌, min}
use mathlib.Core.Path.{◌≡◌, refl, ap, ◌∙◌}
use mathlib.Core.List.{List, [], ◌∷◌}
use native.Mathlib.Decide.{dec_le, dec_lt}
use native.Mathlib.Numerals.{sub-one}
use native.Mathlib.Omega.{arith}
use lib.Dec.{ltb, leb}
use lib.ListN.{length, get_or, get_or-eq_default}
use borrow.Author.Tests.{lt-ltb, le-ltb, le-leb, lt-leb}
use Rattle.paper.specs.Lists.{pick, keep}
use Rattle.paper.specs.Record.{tail_of, record_fault}
use Rattle.paper.specs.Held.{Listed, listed}
use Rattle.paper.specs.Walk.{seek, seek_block, seek_in, tried, walk_list}
use Rattle.laws.proofs.Lists.{keep_pass, keep_fail}
use Rattle.laws.proofs.Seeking.{seek_here, seek_out, seek_on}
use Rattle.meaning.proofs.Rising.{Ascends}
use Rattle.meaning.proofs.Blocks.{codes_rise}
use Rattle.meaning.proofs.Chains.{block_at}
use Rattle.meaning.proofs.Sound.{blocks_of, blocks_number, block_size, block_slots, block_sound}
use Rattle.meaning.proofs.Trying.{try_bit, try_search}
use Rattle.promises.proofs.WalkCost.{search_of, searches, searches_low, searches_high}

-- how many slots are below x
abbrev pub below : ℕ → List ℕ → ℕ
below x ys = length (keep (λ y. ltb y x) ys)

-- the j-th block of a list, counted from 1; none where j is 0
abbrev pub block_of : Listed → ℕ → List ℕ
block_of l zero = []
block_of l (suc b) = get_or l.blocks b []

-- the codes to be read for x: those of its block up to the first slot that is not below x, and none where its bit is tested
abbrev pub to_read : Listed → ℕ → ℕ → ℕ
to_read l p x = let block = block_of l (search_of l p x).j in let n = min (below x block) (length block - 1) in pick (leb x l.cut) 0 n

-- those of a walk, candidate after candidate, the finger carried on
unfoldable pub read_over : Listed → ℕ → List ℕ → ℕ
read_over l p [] = 0
read_over l p (x ∷ xs) = to_read l p x + read_over l (tried l p x).finger xs

module _ (x : ℕ) where
  below_none : below x [] ≡ 0
  unfolding keep
  below_none = refl

  below_here : (y : ℕ) (ys : List ℕ) → y < x → below x (y ∷ ys) ≡ suc (below x ys)
  below_here y ys h = ap length (keep_pass (λ y. ltb y x) y ys (lt-ltb y x h))

  -- where the first slot is not below x, none is
  below_past : (u y : ℕ) (ys : List ℕ) → Ascends u y ys → x ≤ y → below x (y ∷ ys) ≡ 0
  below_past u y [] a h = ap length (keep_fail (λ y. ltb y x) y [] (le-ltb y x h)) ∙ below_none
  below_past u y (z ∷ zs) a h = ap length (keep_fail (λ y. ltb y x) y (z ∷ zs) (le-ltb y x h)) ∙ below_past u z zs a.2 (omega arith)

  -- it stops at once
  codes_stop : (u y : ℕ) (ys : List ℕ) → Ascends u y ys → x ≤ y → (seek x y ys).codes ≡ min (below x (y ∷ ys)) (length ys)
  codes_stop u y ys a l = let n = below_past u y ys a l in rw (seek_here x y ys l) (omega arith)

  -- of a block that rises
  pub seek_codes : (u y : ℕ) (ys : List ℕ) → Ascends u y ys → (seek x y ys).codes ≡ min (below x (y ∷ ys)) (length ys)
  seek_codes u y [] a =
      elim (dec_le x y) [
        | yes l ↦ codes_stop u y [] a l
        | no g ↦ rw (seek_out x y (omega arith)) (omega arith)
      ]
  seek_codes u y (z ∷ zs) a =
      elim (dec_le x y) [
        | yes l ↦ codes_stop u y (z ∷ zs) a l
        | no g ↦
            let e = seek_codes u z zs a.2 in
            let n = below_here y (z ∷ zs) (omega arith) in
            rw (seek_on x y (omega arith) z zs) (omega arith)
      ]

  -- of a whole block, the same in words of the block
  codes_of_block : (u y : ℕ) (ys : List ℕ) → Ascends u y ys → (seek_block x (y ∷ ys)).codes ≡ min (below x (y ∷ ys)) (length (y ∷ ys) - 1)
  codes_of_block u y ys a = rw sub-one (seek_codes u y ys a)

  -- and of none
  no_codes : (b : List ℕ) → b ≡ [] → (seek_block x b).codes ≡ min (below x b) (length b - 1)
  no_codes b e = rw e (let n = below_none in omega arith)

-- In a sound list
module _ (u B : ℕ) (r : List ℕ) (pos : 1 ≤ B) (ok : record_fault u B (length r) r ≡ 0) where
  abbrev list : Listed
  list = listed u B r

  abbrev block : ℕ → List ℕ
  block b = block_at (tail_of u B r).blocks b

  -- past the last block there is none
  no_block : (b : ℕ) → ¬ (b < blocks_of B r) → block b ≡ []
  no_block b g = get_or-eq_default (tail_of u B r).blocks [] {n = b} (let n = blocks_number u B r pos ok in omega arith)

  -- every block rises
  sound_codes : (x b : ℕ) → (seek_block x (block b)).codes ≡ min (below x (block b)) (length (block b) - 1)
  sound_codes x b =
      elim (dec_lt b (blocks_of B r)) [
        | yes l ↦ rw (block_slots u B r pos ok b l) (codes_of_block x u _ _ (codes_rise u _ _ _ (block_sound u B r pos ok b l)))
        | no g ↦ no_codes x _ (no_block b g)
      ]

  -- and has B slots at most
  sound_size : (b : ℕ) → length (block b) ≤ B
  sound_size b =
      elim (dec_lt b (blocks_of B r)) [
        | yes l ↦ let s = block_size u B r pos ok b l in omega arith
        | no g ↦ let e = ap length (no_block b g) in omega arith
      ]

  list_codes : (x j : ℕ) → (seek_in list.blocks x j).codes ≡ min (below x (block_of list j)) (length (block_of list j) - 1)
  unfolding seek_in listed
  list_codes x zero = no_codes x [] refl
  list_codes x (suc b) = sound_codes x b

  list_size : (j : ℕ) → length (block_of list j) ≤ B
  unfolding listed
  list_size zero = omega arith
  list_size (suc b) = sound_size b

  module _ (p x : ℕ) where
    -- THE CODES OF A SEARCH: the slots of block j below x, but at most one less than the block has slots
    pub try_codes : list.cut < x
        → (tried list p x).codes ≡ min (below x (block_of list (search_of list p x).j)) (length (block_of list (search_of list p x).j) - 1)
    try_codes h = rw (try_search list p x h) (list_codes x (search_of list p x).j)

    -- so at most B − 1
    search_codes : list.cut < x → (tried list p x).codes ≤ B - 1
    search_codes h = let e = try_codes h in let s = list_size (search_of list p x).j in omega arith

    -- and none up to the cut
    bit_codes : x ≤ list.cut → (tried list p x).codes ≡ 0
    bit_codes h = rw (try_bit list p x h)

    -- either way
    pub try_few : (tried list p x).codes ≤ B - 1
    try_few =
        elim (dec_le x list.cut) [
          | yes a ↦ let e = bit_codes a in omega arith
          | no a ↦ search_codes (omega arith)
        ]

  -- THE CODES READ FOR ONE CANDIDATE
  try_read : (p x : ℕ) → (tried list p x).codes ≡ to_read list p x
  try_read p x =
      elim (dec_le x list.cut) [
        | yes a ↦ rw (le-leb x list.cut a) (bit_codes p x a)
        | no a ↦ let h : list.cut < x = omega arith in rw (lt-leb x list.cut h) (try_codes p x h)
      ]

  -- and by a walk
  pub walk_read : (xs : List ℕ) (p : ℕ) → (walk_list list p xs).codes ≡ read_over list p xs
  unfolding walk_list read_over
  walk_read [] p = refl
  walk_read (x ∷ xs) p = let e = try_read p x in let r = walk_read xs (tried list p x).finger in omega arith

  -- THE CODES OF A WALK: no more than B − 1 a search
  pub walk_codes : (xs : List ℕ) (p : ℕ) → (walk_list list p xs).codes ≤ (B - 1) * searches list xs
  unfolding walk_list
  walk_codes [] p = omega arith
  walk_codes (x ∷ xs) p =
      let r = walk_codes xs (tried list p x).finger in
      elim (dec_le x list.cut) [
        | yes a ↦ let e = bit_codes p x a in rw (searches_low list x xs a) (omega arith)
        | no a ↦ let e = search_codes p x (omega arith) in rw (searches_high list x xs (omega arith)) (omega arith)
      ]
