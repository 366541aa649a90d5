-- A slot tried in an accepted record: that the answer is the list's next slot from it on, and so the slot itself exactly where the list holds it; and
-- where the finger goes.
use Prim.Native.Nat.{ℕ, zero, suc, ◌+◌, ◌-◌, ◌≤◌, ◌<◌}
use mathlib.Core.Path.{◌≡◌, refl, sym, ap, subst, ◌∙◌}
use mathlib.Core.List.{List}
use native.Mathlib.Decide.{dec_le}
use native.Mathlib.Omega.{arith}
use lib.ListN.{length}
use lib.Dec.{eqb}
use borrow.Author.Tests.{le-leb, lt-leb}
use Rattle.paper.specs.Lists.{has, first_from}
use Rattle.paper.specs.Tail.{first_slot}
use Rattle.paper.specs.Record.{cut_of, tail_count, code_length, next_bit, tail_of, record_fault}
use Rattle.paper.specs.Held.{Listed, contents, listed, entry_of}
use Rattle.paper.specs.Search.{searched, looks_of}
use Rattle.paper.specs.Walk.{Seek, seek, seek_block, seek_in, or_behind, tried}
use Rattle.meaning.proofs.Blocks.{codes_read}
use Rattle.meaning.proofs.Sound as sound
use Rattle.meaning.proofs.Sound.{blocks_of, skips_of, code_bytes_of}
use Rattle.meaning.proofs.Rising.{first_has}
use Rattle.meaning.proofs.Seeks.{seek_first}
use Rattle.meaning.proofs.Greatest.{Greatest, search_right}

-- where j is 0 nothing is read
pub none_sought : (blocks : List (List ℕ)) (x : ℕ) → seek_in blocks x 0 ≡ record { slot = 0; codes = 0 }
unfolding seek_in
none_sought blocks x = refl

module _ (l : Listed) (p x : ℕ) where
  -- up to the cut the bits answer, and then the first block
  pub try_bit : x ≤ l.cut → tried l p x ≡ record { slot = or_behind l 0 (next_bit l.bits x (l.cut + 1 - x)); finger = p; looks = 0; codes = 0 }
  unfolding tried
  try_bit h = simp (le-leb x l.cut h)

  -- above the cut the search, then block j, and then the block behind it
  pub try_search : l.cut < x → let t = searched (entry_of l.cut l.entries) x l.m p in
      let b = seek_in l.blocks x t.j in
      tried l p x ≡ record { slot = or_behind l t.j b.slot; finger = t.j; looks = looks_of t; codes = b.codes }
  unfolding tried
  try_search h = simp (lt-leb x l.cut h)

module _ (u B : ℕ) (r : List ℕ) (pos : 1 ≤ B) (ok : record_fault u B (length r) r ≡ 0) where
  -- from 1 on, block j is read: its first slot, and then its codes
  block_sought : (x b : ℕ) → b < blocks_of B r → seek_in (tail_of u B r).blocks x (suc b)
      ≡ seek x (first_slot (skips_of B r) b) (codes_read u B (code_length r) (blocks_of B r) (tail_count r) (skips_of B r) (code_bytes_of B r) b).slots
  unfolding seek_in
  block_sought x b h = ap (seek_block x) (sound.block_slots u B r pos ok b h)

  -- s(0), s(1) .. s(m)
  abbrev s : ℕ → ℕ
  s = entry_of (cut_of r) (skips_of B r)

  module _ (x p : ℕ) (above : cut_of r < x) where
    -- the block before the first entry above x is the one that x can stand in; where it runs out, that entry is the next slot
    block_next : (j : ℕ) → Greatest s x (blocks_of B r) p j
        → first_from x (contents u B r) ≡ or_behind (listed u B r) j (seek_in (tail_of u B r).blocks x j).slot
    unfolding entry_of
    block_next zero g = sound.next_before u B r pos ok x (omega arith) above (λ l. g.after 1 (omega arith) l) ∙ rw none_sought
    block_next (suc b) g =
        let in-m = g.below in
        let next : suc b ≡ b + 1 = omega arith in
        sound.next_in u B r pos ok x (omega arith) above b in-m g.good
        (λ l. subst (λ (k : ℕ). x < first_slot (skips_of B r) k) next (g.after (suc (suc b)) (omega arith) (omega arith)))
        ∙ ap (or_behind (listed u B r) (suc b))
        (ap (first_from x) (sound.block_slots u B r pos ok b in-m) ∙ sym (seek_first x _ _) ∙ ap (λ (t : Seek). t.slot) (sym (block_sought x b in-m)))

  -- A slot x, tried with the finger at p
  module _ (x p : ℕ) where
    -- up to the cut the finger stays
    pub finger_stays : x ≤ cut_of r → (tried (listed u B r) p x).finger ≡ p
    unfolding listed
    finger_stays h = rw (try_bit (listed u B r) p x h)

    -- above it the finger goes where the search ends
    finger_moves : cut_of r < x → (tried (listed u B r) p x).finger ≡ (searched s x (blocks_of B r) p).j
    unfolding listed
    finger_moves h = rw (try_search (listed u B r) p x h)

    -- from a finger that is good wherever there is a search
    module _ (within : p ≤ blocks_of B r) (good : cut_of r < x → s p ≤ x) where
      greatest : cut_of r < x → Greatest s x (blocks_of B r) p (searched s x (blocks_of B r) p).j
      greatest h = search_right s x (blocks_of B r) p within (good h) (sound.entry_rise u B r pos ok)

      -- the finger is not past m
      pub finger_within : (tried (listed u B r) p x).finger ≤ blocks_of B r
      finger_within =
          elim (dec_le x (cut_of r)) [
            | yes h ↦ rw (finger_stays h) within
            | no g ↦ let h : cut_of r < x = omega arith in rw (finger_moves h) (greatest h).below
          ]

      -- and after a search its entry is not above x
      pub finger_good : cut_of r < x → s (tried (listed u B r) p x).finger ≤ x
      finger_good h = rw (finger_moves h) (greatest h).good

      -- THE NEXT SLOT: the answer is the list's first slot that is not below x
      pub try_next : 0 < x → (tried (listed u B r) p x).slot ≡ first_from x (contents u B r)
      unfolding listed
      try_next some =
          elim (dec_le x (cut_of r)) [
            | yes h ↦ rw (try_bit (listed u B r) p x h) (sym (sound.next_bits u B r pos ok x some h))
            | no g ↦
                let h : cut_of r < x = omega arith in
                rw (try_search (listed u B r) p x h) (sym (block_next x p h _ (greatest h)))
          ]

      -- so A SLOT IS FOUND, being itself the next one, exactly where the list holds it
      pub try_found : 0 < x → eqb (tried (listed u B r) p x).slot x ≡ has x (contents u B r)
      try_found some = ap (λ (y : ℕ). eqb y x) (try_next some) ∙ sym (first_has u 0 x (contents u B r) some (sound.contents_rise u B r pos ok))

  -- with the finger at 0 too
  module _ (x : ℕ) (some : 0 < x) where
    -- the next slot
    pub next_is : (tried (listed u B r) 0 x).slot ≡ first_from x (contents u B r)
    unfolding entry_of
    next_is = try_next x 0 (omega arith) (λ h. omega arith) some

    -- whether x is found
    pub holds_is : eqb (tried (listed u B r) 0 x).slot x ≡ has x (contents u B r)
    unfolding entry_of
    holds_is = try_found x 0 (omega arith) (λ h. omega arith) some
