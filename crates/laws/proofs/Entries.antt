-- Skip entries: what an entry at the front of some bytes says, what stands behind it, and those of blocks, as they are written.
use Prim.Native.Nat.{ℕ, ◌+◌, ◌-◌, ◌*◌, ◌≤◌, ◌<◌}
use mathlib.Core.Path.{◌≡◌, refl, sym, ap, ◌∙◌}
use mathlib.Core.List.{List, [], ◌∷◌, ◌++◌}
use native.Mathlib.Omega.{arith}
use lib.ListN.{length, get_or, drop, length-drop}
use lib.Seq.{drop-drop}
use borrow.Author.Tests.{eq-eqb, ne_eqb}
use Rattle.paper.specs.Bytes.{u32_at, u32_bytes}
use Rattle.paper.specs.Tail.{first_slot, offset_of, end_of}
use Rattle.paper.specs.Write.{block_codes, skip_entries}
use Rattle.laws.proofs.Parts.{AllBytes, all_drop, all_join, all_none}
use Rattle.laws.proofs.Words.{word_is, word_read, word_drop, all_word}

-- an entry that is written
module _ (x a : ℕ) (r : List ℕ) where
  -- the first slot is the number written first
  pub entry_first : x < 4294967296 → first_slot (u32_bytes x ++ (u32_bytes a ++ r)) 0 ≡ x
  entry_first small = word_read x (u32_bytes a ++ r) small

  -- eight bytes on, what follows begins
  pub entry_behind : drop 8 (u32_bytes x ++ (u32_bytes a ++ r)) ≡ r
  unfolding u32_bytes
  entry_behind = refl

  -- the offset is the number written second
  pub entry_offset : a < 4294967296 → offset_of (u32_bytes x ++ (u32_bytes a ++ r)) 0 ≡ a
  unfolding u32_bytes u32_at
  entry_offset small = word_read a r small

-- the offset of the next entry is the first offset of what is left
next_offset : (es : List ℕ) → offset_of es 1 ≡ offset_of (drop 8 es) 0
next_offset es = sym (word_drop 8 es 4)

-- eight bytes are an entry
pub entry_is : (es : List ℕ) → AllBytes es → 8 ≤ length es → es ≡ u32_bytes (first_slot es 0) ++ (u32_bytes (offset_of es 0) ++ drop 8 es)
entry_is es all h =
    let l : length (drop 4 es) ≡ length es - 4 = length-drop 4 es in
    let w = word_is (drop 4 es) (all_drop 4 es all) (omega arith) in
    word_is es all (omega arith) ∙ ap (λ (t : List ℕ). u32_bytes (u32_at es 0) ++ t) (w ∙ rw (word_drop 4 es 0, drop-drop 4 4 es))

-- Where the codes of a block end, k blocks being behind it: those of the last block at L
pub last_end : (L : ℕ) (es : List ℕ) (k : ℕ) → k ≡ 0 → end_of L es k ≡ L
last_end L es k z = simp (eq-eqb _ _ z)

-- those of another where the next entry says
pub next_end : (L : ℕ) (es : List ℕ) (k : ℕ) → 1 ≤ k → end_of L es k ≡ offset_of (drop 8 es) 0
next_end L es k h = let i : ¬ (k ≡ 0) = omega arith in simp (ne_eqb _ _ i) (next_offset es)

-- the entries of blocks are eight bytes for each
pub entries_length : (a : ℕ) (bl : List (List ℕ)) → length (skip_entries a bl) ≡ 8 * length bl
unfolding skip_entries u32_bytes
entries_length a [] = refl
entries_length a (b ∷ bl) = let r = entries_length (a + length (block_codes b)) bl in omega arith

-- all of them bytes
pub all_entry_bytes : (a : ℕ) (bl : List (List ℕ)) → AllBytes (skip_entries a bl)
unfolding skip_entries
all_entry_bytes a [] = all_none
all_entry_bytes a (b ∷ bl) =
    let rest = skip_entries (a + length (block_codes b)) bl in
    all_join (u32_bytes (get_or b 0 0) ++ u32_bytes a) rest (all_join (u32_bytes (get_or b 0 0)) (u32_bytes a) (all_word (get_or b 0 0)) (all_word a))
    (all_entry_bytes (a + length (block_codes b)) bl)
