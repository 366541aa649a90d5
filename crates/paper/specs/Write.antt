-- [The index, read from its end; Numbers of refusal] How a record is made: its bytes, the refusals, the buffer afterwards.
use Rattle.std.specs.Prelude.{ℕ, zero, suc, ◌+◌, ◌-◌, ◌*◌, ◌≡◌, Bool, length, get_or, take, drop, ltb, leb}
use mathlib.Core.List.{List, [], ◌∷◌, ◌++◌, map, flatten}
use Rattle.paper.specs.Lists.{bit_of, has, keep, on_front}
use Rattle.paper.specs.Bytes.{u32_bytes}
use Rattle.paper.specs.Code.{code_bytes}
use Rattle.paper.specs.Tail.{block_count}
use Rattle.paper.specs.Record.{bit_length}
use Rattle.paper.specs.Refusal.{accepted, if_accepted, fault4, fault12, fault13, fault15}
use Rattle.paper.specs.declared.Verdict.{Verdict}
use Rattle.paper.specs.declared.Written.{Written}

-- the byte of bits x to x + 7, bit x on top: a bit is set where the test passes
unfoldable pub octet : (ℕ → Bool) → ℕ → ℕ
octet t x =
    128 * bit_of (t x) + 64 * bit_of (t (x + 1)) + 32 * bit_of (t (x + 2)) + 16 * bit_of (t (x + 3)) + 8 * bit_of (t (x + 4)) + 4 * bit_of (t (x + 5))
    + 2 * bit_of (t (x + 6)) + bit_of (t (x + 7))

-- k bytes of bits, from bit x on
unfoldable pub bit_bytes : (ℕ → Bool) → ℕ → ℕ → List ℕ
bit_bytes t x zero = []
bit_bytes t x (suc k) = octet t x ∷ bit_bytes t (x + 8) k

-- m blocks of B slots, the last perhaps shorter
unfoldable pub in_blocks : ℕ → ℕ → List ℕ → List (List ℕ)
in_blocks B zero xs = []
in_blocks B (suc m) xs = take B xs ∷ in_blocks B m (drop B xs)

-- the codes of the slots xs behind the slot prev: how many slots each leaps over
unfoldable pub gap_codes : ℕ → List ℕ → List ℕ
gap_codes prev [] = []
gap_codes prev (x ∷ xs) = code_bytes (x - prev - 1) ++ gap_codes x xs

-- the codes of a block, whose first slot has none
unfoldable pub block_codes : List ℕ → List ℕ
block_codes [] = []
block_codes (x ∷ xs) = gap_codes x xs

-- the skip entries of blocks whose codes begin at offset a: a block's first slot, and where its codes begin
unfoldable pub skip_entries : ℕ → List (List ℕ) → List ℕ
skip_entries a [] = []
skip_entries a (b ∷ bs) = u32_bytes (get_or b 0 0) ++ u32_bytes a ++ skip_entries (a + length (block_codes b)) bs

-- the record of a cut c, whose bits are the slots low and whose tail is the slots high
unfoldable pub encoded : ℕ → ℕ → List ℕ → List ℕ → List ℕ
encoded B c low high =
    let blocks = in_blocks B (block_count B (length high)) high in
    let codes = flatten (map block_codes blocks) in
    u32_bytes c ++ u32_bytes (length high) ++ u32_bytes (length codes) ++ bit_bytes (λ x. has x low) 1 (bit_length c) ++ skip_entries 0 blocks ++ codes

-- ascending slots, parted at the cut
unfoldable pub encode : ℕ → ℕ → List ℕ → List ℕ
encode B cut slots = encoded B cut (keep (λ x. leb x cut) slots) (keep (λ x. ltb cut x) slots)

-- 4 of u and B, 15, 13, 12
unfoldable pub write_fault : ℕ → ℕ → ℕ → List ℕ → ℕ → Verdict
write_fault u B cut slots room =
    let last = fault12 room (length (encode B cut slots)) accepted in
    fault4 u B (fault15 u cut (fault13 u slots last))

-- the answer of writing, and of closing: how long the thing is that was made
unfoldable pub written_with : Verdict → ℕ → Written
written_with v size = record { number = v.number; place = v.place; length = if_accepted v size 0 }

-- the answer: the length of the record
unfoldable pub write_answer : ℕ → ℕ → ℕ → List ℕ → ℕ → Written
write_answer u B cut slots room = let size = length (encode B cut slots) in written_with (write_fault u B cut slots room) size

-- the buffer afterwards: the record at its front, and what stood behind it; a refusal leaves it as it was
unfoldable pub write_buffer : ℕ → ℕ → ℕ → List ℕ → List ℕ → List ℕ
write_buffer u B cut slots before =
    let after = on_front (encode B cut slots) before in
    if_accepted (write_fault u B cut slots (length before)) after before

-- the promise of writing
pub record MeetsWrite (u B cut : ℕ) (slots before : List ℕ) (answer : Written) (after : List ℕ) : Type 0 where
  pub answers : answer ≡ write_answer u B cut slots (length before)
  pub leaves : after ≡ write_buffer u B cut slots before
