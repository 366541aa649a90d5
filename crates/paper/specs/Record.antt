-- [The index, read from its end; Numbers of refusal] A record: a head of three numbers, then bits, then skip entries, then code bytes.
-- Its parts are taken off the front one after the other, each by what the head says.
use Rattle.std.specs.Prelude.{ℕ, zero, suc, ◌+◌, ◌-◌, ◌*◌, ◌/◌, ◌%◌, ◌^◌, Bool, ◌&&◌, List, take, drop, ltb, eqb}
use Rattle.paper.specs.Lists.{pick, keep, up_from}
use Rattle.paper.specs.Bytes.{byte_at, u32_at, ceil_div}
use Rattle.paper.specs.Tail.{Tail, block_count, read_tail}

-- The head, 12 bytes: three numbers. The first is the cut c
abbrev pub cut_of : List ℕ → ℕ
cut_of r = u32_at r 0

-- n, the tail count
abbrev pub tail_count : List ℕ → ℕ
tail_count r = u32_at r 4

-- L, the code length
abbrev pub code_length : List ℕ → ℕ
code_length r = u32_at r 8

-- the bytes of the bits: one bit for each slot up to the cut
abbrev pub bit_length : ℕ → ℕ
bit_length c = ceil_div c 8

-- the bit part of a record
abbrev pub bits_of : List ℕ → List ℕ
bits_of r = take (bit_length (cut_of r)) (drop 12 r)

-- and what stands behind it
abbrev pub behind_bits : List ℕ → List ℕ
behind_bits r = drop (bit_length (cut_of r)) (drop 12 r)

-- of what stands behind the bits, the skip entries of m blocks
abbrev pub entries_of : ℕ → List ℕ → List ℕ
entries_of m behind = take (8 * m) behind

-- and the code bytes
abbrev pub codes_of : ℕ → List ℕ → List ℕ
codes_of m behind = drop (8 * m) behind

-- where bit x is found: the byte
abbrev pub byte_of : ℕ → ℕ
byte_of x = (x - 1) / 8

-- and the digit of that byte: eight bits go to a byte, from its top digit 7 down
abbrev pub digit_of : ℕ → ℕ
digit_of x = 7 - (x - 1) % 8

-- digit s of a byte to the base 2
abbrev pub digit : ℕ → ℕ → ℕ
digit b s = b / 2 ^ s % 2

-- bit x is set
unfoldable pub bit_at : List ℕ → ℕ → Bool
bit_at bits x = eqb (digit (byte_at bits (byte_of x)) (digit_of x)) 1

-- the first of the k slots from x on whose bit is set; 0: there is none
unfoldable pub next_bit : List ℕ → ℕ → ℕ → ℕ
next_bit bits x zero = 0
next_bit bits x (suc k) = let behind = next_bit bits (x + 1) k in pick (bit_at bits x) x behind

-- how many bits of the last byte lie beyond c: none where c ends a byte, and none where c is 0
abbrev pub unused : ℕ → ℕ
unused c = 8 * bit_length c - c

-- the slots up to c whose bit is set; bits beyond c play no part
unfoldable pub slots_to_cut : ℕ → List ℕ → List ℕ
slots_to_cut c bits = keep (bit_at bits) (up_from 1 c)

-- the tail where the head says c, n and L, of what stands behind the bits
unfoldable pub tail_in : ℕ → ℕ → ℕ → ℕ → ℕ → List ℕ → Tail
tail_in u B c n L behind = let m = block_count B n in read_tail u B c n L (entries_of m behind) (codes_of m behind)

-- the tail of a record
unfoldable pub tail_of : ℕ → ℕ → List ℕ → Tail
tail_of u B r = tail_in u B (cut_of r) (tail_count r) (code_length r) (behind_bits r)

-- 6: a cut above u, a tail that has more slots than lie above the cut, codes without a tail, or parts that do not make up the record's
-- size; else what follows
unfoldable pub fault6 : ℕ → ℕ → ℕ → ℕ → ℕ → ℕ → ℕ → ℕ
fault6 u B size c n L rest =
    pick (ltb u c) 6
    (pick (ltb (u - c) n) 6
    (pick (eqb n 0 && ltb 0 L) 6
    (pick (eqb (12 + bit_length c + 8 * block_count B n + L) size) rest 6)))

-- [Order 1] 17: a bit beyond the cut c is set; else what follows
unfoldable pub fault17 : ℕ → List ℕ → ℕ → ℕ
fault17 c bits rest = pick (ltb 0 (next_bit bits (c + 1) (unused c))) 17 rest

-- the tests of a record of some size: 6, then 17, then those of the tail
unfoldable pub record_fault : ℕ → ℕ → ℕ → List ℕ → ℕ
record_fault u B size r =
    let tail = (tail_of u B r).fault in
    let behind = fault17 (cut_of r) (bits_of r) tail in
    fault6 u B size (cut_of r) (tail_count r) (code_length r) behind
