-- [Numbers of refusal] Rows 6 to 9 and 17 of the table, said of one record's bytes by what is written there and not by how it is read: what stands
-- before the fault is sound, byte for byte as it would be written, and then comes the fault. The rows are gone through in the order in
-- which an index is looked at, so that at most one number is given. Then which slots a record holds, said in the same way.
-- `RoundsUp x y m`: m is x / y, rounded up. `Ascends u p xs`: the slots xs rise, each above the one before, the first above p, none above u.
use Prim.Native.Nat.{ℕ, ◌+◌, ◌-◌, ◌*◌, ◌%◌, ◌≤◌, ◌<◌, min}
use mathlib.Core.Path.{◌≡◌}
use mathlib.Core.Bool.{Bool, true, false}
use mathlib.Core.List.{List, [], ◌∷◌, ◌++◌, map, flatten}
use lib.ListN.{length}
use Rattle.paper.specs.Bytes.{u32_bytes}
use Rattle.paper.specs.Code.{code_bytes}
use Rattle.paper.specs.Write.{bit_bytes, in_blocks, gap_codes, block_codes, skip_entries}
use Rattle.laws.proofs.Rounding.{RoundsUp}
use Rattle.meaning.proofs.Rising.{Ascends}

-- the last slot of xs, or p where there is none
abbrev pub newest : ℕ → List ℕ → ℕ
newest p [] = p
newest p (x ∷ xs) = newest x xs

-- x is above all of these
abbrev pub AboveAll : ℕ → List ℕ → Type 0
AboveAll x [] = Unit {0}
AboveAll x (y ∷ ys) = (y < x) × AboveAll x ys

-- every block has B slots
abbrev pub Full : ℕ → List (List ℕ) → Type 0
Full B [] = Unit {0}
Full B (b ∷ bl) = (length b ≡ B) × Full B bl

-- each byte says that another follows
abbrev pub LeadOn : List ℕ → Type 0
LeadOn [] = Unit {0}
LeadOn (b ∷ bs) = (128 ≤ b) × LeadOn bs

-- the code bytes of blocks, one block's behind the other's
abbrev pub all_codes : List (List ℕ) → List ℕ
all_codes bl = flatten (map block_codes bl)

-- Row 8, of the code that begins here; these are the bytes up to its block's end
pub data Ill (bytes : List ℕ) : Type 0 where
  -- it is not ended in its block
  unended : LeadOn bytes → Ill bytes
  -- it is over three bytes: three of them, and another follows
  over : (three r : List ℕ) → bytes ≡ three ++ r → length three ≡ 3 → LeadOn three → Ill bytes
  -- it is longer than one byte, and its last byte is zero
  zero_last : (front r : List ℕ) → bytes ≡ front ++ 0 ∷ r → 1 ≤ length front → LeadOn front → Ill bytes

-- The codes of the slots xs stand at the front of some bytes, and rest behind them. The slots are sound, and prev is the one before them
pub record SoundCodes (u prev : ℕ) (bytes xs rest : List ℕ) : Type 0 where
  -- each code is a difference less one, as written
  pub are : bytes ≡ gap_codes prev xs ++ rest
  -- no slot is above u
  pub rising : Ascends u prev xs

-- Rows 8 and 9, of the k codes of a block behind its first slot prev: the codes of xs are sound, and then
pub data CodesRefused (u k prev : ℕ) (bytes : List ℕ) : ℕ → Type 0 where
  -- 8: a code is to follow, and what stands there is none
  ill : (xs rest : List ℕ) → SoundCodes u prev bytes xs rest → length xs < k → Ill rest → CodesRefused u k prev bytes 8
  -- 9: the code of v follows, and leads to a slot above u
  above : (xs rest : List ℕ) (v : ℕ) → SoundCodes u prev bytes xs (code_bytes v ++ rest) → length xs < k → v < 2097152 → u < newest prev xs + v + 1
      → CodesRefused u k prev bytes 9
  -- 8: those were all, and bytes remain
  remain : (xs rest : List ℕ) → SoundCodes u prev bytes xs rest → length xs ≡ k → ¬ (rest ≡ []) → CodesRefused u k prev bytes 8

-- The blocks bl are sound, and stand before a block. Entries and codes begin with those of bl, the codes at offset a. Of n slots above c,
-- `left` are those behind bl; `first` and `start` are what the block's entry says, `more` are the entries behind it, and `own` the code bytes
-- from the start of its codes on
pub record Before (u B c n a : ℕ) (entries codes : List ℕ) (bl : List (List ℕ)) (left first start : ℕ) (more own : List ℕ) : Type 0 where
  -- the blocks bl are of B slots each
  pub full : Full B bl
  -- and slots are left for the block
  pub count : length (flatten bl) + left ≡ n
  pub some : 1 ≤ left
  -- the slots of bl rise above c, and none is above u
  pub rising : Ascends u c (flatten bl)
  -- the entries of bl are as written, and the block's stands behind them
  pub entered : entries ≡ skip_entries a bl ++ u32_bytes first ++ u32_bytes start ++ more
  pub first_word : first < 4294967296
  -- the codes of bl are as written, and end where the block's start
  pub coded : codes ≡ all_codes bl ++ own
  pub start_is : start ≡ a + length (all_codes bl)

-- z is the end of a block's codes, where `left` slots are left and `more` are the entries behind its own
pub data Ends (B L left : ℕ) (more : List ℕ) : ℕ → Type 0 where
  -- L for the last block
  at_last : left ≤ B → Ends B L left more L
  -- else the next block's offset
  at_next : (x z : ℕ) (r : List ℕ) → B < left → z < 4294967296 → more ≡ u32_bytes x ++ u32_bytes z ++ r → Ends B L left more z

-- What is wrong with a block whose codes go from start to z, where `left` slots are left; `earlier` are c and all slots before the block
pub data BlockFault (u B L : ℕ) (earlier : List ℕ) (left first start z : ℕ) (own : List ℕ) : ℕ → Type 0 where
  -- 7: the end is before the start
  back : z < start → BlockFault u B L earlier left first start z own 7
  -- 7: or beyond L
  beyond : L < z → BlockFault u B L earlier left first start z own 7
  -- 9: the first slot does not lie above the cut and everything read so far
  low : start ≤ z → z ≤ L → ¬ (AboveAll first earlier) → BlockFault u B L earlier left first start z own 9
  -- 9: or it is above u
  high : start ≤ z → z ≤ L → u < first → BlockFault u B L earlier left first start z own 9
  -- 8 or 9: the bytes from start to z are not the codes of its other slots, which are one less than B, or than are left
  inner : {f : ℕ} (bytes r : List ℕ) → start ≤ z → z ≤ L → AboveAll first earlier → first ≤ u → own ≡ bytes ++ r → start + length bytes ≡ z
      → CodesRefused u (min B left - 1) first bytes f → BlockFault u B L earlier left first start z own f

-- Rows 7 to 9, of the tail of n slots above c, given its entries and its L code bytes
pub data TailRefused (u B c n L : ℕ) (entries codes : List ℕ) : ℕ → Type 0 where
  -- 7: the first offset is not 0
  offset : (x start : ℕ) (more : List ℕ) → entries ≡ u32_bytes x ++ u32_bytes start ++ more → start < 4294967296 → ¬ (start ≡ 0)
      → TailRefused u B c n L entries codes 7
  -- 7, 8 or 9: some block is the first that is wrong
  block : {f : ℕ} (bl : List (List ℕ)) (left first start z : ℕ) (more own : List ℕ) → Before u B c n 0 entries codes bl left first start more own
      → Ends B L left more z → BlockFault u B L (c ∷ flatten bl) left first start z own f → TailRefused u B c n L entries codes f

-- The head of a record, and then rest
pub record Head (r : List ℕ) (c n L : ℕ) (rest : List ℕ) : Type 0 where
  -- the cut c, the tail count n and the code length L
  pub is : r ≡ u32_bytes c ++ u32_bytes n ++ u32_bytes L ++ rest
  -- each in four bytes
  pub cut_word : c < 4294967296
  pub count_word : n < 4294967296
  pub code_word : L < 4294967296

-- Row 6, of a record of some size with this head
pub data HeadRefused (u B size c n L : ℕ) : Type 0 where
  -- c > u
  cut_above : u < c → HeadRefused u B size c n L
  -- n > u - c
  count_above : u < c + n → HeadRefused u B size c n L
  -- n = 0 with L > 0
  codes_alone : n ≡ 0 → 0 < L → HeadRefused u B size c n L
  -- the parts do not sum to the size: the head, w bytes of bits, m entries, L code bytes
  sum_wrong : (w m : ℕ) → RoundsUp c 8 w → RoundsUp n B m → ¬ (12 + w + 8 * m + L ≡ size) → HeadRefused u B size c n L

-- Row 6 does not apply, and the record has the parts that its head says
pub record Parts (u B : ℕ) (r : List ℕ) (c n L : ℕ) (bits entries codes : List ℕ) : Type 0 where
  -- they make up the record
  pub head : Head r c n L (bits ++ entries ++ codes)
  -- c is at most u, and n at most u - c
  pub few : c + n ≤ u
  -- no tail, no codes
  pub no_codes : n ≡ 0 → L ≡ 0
  -- c / 8 bytes of bits, rounded up
  pub bits_long : RoundsUp c 8 (length bits)
  -- m blocks, n / B rounded up, and an entry of 8 bytes for each
  pub m : ℕ
  pub blocks : RoundsUp n B m
  pub entries_long : length entries ≡ 8 * m
  -- L code bytes
  pub codes_long : length codes ≡ L

-- That is: it has some such parts
pub record InParts (u B : ℕ) (r : List ℕ) : Type 0 where
  pub c : ℕ
  pub n : ℕ
  pub L : ℕ
  pub bits : List ℕ
  pub entries : List ℕ
  pub codes : List ℕ
  pub parts : Parts u B r c n L bits entries codes

-- Row 17, of the bytes of bits of a record with the cut c: the cut ends inside a byte, and beyond it, in that byte, a bit is set
pub record Rubbish (c : ℕ) (bits : List ℕ) : Type 0 where
  pub inside : ¬ (c % 8 ≡ 0)
  -- the bits that the bytes are written from
  pub t : ℕ → Bool
  pub written : bits ≡ bit_bytes t 1 (length bits)
  -- one of them is beyond the cut, and no further than the last byte
  pub x : ℕ
  pub beyond : c < x
  pub within : x ≤ 8 * length bits
  pub set : t x ≡ true

-- Row 17 does not apply: the bytes are written from bits of which none beyond the cut is set
pub record Tidy (c : ℕ) (bits : List ℕ) : Type 0 where
  pub t : ℕ → Bool
  pub written : bits ≡ bit_bytes t 1 (length bits)
  pub unset : (x : ℕ) → c < x → t x ≡ false

-- Row 17 applies to a record: row 6 does not, so that it has the parts that its head says, and its bits have rubbish
pub record Stained (u B : ℕ) (r : List ℕ) : Type 0 where
  pub whole : InParts u B r
  pub rubbish : Rubbish whole.c whole.bits

-- ROWS 6 TO 9 AND 17, of a record of at least 12 bytes: the number f is the one given
pub data RecordRefused (u B : ℕ) (r : List ℕ) : ℕ → Type 0 where
  -- row 6 applies
  six : (c n L : ℕ) (rest : List ℕ) → Head r c n L rest → HeadRefused u B (length r) c n L → RecordRefused u B r 6
  -- or it does not, and row 17 applies
  seventeen : Stained u B r → RecordRefused u B r 17
  -- or neither does, and the tail is refused
  tail : {f : ℕ} (c n L : ℕ) (bits entries codes : List ℕ) → Parts u B r c n L bits entries codes → Tidy c bits → TailRefused u B c n L entries codes f
      → RecordRefused u B r f

-- NO ROW of 6 to 9 and 17: the record is written from a cut, from bytes of bits with none set beyond the cut, and from slots above the cut in blocks
-- of B
pub record RecordSound (u B : ℕ) (r : List ℕ) : Type 0 where
  pub cut : ℕ
  pub bits : List ℕ
  pub slots : List ℕ
  pub m : ℕ
  -- the cut is at most u
  pub cut_within : cut ≤ u
  -- there is a bit for each slot up to the cut, in whole bytes; none beyond the cut is set
  pub bits_long : RoundsUp cut 8 (length bits)
  pub tidy : Tidy cut bits
  -- the slots rise above the cut, and none is above u
  pub rising : Ascends u cut slots
  -- they are in m blocks, all of B slots but perhaps the last
  pub blocks : RoundsUp (length slots) B m
  -- and the bytes are the head, the bits, the entries and the codes
  pub is : r
      ≡ u32_bytes cut ++ u32_bytes (length slots) ++ u32_bytes (length (all_codes (in_blocks B m slots))) ++ bits ++ skip_entries 0 (in_blocks B m slots)
      ++ all_codes (in_blocks B m slots)

-- WHICH SLOTS A RECORD HOLDS, by the same parts

-- the codes of some numbers, one behind the other
abbrev pub codes_for : List ℕ → List ℕ
codes_for vs = flatten (map code_bytes vs)

-- each of them fits a code: it has at most three digits to the base 128
abbrev pub Small : List ℕ → Type 0
Small [] = Unit {0}
Small (v ∷ vs) = (v < 2097152) × Small vs

-- where they lead from the slot s: each is a difference from the slot before, less one
abbrev pub led_to : ℕ → List ℕ → ℕ
led_to s [] = s
led_to s (v ∷ vs) = led_to (s + v + 1) vs

-- The slot x is one of the n slots with these entries and codes, in blocks of B
pub record Among (B n : ℕ) (entries codes : List ℕ) (x : ℕ) : Type 0 where
  -- block j has its entry behind j others: it says the first slot, and where the codes start
  pub j : ℕ
  pub first : ℕ
  pub start : ℕ
  pub others : List ℕ
  pub more : List ℕ
  pub entry : entries ≡ others ++ u32_bytes first ++ u32_bytes start ++ more
  pub place : length others ≡ 8 * j
  pub first_word : first < 4294967296
  pub start_word : start < 4294967296
  -- the codes of these numbers stand there
  pub gaps : List ℕ
  pub skipped : List ℕ
  pub rest : List ℕ
  pub coded : codes ≡ skipped ++ codes_for gaps ++ rest
  pub offset : length skipped ≡ start
  pub small : Small gaps
  -- the block has more slots than there are of them
  pub in_block : length gaps < B
  pub in_tail : j * B + length gaps < n
  -- and they lead from the first slot to x
  pub is : x ≡ led_to first gaps

-- The slot x stands in the tail of a record
pub record InTail (u B : ℕ) (r : List ℕ) (x : ℕ) : Type 0 where
  pub whole : InParts u B r
  pub among : Among B whole.n whole.entries whole.codes x

-- The slot x stands in a record: up to the cut by its bit, which is what the bytes of bits are written from; above it in the tail
pub data Holds (u B : ℕ) (r : List ℕ) (x : ℕ) : Type 0 where
  by_bit : (c n L : ℕ) (bits entries codes : List ℕ) (t : ℕ → Bool) → Parts u B r c n L bits entries codes → bits ≡ bit_bytes t 1 (length bits)
      → 1 ≤ x → x ≤ c → t x ≡ true → Holds u B r x
  in_tail : InTail u B r x → Holds u B r x
