-- [The index, read from its end; Numbers of refusal] The tail: blocks of B slots, a skip entry for each. One reading gives the sound
-- blocks at the front and the number of the fault that ends them, 7 to 9. Looking goes by the fault, all else by the blocks.
use Rattle.std.specs.Prelude.{ℕ, zero, suc, ◌+◌, ◌-◌, ◌*◌, min, List, [], ◌∷◌, take, drop, ltb, leb, eqb}
use Rattle.paper.specs.Lists.{pick, last_of}
use Rattle.paper.specs.Bytes.{u32_at, ceil_div}
use Rattle.paper.specs.Block.{Block, read_codes}

-- the sound blocks at the front, and the fault behind them (0: there is none)
pub record Tail : Type 0 where
  pub fault : ℕ
  pub blocks : List (List ℕ)

-- a fault, or the end, before any block
abbrev pub stop : ℕ → Tail
stop n = record { fault = n; blocks = [] }

-- the block xs, and then what t says
abbrev pub join : List ℕ → Tail → Tail
join xs t = record { fault = t.fault; blocks = xs ∷ t.blocks }

-- the tail stops at a faulty block, and goes on with the slots of a sound one
abbrev pub on_block : Block → (List ℕ → Tail) → Tail
on_block b f = pick (eqb b.fault 0) (f b.slots) (stop b.fault)

-- m, the number of blocks and of skip entries, of n slots
abbrev pub block_count : ℕ → ℕ → ℕ
block_count B n = ceil_div n B

-- the skip entry of block b, counted from 0: the slot that the block begins with
abbrev pub first_slot : List ℕ → ℕ → ℕ
first_slot es b = u32_at es (8 * b)

-- where its codes begin among the code bytes
abbrev pub offset_of : List ℕ → ℕ → ℕ
offset_of es b = u32_at es (8 * b + 4)

-- where the codes of the block at the front of es end, k blocks being behind it: at the next block's offset, or at L
abbrev pub end_of : ℕ → List ℕ → ℕ → ℕ
end_of L es k = pick (eqb k 0) L (offset_of es 1)

-- k blocks with n slots, behind the slot prev: es are their entries, cs the code bytes from offset a on, where their codes begin.
-- Each block is judged whole before the next: 7 where its codes would run backwards or past L; 9 where its first slot does not rise above
-- prev or leaves 1..u; then what its codes say
unfoldable pub read_blocks : ℕ → ℕ → ℕ → ℕ → ℕ → ℕ → ℕ → List ℕ → List ℕ → Tail
read_blocks u B L zero n prev a es cs = stop 0
read_blocks u B L (suc k) n prev a es cs =
    let first = first_slot es 0 in
    let z = end_of L es k in
    pick (ltb z a) (stop 7)
    (pick (ltb L z) (stop 7)
    (pick (leb first prev) (stop 9)
    (pick (ltb u first) (stop 9)
    (on_block (read_codes u (min B n - 1) first (take (z - a) cs)) λ slots.
    join (first ∷ slots) (read_blocks u B L k (n - B) (last_of first slots) z (drop 8 es) (drop (z - a) cs))))))

-- the tail of n slots above the cut c: 7 unless the codes of block 0 begin at 0. (With no block there is no entry, and past the end 0 is read)
unfoldable pub read_tail : ℕ → ℕ → ℕ → ℕ → ℕ → List ℕ → List ℕ → Tail
read_tail u B c n L es cs =
    let blocks = read_blocks u B L (block_count B n) n c 0 es cs in
    pick (eqb (offset_of es 0) 0) blocks (stop 7)
