-- What writing a record goes by: its refusals but 12, the blocks of its tail with their code bytes, and where its parts lie.
use Rattle.std.specs.Prelude.{ℕ, suc, ◌+◌, ◌*◌, ◌≤◌, ◌<◌, ◌≡◌, length, get_or}
use mathlib.Core.List.{List, flatten, map}
use Rattle.paper.specs.Lists.{has}
use Rattle.paper.specs.Refusal.{accepted, fault4, fault13, fault15}
use Rattle.paper.specs.Tail.{block_count}
use Rattle.paper.specs.Record.{bit_length}
use Rattle.paper.specs.Write.{bit_bytes, in_blocks, block_codes, encode}
use Rattle.paper.specs.declared.Verdict.{Verdict}
use Rattle.meaning.proofs.Rising.{Ascends}
use Rattle.meaning.proofs.Parting.{up_to, above}
use Rattle.pack.specs.declared.Layout.{Layout}

-- of the first i slots each is above the one before it
pub record RisesTo (slots : List ℕ) (i : ℕ) : Type 0 where
  pub each : (k : ℕ) → suc k < i → get_or slots k 0 < get_or slots (suc k) 0

-- 4 of u and B, 15, 13
abbrev pub before_room : ℕ → ℕ → ℕ → List ℕ → Verdict
before_room u B cut slots = fault4 u B (fault15 u cut (fault13 u slots accepted))

-- k bytes of bits, of which those of the slots low are set
unfoldable pub bits_for : List ℕ → ℕ → List ℕ
bits_for low k = bit_bytes (λ x. has x low) 1 k

-- slots above a cut, in blocks of B
abbrev pub blocks_for : ℕ → List ℕ → List (List ℕ)
blocks_for B xs = in_blocks B (block_count B (length xs)) xs

-- their code bytes
abbrev pub tail_codes : ℕ → List ℕ → List ℕ
tail_codes B xs = flatten (map block_codes (blocks_for B xs))

-- what writing may take for granted where nothing but 12 can be refused. No difference of slots is too large for a code
pub record Judged (B cut : ℕ) (slots : List ℕ) : Type 0 where
  pub some : 0 < B
  pub cut_within : cut ≤ 1048576
  pub rising : Ascends 1048576 0 slots

-- a record of these slots has its parts where the layout says
pub record LaidOut (B cut : ℕ) (slots : List ℕ) (lay : Layout) : Type 0 where
  pub low : lay.low ≡ length (up_to cut slots)
  pub entries : lay.entries ≡ 12 + bit_length cut
  pub codes : lay.codes ≡ lay.entries + 8 * block_count B (length (above cut slots))
  pub end : lay.end ≡ lay.codes + length (tail_codes B (above cut slots))
  -- and the last part ends where the record does
  pub size : lay.end ≡ length (encode B cut slots)
  pub small : lay.end ≤ 16777216
