-- The small program offers room for 16,384 slots and no more: a sound file whose one list holds slots 1 to 16,385 is refused with 12 and
-- that count. The file is too large for a row among many, so it has a claim of its own.
use Prim.Native.Nat.{ℕ}
use mathlib.Core.Path.{◌≡◌, refl}
use mathlib.Core.Option.{some}
use mathlib.Core.List.{List, [], ◌∷◌, ◌++◌}
use lib.ListN.{length}
use Rattle.paper.specs.Lists.{up_from}
use Rattle.paper.specs.Write.{encode}
use Rattle.paper.specs.Close.{frame_bytes}
use Rattle.paper.specs.Program.{program}
use Rattle.paper.proofs.Hex.{hex}
use Rattle.paper.proofs.Open.{opened}

-- one list with slots 1 to n
unfoldable pub file : ℕ → List ℕ
file n = let r = encode 128 0 (up_from 1 n) in r ++ frame_bytes 20000 128 (length r) (0 ∷ [])

-- the program is given `1 0` and prints `12 16385 0 0`
pub no_room : program (some (file 16385)) (hex 3 0x31_20_30) ≡ hex 13 0x31_32_20_31_36_33_38_35_20_30_20_30_0A
unfolding opened file
no_room = refl
