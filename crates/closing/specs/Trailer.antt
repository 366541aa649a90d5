-- The last bytes of an index, as closing writes them.
use Rattle.std.specs.Prelude.{ℕ, List, ◌++◌}
use Rattle.paper.specs.Bytes.{u32_bytes}
use Rattle.paper.specs.Refusal.{tag}

-- edition 1, u, B, k, D and the tag
abbrev pub trailer : ℕ → ℕ → ℕ → ℕ → List ℕ
trailer u B k D = u32_bytes 1 ++ u32_bytes u ++ u32_bytes B ++ u32_bytes k ++ u32_bytes D ++ tag
