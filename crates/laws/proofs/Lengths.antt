-- How long a record is that is written: its head, its bits, its entries and its codes.
use Prim.Native.Nat.{ℕ, ◌+◌, ◌*◌}
use mathlib.Core.Path.{◌≡◌, refl, ap, ◌∙◌}
use mathlib.Core.List.{List, ◌++◌, map, flatten}
use native.Mathlib.Omega.{arith}
use lib.ListN.{length, length-append}
use lib.Dec.{ltb, leb}
use Rattle.paper.specs.Lists.{has, keep}
use Rattle.paper.specs.Bytes.{u32_bytes}
use Rattle.paper.specs.Tail.{block_count}
use Rattle.paper.specs.Record.{bit_length}
use Rattle.paper.specs.Write.{bit_bytes, in_blocks, block_codes, skip_entries, encoded, encode}
use Rattle.laws.proofs.Octets.{bits_length}
use Rattle.laws.proofs.Entries.{entries_length}
use Rattle.laws.proofs.Cutting.{blocks_length}

module _ (B cut : ℕ) (slots : List ℕ) where
  abbrev low : List ℕ
  low = keep (λ x. leb x cut) slots

  abbrev high : List ℕ
  high = keep (λ x. ltb cut x) slots

  abbrev blocks : List (List ℕ)
  blocks = in_blocks B (block_count B (length high)) high

  abbrev codes : List ℕ
  codes = flatten (map block_codes blocks)

  abbrev head : List ℕ
  head = u32_bytes cut ++ u32_bytes (length high) ++ u32_bytes (length codes)

  head_long : length head ≡ 12
  unfolding u32_bytes
  head_long = refl

  pub encode_length : length (encode B cut slots) ≡ 12 + bit_length cut + 8 * block_count B (length high) + length codes
  unfolding encode encoded
  encode_length =
      let bits = bit_bytes (λ x. has x low) 1 (bit_length cut) in
      let entries = skip_entries 0 blocks in
      let a = length-append (head ++ bits ++ entries) codes in
      let b = length-append (head ++ bits) entries in
      let c = length-append head bits in
      let d = bits_length (λ x. has x low) (bit_length cut) 1 in
      let e : length entries ≡ 8 * block_count B (length high) =
      entries_length 0 blocks ∙ ap (λ (m : ℕ). 8 * m) (blocks_length B (block_count B (length high)) high) in
      omega (arith, head_long)
