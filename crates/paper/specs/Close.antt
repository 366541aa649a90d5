-- [Numbers of refusal] Closing: a buffer whose first D bytes are records, with k starts, becomes an index.
use Rattle.std.specs.Prelude.{ℕ, ◌≡◌, length, get_or, take}
use mathlib.Core.List.{List, ◌++◌, map, flatten}
use Rattle.paper.specs.Lists.{on_front}
use Rattle.paper.specs.Bytes.{u32_bytes}
use Rattle.paper.specs.Refusal.{if_accepted, tag, fault1, fault4, fault4k, finished, starts_fault, fault12}
use Rattle.paper.specs.Look.{list_fault, lists_fault}
use Rattle.paper.specs.Write.{written_with}
use Rattle.paper.specs.declared.Verdict.{Verdict}
use Rattle.paper.specs.declared.Written.{Written}

-- where record i starts; behind the last record, D
abbrev pub start_in : List ℕ → ℕ → ℕ → ℕ
start_in starts D i = get_or starts i D

-- 4; 1 of the finished length; 12; 5, which can only come from the starts; then the lists in turn, by the order of looking
unfoldable pub close_fault : List ℕ → ℕ → ℕ → ℕ → List ℕ → Verdict
close_fault before u B D starts =
    let k = length starts in
    let lists = lists_fault (list_fault u B) before (start_in starts D) k 0 in
    let late = fault12 (length before) (finished D k) (starts_fault (start_in starts D) k lists) in
    fault4 u B (fault4k k (fault1 (finished D k) late))

-- what is written behind the records: the directory, then the trailer, of edition 1
unfoldable pub frame_bytes : ℕ → ℕ → ℕ → List ℕ → List ℕ
frame_bytes u B D starts =
    flatten (map u32_bytes starts) ++ u32_bytes 1 ++ u32_bytes u ++ u32_bytes B ++ u32_bytes (length starts) ++ u32_bytes D ++ tag

-- the answer: the size of the finished index
unfoldable pub close_answer : List ℕ → ℕ → ℕ → ℕ → List ℕ → Written
close_answer before u B D starts = written_with (close_fault before u B D starts) (finished D (length starts))

-- the buffer afterwards: the records as they lay, directory and trailer, and what stood behind; a refusal leaves it as it was
unfoldable pub close_buffer : List ℕ → ℕ → ℕ → ℕ → List ℕ → List ℕ
close_buffer before u B D starts =
    let after = on_front (take D before ++ frame_bytes u B D starts) before in
    if_accepted (close_fault before u B D starts) after before

-- the promise of closing
pub record MeetsClose (before : List ℕ) (u B D : ℕ) (starts : List ℕ) (answer : Written) (after : List ℕ) : Type 0 where
  pub answers : answer ≡ close_answer before u B D starts
  pub leaves : after ≡ close_buffer before u B D starts
