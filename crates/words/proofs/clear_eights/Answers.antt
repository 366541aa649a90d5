use borrow.Author.Rules.{rules}
use borrow.Author.Tests.{tests}
use Rattle.std.proofs.lemmas.Iterator.{IsFirst-from_position, YieldsList-from_slice}
use Rattle.words.proofs.Chunks.{Empty}
use Rattle.words.proofs.Nexts.{eights_passed}
use Rattle.words.proofs.clear_eights.Goals as goal

pub returns : goal.returns
returns c =
    let a = c.args in
    let eights = c.as_chunks.result.0.now in
    rw c.unwrap_or.ensures
    (eights_passed a.bits.now a.at a.to c.requires.0 c.requires.1 eights c.as_chunks.ensures.front c.as_chunks.ensures.front_len c.position-clear.result
    (IsFirst-from_position _ _ _ (λ xs. ¬ (Empty xs)) Empty c.position-clear.ensures.ran (YieldsList-from_slice eights (search rules)) (λ x q k. search (rules, tests)) (λ x q k. search (rules, tests))))
