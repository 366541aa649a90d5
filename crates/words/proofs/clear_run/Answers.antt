use borrow.Author.Rules.{rules}
use Rattle.words.proofs.Nexts.{clear_byte, clear_whole}
use Rattle.words.proofs.clear_run.Goals as goal

pub returns-then-to_end-lt8 : goal.returns-then-to_end-lt8
returns-then-to_end-lt8 c = (search rules, search rules, search (clear_byte, rules))

pub returns-then-eights-eq0 : goal.returns-then-eights-eq0
returns-then-eights-eq0 c = (search rules, search rules, search (clear_whole, rules))
