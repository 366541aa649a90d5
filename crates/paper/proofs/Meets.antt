-- For each operation, a right answer on the paper's index meets the operation's promise. A promise fixes the whole answer and every lent buffer.
use mathlib.Core.Path.{refl}
use mathlib.Core.Bool.{true}
use mathlib.Core.List.{[], ◌∷◌, ◌++◌}
use lib.ListN.{replicate}
use Rattle.paper.specs.Refusal.{verdict}
use Rattle.paper.specs.Look.{MeetsLook}
use Rattle.paper.specs.Ask.{MeetsAsk}
use Rattle.paper.specs.OneList.{MeetsTest, MeetsNext, MeetsCount, MeetsLend, MeetsPart}
use Rattle.paper.specs.Write.{MeetsWrite}
use Rattle.paper.specs.Reserve.{MeetsBound}
use Rattle.paper.specs.Close.{MeetsClose}
use Rattle.paper.specs.declared.Answer.{Answer}
use Rattle.paper.proofs.Hex.{list0, list1, index, slots0}
use Rattle.paper.proofs.Open.{opened}
use Rattle.paper.proofs.Rows.{room}

-- T1's answer: all was spent in list 0, at position 0, and list 1 gave the candidates
abbrev t1 : Answer
t1 = record { number = 0; place = 0; count = 5; looks = 9; codes = 14; looks16 = 9 ∷ replicate 15 0; codes16 = 14 ∷ replicate 15 0 }

pub record Met : Type 0 where
  pub look : MeetsLook index (verdict 0 0)
  pub ask : MeetsAsk index 1 (0 ∷ 1 ∷ []) (room 8) t1 (5 ∷ 12 ∷ 16 ∷ 26 ∷ 30 ∷ 0 ∷ 0 ∷ 0 ∷ [])
  pub test : MeetsTest index 0 30 (record { number = 0; place = 0; yes = true })
  pub next : MeetsNext index 0 9 (record { number = 0; place = 0; slot = 12 })
  pub count : MeetsCount index 1 (record { number = 0; place = 0; count = 7 })
  pub lend : MeetsLend index 1 list1
  pub part : MeetsPart index 1 (record { number = 0; place = 0; start = 55; length = 24 })
  pub write : MeetsWrite 32 4 0 slots0 (room 57) (record { number = 0; place = 0; length = 55 }) (list0 ++ room 2)
  pub bound : MeetsBound 32 4 16 3 (record { number = 0; place = 0; bytes = 24 })
  pub close : MeetsClose (list0 ++ list1 ++ room 32) 32 4 79 (0 ∷ 55 ∷ []) (record { number = 0; place = 0; length = 111 }) index

pub met : Met
unfolding opened
met =
    record {
      look = refl;
      ask = record { answers = refl; leaves = refl };
      test = refl;
      next = refl;
      count = refl;
      lend = refl;
      part = refl;
      write = record { answers = refl; leaves = refl };
      bound = refl;
      close = record { answers = refl; leaves = refl };
    }
