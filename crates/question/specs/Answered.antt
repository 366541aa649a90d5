-- What the steps of a question hand on to each other, and what they answer.
use Rattle.std.specs.Prelude.{ℕ, ◌-◌, ◌≡◌, List, [], ◌++◌, map, length, get_or, take, replicate}
use Rattle.paper.specs.Lists.{total}
use Rattle.paper.specs.Index.{u_of, block_length}
use Rattle.paper.specs.Held.{contents}
use Rattle.paper.specs.Question.{Charge, positions, in_order, places}
use Rattle.paper.specs.Ask.{named, answer_slots, costs}
use Rattle.paper.specs.declared.Answer.{Answer}
use Rattle.record.specs.Front.{Front}

-- the positions of the names by rising count stand in `order`
abbrev pub Ordered : List ℕ → List ℕ → List ℕ → Type 0
Ordered index names order = take (length names) order ≡ positions (named index names)

-- the slots of the smallest list named stand at the front
abbrev pub Gathered : List ℕ → List ℕ → ℕ → List ℕ → Type 0
Gathered index names count s = Front (contents (u_of index) (block_length index) (get_or (in_order (named index names)) 0 [])) count s

-- the answer of an accepted question, and the slice that it leaves
pub record Answers (index : List ℕ) (way : ℕ) (names before : List ℕ) (r : Answer) (after : List ℕ) : Type 0 where
  pub number : r.number ≡ 0
  pub place : r.place ≡ 0
  pub count : r.count ≡ length (answer_slots index names)
  pub looks : r.looks ≡ total (map (λ (c : Charge). c.looks) (costs index way names))
  pub codes : r.codes ≡ total (map (λ (c : Charge). c.codes) (costs index way names))
  pub looks16 : r.looks16 ≡ places (λ c. c.looks) (costs index way names)
  pub codes16 : r.codes16 ≡ places (λ c. c.codes) (costs index way names)
  pub slots : after ≡ answer_slots index names ++ replicate (length before - length (answer_slots index names)) 0
