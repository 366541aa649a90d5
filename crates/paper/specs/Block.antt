-- [The index, read from its end; Numbers of refusal] The codes of one block: a slot for each, and the first fault, 8 or 9.
use Rattle.std.specs.Prelude.{ℕ, zero, suc, ◌+◌, List, [], ◌∷◌, ltb}
use Rattle.paper.specs.Lists.{pick}
use Rattle.paper.specs.Code.{code_of, on_code}

-- the slots before the first fault, and that fault's number (0: there is none)
pub record Block : Type 0 where
  pub fault : ℕ
  pub slots : List ℕ

-- a fault, or the end, before any slot
abbrev pub halt : ℕ → Block
halt n = record { fault = n; slots = [] }

-- the slot x, and then what b says
abbrev pub cons : ℕ → Block → Block
cons x b = record { fault = b.fault; slots = x ∷ b.slots }

-- k codes behind the slot prev, and then no more bytes. A code is the difference from the slot before, less one. No code is 8; a slot
-- above u is 9; a byte behind the last code is 8
unfoldable pub read_codes : ℕ → ℕ → ℕ → List ℕ → Block
read_codes u zero prev [] = halt 0
read_codes u zero prev (b ∷ r) = halt 8
read_codes u (suc k) prev bs =
    on_code (code_of bs) (halt 8) λ v r.
    pick (ltb u (prev + v + 1)) (halt 9) (cons (prev + v + 1) (read_codes u k (prev + v + 1) r))
