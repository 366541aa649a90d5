-- The paper's two lists: they fit the conditions in 111 bytes, and the index of them is the paper's.
use mathlib.Core.Path.{◌≡◌, refl}
use mathlib.Core.List.{List, [], ◌∷◌, map}
use native.Mathlib.Omega.{arith}
use Rattle.paper.specs.Write.{write_answer}
use Rattle.paper.proofs.Hex.{index, slots0, slots1}
use Rattle.paper.proofs.Open.{opened}
use Rattle.promises.proofs.Questions.{index_of}
use Rattle.promises.proofs.WriteNumbers.{write_table}
use Rattle.promises.proofs.EndToRuns.{Plan, record_for, size_for, Packable}

-- the first all in gaps, the second with cut 16
abbrev pub paper_plans : List Plan
paper_plans = record { cut = 0; slots = slots0 } ∷ record { cut = 16; slots = slots1 } ∷ []

-- each of them is written where it has room
accepts_0 : (write_answer 32 4 0 slots0 55).number ≡ 0
unfolding opened
accepts_0 = refl

accepts_1 : (write_answer 32 4 16 slots1 24).number ≡ 0
unfolding opened
accepts_1 = refl

paper_size : size_for 4 paper_plans ≡ 79
unfolding opened
paper_size = refl

-- so they fit the conditions with 111 bytes of room
pub paper_fits : Packable 32 4 paper_plans 111
paper_fits =
    let n = paper_size in
    let a = ((write_table 32 4 0 slots0 55).accepts.0 accepts_0).writable in
    let b = ((write_table 32 4 16 slots1 24).accepts.0 accepts_1).writable in
    record {
      u_inside = a.cuts.ranges.slots_within;
      b_inside = a.cuts.ranges.block_within;
      k_inside = (omega arith, omega arith);
      cuts = (a.cuts.cut_within, (b.cuts.cut_within, tt));
      rising = (a.rising, (b.rising, tt));
      small = omega arith;
      fits = omega arith;
    }

-- and not with one less
pub paper_tight : ¬ (Packable 32 4 paper_plans 110)
paper_tight c = let n = paper_size in let f = c.fits in omega arith

-- the index of them
pub paper_index : index_of 32 4 (map (record_for 4) paper_plans) ≡ index
unfolding opened
paper_index = refl
