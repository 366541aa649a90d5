-- How large a number can be of which only some places are left.
use lib.Bits.{and_le_r}
use Rattle.quick.proofs.Places.{pairs_cap, on_cap_of}

pub ruleset masks = (and_le_r, pairs_cap, on_cap_of)
