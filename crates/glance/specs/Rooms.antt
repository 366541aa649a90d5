-- How large the sums of a glance can be before its last turn: so that one turn more fits.
use Rattle.std.specs.Prelude.{ℕ, ◌*◌, ◌≤◌}

-- sums of pairs of bytes, of at most 254 bytes: a turn of eight bytes adds at most 2 * 71777214294589695
abbrev pub RoomyPairs : ℕ → Type 0
RoomyPairs x = 4 * x ≤ 71777214294589695 * 260

-- and counts of bytes: a turn adds at most 72340172838076673
abbrev pub RoomyOnes : ℕ → Type 0
RoomyOnes x = 8 * x ≤ 72340172838076673 * 260
