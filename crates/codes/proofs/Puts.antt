-- A code as it is written, and how many bytes it takes.
use native.Mathlib.Numerals.{towards_suc}
use lib.ListN.{length-set}
use Rattle.laws.proofs.Codes.{bytes_one, bytes_two, bytes_three}

-- the bytes of a code by its value, and stores one after the other
pub ruleset puts = (bytes_one, bytes_two, bytes_three, length-set, towards_suc)
