use Rattle.std.proofs.Common.{◌≡◌, ◌-◌, length, drop}
use Rattle.pv_bits.specs.Words.{number_of}
use Rattle.pv_queries.proofs.numbers.number_of.Given as goal

-- the number of the last k bits
abbrev pub invariant-loop-k : goal.invariant-loop-k
invariant-loop-k l = l.number ≡ number_of (drop (length l.bits - l.k) l.bits)
