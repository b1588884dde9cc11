-- Counts of faults.
use Rattle.std.specs.Prelude.{ℕ, ◌<◌}

-- the last value of a count, which is a u64 and stays there
abbrev pub last_count : ℕ
last_count = 0xffff_ffff_ffff_ffff

-- a count rose in a call: it is greater than before, or stands at its last value
abbrev pub HasRisen : ℕ → ℕ → Type 0
HasRisen before after = after < last_count → before < after
