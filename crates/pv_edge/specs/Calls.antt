-- Calls that are counted, and those of them that are to fail.
use Rattle.std.specs.Prelude.{ℕ, List, Bool, ◌+◌, ◌==◌, min}
use Rattle.std.specs.List.{list_any}
use Rattle.pv_edge.specs.Faults.{last_count}

-- the next value of a count, which stays at its last value
abbrev pub next_count : ℕ → ℕ
next_count count = min (count + 1) last_count

-- the call after these many is one of those that fail; calls are numbered from 1
abbrev pub is_failing : List ℕ → ℕ → Bool
is_failing fail_at calls = list_any (λ number. number == next_count calls) fail_at
