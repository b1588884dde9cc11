-- A log and the lemma that comes next as one log. No public clause cites this.
use Rattle.std.specs.Prelude.{◌≡◌, ℕ, ◌<◌, ◌≤◌, List, length, Option, Some, None}
use Rattle.pv_log.specs.declared.line.Line.{Line}

-- line n is the one that comes next, or else one of the log
abbrev pub IsNextAt : List Line → Option Line → ℕ → Option Line → Type 0
IsNextAt log next n None = n ≤ length log
IsNextAt log next n (Some line) = (next ≡ Some line) × (length log < n)
