use Rattle.std.proofs.Common.{◌≡◌, ◌++◌, drop}
use Rattle.pv_report.specs.Places.{starts_behind}
use Rattle.pv_report.proofs.places.add_starts.Given as goal

-- the starts so far stand behind the others, and with those behind the bytes that are left they are all
abbrev pub invariant-loop-at : goal.invariant-loop-at
invariant-loop-at l =
    l.starts.items ++ starts_behind l.at (drop l.at l.bytes) ≡ l.initial.starts.items ++ starts_behind 0 l.bytes
