use Rattle.std.proofs.Common.{◌≡◌, length, take}
use Rattle.pv_report.specs.Places.{begun_at, last_of}
use Rattle.pv_report.proofs.places.line_at.Given as goal

-- by the starts so far
abbrev pub invariant-loop-start : goal.invariant-loop-start
invariant-loop-start l =
    (l.line ≡ length (begun_at l.offset (take l.start-index l.starts)))
    × (l.last ≡ last_of (begun_at l.offset (take l.start-index l.starts)))
