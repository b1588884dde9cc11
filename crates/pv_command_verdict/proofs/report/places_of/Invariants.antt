use Rattle.std.proofs.Common.{◌≡◌, ◌++◌, drop, map}
use Rattle.pv_report.specs.Places.{file_lines}
use Rattle.pv_command_verdict.proofs.Places.{lines_by}
use Rattle.pv_command_verdict.proofs.report.places_of.Given as goal

-- the sources so far and those that are left
abbrev pub invariant-loop-source : goal.invariant-loop-source
invariant-loop-source l = record {
  files : map file_lines l.files.items ++ map lines_by (drop l.source-index l.sources) ≡ map lines_by l.sources;
}
