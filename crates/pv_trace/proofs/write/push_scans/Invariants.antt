use Rattle.std.proofs.Common.{◌≡◌, ◌++◌, take, map}
use Rattle.pv_claims.specs.Lines.{text_of_lines}
use Rattle.pv_trace.specs.TraceText.{scan_line}
use Rattle.pv_trace.proofs.write.push_scans.Given as goal

-- the lines of the scans so far stand behind the text
abbrev pub invariant-loop-values : goal.invariant-loop-values
invariant-loop-values l = l.text.items ≡ l.initial.text.items ++ text_of_lines (map scan_line (take l.values-index l.scans))
