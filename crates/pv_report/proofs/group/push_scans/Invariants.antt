use Rattle.std.proofs.Common.{◌≡◌, ◌+◌, ◌++◌, drop}
use Rattle.pv_report.specs.Reports.{scan_lines}
use Rattle.pv_report.proofs.group.push_scans.Given as goal

-- the lines of the scans so far stand behind the text, and with those of the scans that are left they are all
abbrev pub invariant-loop-done : goal.invariant-loop-done
invariant-loop-done l =
    l.text.items ++ scan_lines l.cells (l.done + 1) (drop l.done l.inputs)
    ≡ l.initial.text.items ++ scan_lines l.cells 1 l.inputs
