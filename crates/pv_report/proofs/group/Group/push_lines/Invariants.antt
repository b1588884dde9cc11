use Rattle.std.proofs.Common.{◌≡◌, ◌++◌, filter}
use Rattle.pv_report.specs.Reports.{value_lines}
use Rattle.pv_report.specs.Groups.{front_text, has}
use Rattle.pv_report.proofs.Values.{still}
use Rattle.pv_report.proofs.group.Group.push_lines.Given as goal

-- the lines so far stand behind the text, and with those of the cells and values that are left they are all
abbrev pub invariant-loop-cell : goal.invariant-loop-cell
invariant-loop-cell l =
    l.text.items ++ still (front_text l.self) (λ c. has l.self c) l.cells l.cell-index l.values l.next
    ≡ l.initial.text.items ++ value_lines (front_text l.self) (filter (λ c. has l.self c) l.cells) l.values
