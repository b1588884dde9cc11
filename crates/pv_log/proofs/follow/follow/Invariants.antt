use Rattle.std.proofs.Common.{◌≡◌, drop}
use Rattle.pv_log.specs.Propagation.{hints_fault}
use Rattle.pv_log.specs.Checking.{known}
use Rattle.pv_log.proofs.follow.follow.Given as goal

abbrev pub invariant-loop-i : goal.invariant-loop-i
invariant-loop-i g l = record {
  same : l.values.variables ≡ l.fn.values.variables;
  rest : hints_fault (known (g.F.ClauseView.clauses l.f) (g.L.LogView.all_lines l.log) l.lines) l.values.falses (drop l.i l.hints)
      ≡ hints_fault (known (g.F.ClauseView.clauses l.f) (g.L.LogView.all_lines l.log) l.lines) l.fn.values.falses l.hints;
}
