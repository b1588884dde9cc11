use Rattle.std.proofs.Common.{◌≡◌, [], take}
use Rattle.pv_log.specs.Follows.{Follows, EachFollows}
use Rattle.pv_log.proofs.checker.verdict.Given as goal

abbrev pub invariant-loop-n : goal.invariant-loop-n
invariant-loop-n g l = record {
  same : l.values.variables ≡ l.fn.values.variables;
  none : l.values.falses ≡ [];
  each : EachFollows (Follows (g.F.ClauseView.variables l.f)) (g.F.ClauseView.clauses l.f) (take l.n (g.L.LogView.all_lines l.log));
}
