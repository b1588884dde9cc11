use Rattle.std.proofs.Common.{◌≡◌, [], take}
use Rattle.pv_log.specs.Follows.{EachFollows}
use Rattle.pv_log.specs.Newness.{FollowsNew}
use Rattle.pv_log.specs.Filing.{IsFiled}
use Rattle.pv_log.specs.Checking.{known}
use Rattle.pv_log.proofs.checker.new_verdict.Given as goal

abbrev pub invariant-loop-n : goal.invariant-loop-n
invariant-loop-n g l = record {
  same : l.values.variables ≡ l.fn.values.variables;
  none : l.values.falses ≡ [];
  filed : IsFiled (g.F.ClauseView.variables l.f) l.filing (known (g.F.ClauseView.clauses l.f) (g.L.LogView.all_lines l.log) l.n);
  each : EachFollows (FollowsNew (g.F.ClauseView.variables l.f)) (g.F.ClauseView.clauses l.f) (take l.n (g.L.LogView.all_lines l.log));
}
