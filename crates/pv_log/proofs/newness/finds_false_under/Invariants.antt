use Rattle.std.proofs.Common.{◌<◌, length}
use Rattle.pv_log.specs.Checking.{known}
use Rattle.pv_log.proofs.FilingLaws.{StillComes}
use Rattle.pv_log.proofs.newness.finds_false_under.Given as goal

abbrev pub invariant-loop-id : goal.invariant-loop-id
invariant-loop-id g l = record {
  there : l.id < length l.filing.nexts;
  comes : StillComes l.values.falses (known (g.F.ClauseView.clauses l.f) (g.L.LogView.all_lines l.log) l.lines) l.filing l.lit l.id;
}

abbrev pub decreases-loop-id : goal.decreases-loop-id
decreases-loop-id g l = l.id
