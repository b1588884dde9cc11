use Rattle.std.proofs.Common.{◌≡◌, take}
use Rattle.std.specs.List.{AllByRecursion}
use Rattle.pv_watch.specs.Quiet.{IsQuiet}
use Rattle.pv_solver.proofs.search.quiet_starts.Given as goal

abbrev pub invariant-loop-start : goal.invariant-loop-start
invariant-loop-start l = record {
  count : l.keep ≡ l.start-index;
  quiet : AllByRecursion (λ s. IsQuiet (take s l.trail.falses) l.lits) (take l.keep l.trail.starts);
}
