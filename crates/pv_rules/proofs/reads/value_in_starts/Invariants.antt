use Rattle.std.proofs.Common.{◌≡◌, [], map, drop}
use Rattle.pv_tree.specs.View.{start_tree}
use Rattle.pv_names.specs.InScope.{scope_of}
use Rattle.pv_rules_expr.specs.NearestIn.{nearest_in}
use Rattle.pv_rules.specs.Reads.{reads_of_starts}
use Rattle.pv_rules.specs.Values.{value_at}
use Rattle.pv_rules.proofs.reads.value_in_starts.Given as goal

abbrev pub invariant-loop-start : goal.invariant-loop-start
invariant-loop-start l =
    nearest_in (value_at (scope_of l.scope) []) (reads_of_starts (map start_tree (drop l.start-index l.starts))) l.best
    ≡ nearest_in (value_at (scope_of l.scope) []) (reads_of_starts (map start_tree l.starts)) l.fn.nearest
