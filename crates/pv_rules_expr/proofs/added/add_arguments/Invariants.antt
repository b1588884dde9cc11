use Rattle.pv_names.specs.Sorts.{want_tree}
use Rattle.pv_rules_expr.specs.Walks.{AreWritten}
use Rattle.pv_rules_expr.proofs.Adding.{OutsideSoFar}
use Rattle.pv_rules_expr.proofs.added.add_arguments.Given as goal

abbrev pub invariant-loop-arg : goal.invariant-loop-arg
invariant-loop-arg l =
    AreWritten l.parts l.args
    → OutsideSoFar (want_tree l.wants.first) (want_tree l.wants.others) (want_tree l.next) l.args l.arg-index l.rest l.fn.near l.near
