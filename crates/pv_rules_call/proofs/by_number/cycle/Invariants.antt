use Rattle.std.specs.Prelude.{None}
use Rattle.pv_rules_expr.specs.Nearest.{Nears}
use Rattle.pv_rules_call.specs.ByNumber.{links_graph, HasBackLink}
use Rattle.pv_rules_call.proofs.by_number.cycle.Given as goal

abbrev pub invariant-loop-i : goal.invariant-loop-i
invariant-loop-i l = Nears (HasBackLink (links_graph l.all) l.all l.i) None l.nearest
