use Rattle.std.specs.Prelude.{None}
use Rattle.pv_rules_expr.specs.Nearest.{Nears}
use Rattle.pv_rules_call.specs.ByNumber.{links_graph, HasDeepLink}
use Rattle.pv_rules_call.proofs.by_number.deep_call.Given as goal

abbrev pub invariant-loop-i : goal.invariant-loop-i
invariant-loop-i l = Nears (HasDeepLink (links_graph l.all) l.all 7 l.i) None l.nearest
