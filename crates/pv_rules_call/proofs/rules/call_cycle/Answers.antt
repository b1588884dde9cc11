use Rattle.pv_rules_expr.proofs.ForCallers.{if_ok}
use Rattle.pv_rules_call.proofs.CallGraph.{cycle_nearest}
use Rattle.pv_rules_call.proofs.rules.call_cycle.Goals as goal

pub returns : goal.returns
returns c project are = if_ok c.cycle.result (cycle_nearest project c.args.links.now are) c.cycle.ensures
