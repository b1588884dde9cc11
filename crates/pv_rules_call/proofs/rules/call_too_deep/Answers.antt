use Rattle.pv_rules_expr.proofs.ForCallers.{if_ok}
use Rattle.pv_rules_call.proofs.CallGraph.{deep_nearest}
use Rattle.pv_rules_call.proofs.rules.call_too_deep.Goals as goal

pub returns : goal.returns
returns c project are = if_ok c.deep_call.result (deep_nearest project c.args.links.now are) c.deep_call.ensures
