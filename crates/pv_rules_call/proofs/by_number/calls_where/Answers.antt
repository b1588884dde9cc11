use Rattle.pv_rules_expr.proofs.ForCallers.{near_none}
use Rattle.pv_rules_call.proofs.Linking.{where_so, where_not}
use Rattle.pv_rules_call.proofs.by_number.calls_where.Goals as goal

pub returns-then-test : goal.returns-then-test
returns-then-test c = where_so c.args.links.now c.args.nearest c.all_calls.result c.args.test c.if-test.true c.all_calls.ensures

pub returns-else-test : goal.returns-else-test
returns-else-test c = where_not c.args.links.now c.args.nearest c.args.test c.if-test.false (near_none c.args.nearest)
