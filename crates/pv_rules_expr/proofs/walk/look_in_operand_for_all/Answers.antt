use Rattle.std.proofs.lemmas.Result.{on_ok_weaker}
use Rattle.pv_tree.specs.View.{operand_tree}
use Rattle.pv_names.specs.InScope.{scope_of}
use Rattle.pv_rules_expr.specs.Near.{near_at}
use Rattle.pv_rules_expr.proofs.Along.{indexes_found}
use Rattle.pv_rules_expr.proofs.walk.look_in_operand_for_all.Goals as goal

pub returns-clause-near : goal.returns-clause-near
returns-clause-near c =
    on_ok_weaker c.look_along.result
    (λ h what. indexes_found (scope_of c.args.scope.now) (operand_tree c.args.operand.now) what (near_at what c.args.near.now)
    (near_at what c.look_along.new.near) (h what))
    c.look_along.ensures.near
