use Rattle.std.proofs.Common.{refl, map}
use Rattle.std.specs.Prelude.{flat_map}
use Rattle.pv_tree.specs.View.{expr_tree}
use Rattle.pv_names.specs.InScope.{scope_of}
use Rattle.pv_rules.specs.Codes.{calls_of_code}
use Rattle.pv_tree.specs.Operands.{operands_in}
use Rattle.pv_rules.specs.Values.{value_at}
use Rattle.pv_rules.proofs.Walks.{next_of}
use Rattle.pv_rules.proofs.reads.value_in_conditions.Goals as goal

pub loop-arm-preserved : goal.loop-arm-preserved
loop-arm-preserved c =
    next_of (value_at (scope_of c.args.scope.now) (calls_of_code c.args.code)) (λ a. operands_in (expr_tree a.0))
    (λ l. flat_map operands_in (map (λ a. expr_tree a.0) l)) (λ a l. refl) c.args.arms.now c.loop-arm.arm-index _ c.arm-item.result c.loop-arm.best
    c.value_in-best.result _ c.loop-arm-test.true c.arm-item.is refl c.value_in-best.ensures c.loop-arm.invariant
