use Rattle.pv_types.specs.View.{type_tree}
use Rattle.pv_tree.specs.Rules.Arrays.{IsWrongType}
use Rattle.pv_rules_expr.proofs.ForCallers.{near_more}
use Rattle.pv_rules_decl.proofs.declarations.wrong_arrays.Goals as goal

pub loop-ty-preserved : goal.loop-ty-preserved
loop-ty-preserved c =
    near_more (λ at t. IsWrongType at t) (λ t. type_tree t.now) c.args.types.now c.loop-ty.ty-index c.ty-item.result c.args.nearest c.loop-ty.nearest c.wrong_array-nearest.result
    c.loop-ty-test.true c.ty-item.is c.loop-ty.invariant c.wrong_array-nearest.ensures
