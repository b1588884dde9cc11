use Rattle.pv_types.specs.View.{type_tree}
use Rattle.pv_tree.specs.Rules.DoubledNames.{DoublesField}
use Rattle.pv_rules_expr.proofs.ForCallers.{near_more}
use Rattle.pv_rules_decl.proofs.on_declarations.later_fields_in.Goals as goal

pub loop-ty-preserved : goal.loop-ty-preserved
loop-ty-preserved c =
    near_more (λ at t. DoublesField at t) (λ t. type_tree t.now) c.args.types.now c.loop-ty.ty-index c.ty-item.result c.args.nearest c.loop-ty.nearest
    c.in_ok-nearest.nearest c.loop-ty-test.true c.ty-item.is c.loop-ty.invariant c.in_ok-nearest.ensures
