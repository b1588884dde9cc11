use Rattle.pv_types.specs.View.{type_tree}
use Rattle.pv_rules_decl.specs.TypeNumbers.{NamesWrongType}
use Rattle.pv_rules_expr.proofs.ForCallers.{near_more}
use Rattle.pv_rules_decl.proofs.types.DeclaredTypes.wrong_types.Goals as goal

pub loop-ty-preserved : goal.loop-ty-preserved
loop-ty-preserved c = λ bs g.
    near_more (λ at t. NamesWrongType bs at t) (λ t. type_tree t.now) c.args.types.now c.loop-ty.ty-index c.ty-item.result c.args.nearest c.loop-ty.nearest
    c.wrong_type-nearest.result c.loop-ty-test.true c.ty-item.is (c.loop-ty.invariant bs g) (c.wrong_type-nearest.ensures bs g)
