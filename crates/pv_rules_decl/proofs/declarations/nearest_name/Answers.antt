use Rattle.std.proofs.Common.{◌≡◌}
use Rattle.pv_types.specs.View.{type_tree, word_tree, place_of}
use Rattle.pv_rules_expr.proofs.ForCallers.{near_more}
use Rattle.pv_rules_decl.proofs.Misplaced.{all_named}
use Rattle.pv_rules_decl.proofs.declarations.nearest_name.Goals as goal

pub loop-word-preserved : goal.loop-word-preserved
loop-word-preserved c =
    let v = c.args.of.now in
    near_more (λ at x. place_of x ≡ at) (word_tree v.section (type_tree v.ty) v.start) c.deref-word-items.result.now c.loop-word.word-index c.word-item.result
    c.args.nearest c.loop-word.nearest c.nearer-nearest.result c.loop-word-test.true c.word-item.is c.loop-word.invariant c.nearer-nearest.ensures

pub returns : goal.returns
returns c =
    all_named c.args.of.now c.deref-word-items.result.now c.loop-word.word-index c.args.nearest c.loop-word.nearest c.deref-word-items.ensures.value
    c.loop-word-test.false c.loop-word.invariant
