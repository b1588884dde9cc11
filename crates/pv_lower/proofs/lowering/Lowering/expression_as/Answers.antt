use Rattle.pv_tree.specs.LiteralTypes.{this}
use Rattle.pv_tree.specs.View.{expr_tree}
use Rattle.pv_resolve.specs.Contexts.{block_in}
use Rattle.pv_lower.proofs.Composed.{of_type}
use Rattle.pv_lower.proofs.lowering.Lowering.expression_as.Goals as goal

pub returns : goal.returns
returns c = λ source is table.
    let x = c.in_ok-term.ensures source is table in
    of_type source (block_in c.args.self.now.context) (this c.args.ty) (expr_tree c.args.e.now) c.in_ok-own.own c.args.ty _ _ _ _ _ _ _
    (c.in_ok-own.ensures source is) x (c.in_ok-converted.ensures _ x.checks.grows.table x.at)
