use Rattle.std.proofs.Common.{sym, subst}
use Rattle.pv_tree.specs.View.{expr_tree}
use Rattle.pv_eval.specs.Order.{AreNodes}
use Rattle.pv_resolve.specs.Contexts.{block_in}
use Rattle.pv_resolve.proofs.Ordered.{no_nodes}
use Rattle.pv_resolve.proofs.Loops.{expression_alone}
use Rattle.pv_resolve.proofs.Fits.{failed}
use Rattle.pv_resolve.proofs.context.Context.expression.Goals as goal

pub expr-requires : goal.expr-requires
expr-requires c =
    subst AreNodes (sym c.new-nodes.ensures.items) no_nodes

pub returns-clause-evaluates : goal.returns-clause-evaluates
returns-clause-evaluates c = λ source is. c.in_ok-expression.ensures.evaluates source (block_in c.args.self.now) (expr_tree c.args.e.now)
    (expression_alone source (block_in c.args.self.now) _ _ _ _ (expr_tree c.args.e.now) c.new-nodes.ensures.items c.as_slice.ensures.value (c.in_ok-made.ensures.means source is))

pub returns-in_err-made-clause-room : goal.returns-in_err-made-clause-room
returns-in_err-made-clause-room c =
    λ source is h fits. failed _ _ c.from_residual.ensures.1 (c.in_err-made.ensures.room source is h fits)
