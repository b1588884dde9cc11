use Rattle.std.proofs.Common.{sym, subst}
use Rattle.pv_tree.specs.View.{operand_tree}
use Rattle.pv_eval.specs.Order.{AreNodes}
use Rattle.pv_resolve.specs.Contexts.{block_in}
use Rattle.pv_resolve.proofs.Ordered.{no_nodes}
use Rattle.pv_resolve.proofs.Loops.{target_alone}
use Rattle.pv_resolve.proofs.Fits.{failed}
use Rattle.pv_resolve.proofs.context.Context.target.Goals as goal

pub operand-requires : goal.operand-requires
operand-requires c =
    subst AreNodes (sym c.new-nodes.ensures.items) no_nodes

pub returns-clause-locates : goal.returns-clause-locates
returns-clause-locates c = λ source is. c.in_ok-target.ensures.locates source (block_in c.args.self.now) (operand_tree c.args.operand.now)
    (target_alone source (block_in c.args.self.now) _ _ _ _ (operand_tree c.args.operand.now) c.new-nodes.ensures.items c.as_slice.ensures.value (c.in_ok-found.ensures.names source is))

pub returns-in_err-found-clause-room : goal.returns-in_err-found-clause-room
returns-in_err-found-clause-room c =
    λ source is h fits. failed _ _ c.from_residual.ensures.1 (c.in_err-found.ensures.room source is h fits)
