use Rattle.std.proofs.Common.{map, subst}
use Rattle.std.proofs.lemmas.Result.{IfOk-weaker}
use Rattle.pv_tree.specs.View.{expr_tree, exprs_of}
use Rattle.pv_resolve.specs.Contexts.{block_in}
use Rattle.pv_lower.specs.Lowering.{IsWanted}
use Rattle.pv_lower.proofs.lowering.Lowering.wants.Goals as goal

pub returns : goal.returns
returns c = λ source is.
    IfOk-weaker c.wants_of.result _ _
    (λ w here. subst (λ p. IsWanted w c.args.function (record { project = p; block = block_in c.args.self.now.context })
    (exprs_of (map expr_tree c.args.args.now))) is.context.project here)
    c.wants_of.ensures
