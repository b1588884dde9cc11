use Rattle.std.proofs.Common.{subst}
use Rattle.std.proofs.lemmas.Result.{IfOk-weaker}
use Rattle.pv_tree.specs.View.{expr_tree}
use Rattle.pv_resolve.specs.Contexts.{block_in}
use Rattle.pv_lower.specs.Lowering.{IsMeeting}
use Rattle.pv_lower.proofs.lowering.Lowering.meet.Goals as goal

pub returns : goal.returns
returns c = λ source is.
    IfOk-weaker c.meeting_of.result _ _
    (λ m here. subst (λ p. IsMeeting m (record { project = p; block = block_in c.args.self.now.context }) (expr_tree c.args.left.now)
    (expr_tree c.args.right.now)) is.context.project here)
    c.meeting_of.ensures
