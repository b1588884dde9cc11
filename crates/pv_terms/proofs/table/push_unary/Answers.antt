use Rattle.std.proofs.lemmas.Result.{IfOk-weaker}
use Rattle.pv_terms.proofs.Pushing.{there, unary_at, says}
use Rattle.pv_terms.proofs.table.push_unary.Goals as goal

pub returns : goal.returns
returns c = λ t table at.
    IfOk-weaker c.push.result _ _
    (λ n p. says _ _ n _ _ (unary_at c.args.nodes.now.items c.args.op c.args.ty c.args.a t at) p)
    (c.push.ensures table (there c.args.nodes.now.items c.args.a t at))
