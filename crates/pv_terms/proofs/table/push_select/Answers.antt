use Rattle.std.proofs.lemmas.Result.{IfOk-weaker}
use Rattle.std.proofs.lemmas.Bool.{and_from}
use Rattle.pv_terms.proofs.Pushing.{there, select_at, says}
use Rattle.pv_terms.proofs.table.push_select.Goals as goal

pub returns : goal.returns
returns c = λ r s t table o p q.
    IfOk-weaker c.push.result _ _
    (λ n x. says _ _ n _ _ (select_at c.args.nodes.now.items c.args.ty c.args.c c.args.a c.args.b r s t o p q) x)
    (c.push.ensures table (and_from _ _ (and_from _ _ (there c.args.nodes.now.items c.args.c r o) (there c.args.nodes.now.items c.args.a s p))
    (there c.args.nodes.now.items c.args.b t q)))
