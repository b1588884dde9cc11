use Rattle.std.proofs.lemmas.Result.{IfOk-weaker}
use Rattle.std.proofs.lemmas.Bool.{and_from}
use Rattle.pv_terms.proofs.Pushing.{there, binary_at, says}
use Rattle.pv_terms.proofs.table.push_binary.Goals as goal

pub returns : goal.returns
returns c = λ s t table p q.
    IfOk-weaker c.push.result _ _
    (λ n x. says _ _ n _ _ (binary_at c.args.nodes.now.items c.args.op c.args.ty c.args.a c.args.b s t p q) x)
    (c.push.ensures table (and_from _ _ (there c.args.nodes.now.items c.args.a s p) (there c.args.nodes.now.items c.args.b t q)))
