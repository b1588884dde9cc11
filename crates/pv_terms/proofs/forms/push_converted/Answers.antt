use Rattle.std.proofs.lemmas.Result.{IfOk-weaker}
use Rattle.pv_terms.proofs.Pushing.{puts_itself, says}
use Rattle.pv_terms.proofs.Constants.{made_same, made_other}
use Rattle.pv_terms.proofs.forms.push_converted.Goals as goal

pub returns-then-is_same : goal.returns-then-is_same
returns-then-is_same c = λ t table at.
    says _ _ _ _ _ (made_same c.args.from c.args.to t c.is_same.result c.is_same.ensures c.if-is_same.true)
    (puts_itself c.args.nodes.now.items c.args.a t table at)

pub returns : goal.returns
returns c = λ t table at.
    IfOk-weaker c.push_unary.result _ _
    (λ n p. says _ _ n _ _ (made_other c.args.from c.args.to t c.is_same.result c.is_same.ensures c.if-is_same.false) p)
    (c.push_unary.ensures t table at)
