use Rattle.std.proofs.Common.{sym, ap}
use Rattle.std.proofs.lemmas.Result.{IfOk-weaker}
use Rattle.pv_terms.specs.Forms.{unary_term}
use Rattle.pv_terms.proofs.Pushing.{puts_itself, says}
use Rattle.pv_terms.proofs.forms.push_operator.Goals as goal

pub returns-in-Plus : goal.returns-in-Plus
returns-in-Plus c = λ t table at.
    says _ _ _ _ _ (sym (ap (λ op. unary_term op c.args.ty t) c.in-Plus.is)) (puts_itself c.args.nodes.now.items c.args.a t table at)

pub returns-in-Minus : goal.returns-in-Minus
returns-in-Minus c = λ t table at.
    IfOk-weaker c.push_unary.result _ _
    (λ n z. says _ _ n _ _ (sym (ap (λ op. unary_term op c.args.ty t) c.in-Minus.is)) z)
    (c.push_unary.ensures t table at)

pub returns-in-Not : goal.returns-in-Not
returns-in-Not c = λ t table at.
    IfOk-weaker c.push_unary-in-Not.result _ _
    (λ n z. says _ _ n _ _ (sym (ap (λ op. unary_term op c.args.ty t) c.in-Not.is)) z)
    (c.push_unary-in-Not.ensures t table at)
