use Rattle.std.proofs.lemmas.Result.{IfOk-weaker}
use Rattle.pv_terms.proofs.Pushing.{puts_then}
use Rattle.pv_terms.proofs.forms.push_not_equal.Goals as goal

pub returns : goal.returns
returns c = λ s t table p q.
    let x = c.in_ok-equal.ensures s t table p q in
    IfOk-weaker c.push_not.result _ _ (λ n z. puts_then _ _ _ n _ x.grows z) (c.push_not.ensures _ x.grows.table x.at)
