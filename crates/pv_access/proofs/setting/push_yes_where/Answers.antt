use Rattle.std.proofs.lemmas.Result.{IfOk-weaker}
use Rattle.pv_terms.proofs.ForCallers.{keeps, puts_then}
use Rattle.pv_access.proofs.setting.push_yes_where.Goals as goal

pub returns : goal.returns
returns c = λ s t table p q.
    let x = c.in_ok-yes.ensures table in
    IfOk-weaker c.push_select.result _ _ (λ n z. puts_then _ _ _ n _ x.grows z)
    (c.push_select.ensures _ _ _ x.grows.table (keeps _ _ _ s x.grows p) x.at (keeps _ _ _ t x.grows q))
