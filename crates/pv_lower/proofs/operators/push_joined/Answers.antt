use Rattle.std.proofs.lemmas.Result.{IfOk-weaker}
use Rattle.pv_terms.proofs.ForCallers.{keeps, grows_then}
use Rattle.pv_lower.proofs.Behind.{lowers_after}
use Rattle.pv_lower.proofs.operators.push_joined.Goals as goal

pub returns : goal.returns
returns c = λ s t table p q.
    let x = c.in_ok-left.ensures s table p in
    let y = c.in_ok-right.ensures t x.grows.table (keeps _ _ _ t x.grows q) in
    IfOk-weaker c.push_checked.result _ _
    (λ n z. lowers_after _ _ _ _ _ n _ (grows_then _ _ _ x.grows y.grows) z)
    (c.push_checked.ensures _ _ y.grows.table (keeps _ _ _ _ y.grows x.at) y.at)
