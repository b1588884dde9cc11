use Rattle.std.proofs.lemmas.Result.{IfOk-weaker}
use Rattle.pv_terms.proofs.ForCallers.{puts_then}
use Rattle.pv_access.proofs.areas.push_placed.Goals as goal

pub returns : goal.returns
returns c = λ t table at.
    let x = c.in_ok-wide.ensures t table at in
    IfOk-weaker c.push_left.result _ _ (λ n z. puts_then _ _ _ n _ x.grows z) (c.push_left.ensures _ x.grows.table x.at)
