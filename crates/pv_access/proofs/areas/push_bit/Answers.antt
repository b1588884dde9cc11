use Rattle.std.proofs.lemmas.Result.{IfOk-weaker}
use Rattle.pv_terms.proofs.ForCallers.{grows_then, puts_then}
use Rattle.pv_access.proofs.areas.push_bit.Goals as goal

pub returns : goal.returns
returns c = λ table.
    let x = c.in_ok-byte.ensures table in
    let y = c.in_ok-low.ensures _ x.grows.table x.at in
    IfOk-weaker c.converted.result _ _ (λ n z. puts_then _ _ _ n _ (grows_then _ _ _ x.grows y.grows) z)
    (c.converted.ensures _ y.grows.table y.at)
