use Rattle.std.proofs.lemmas.Result.{IfOk-weaker}
use Rattle.pv_terms.proofs.Pushing.{puts_then}
use Rattle.pv_terms.proofs.function.push_conversion.Goals as goal

pub returns : goal.returns
returns c = λ ts table are.
    let x = c.in_ok-a.ensures ts table are in
    IfOk-weaker c.converted.result _ _ (λ n z. puts_then _ _ _ n _ x.grows z) (c.converted.ensures _ x.grows.table x.at)
