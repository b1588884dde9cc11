use Rattle.std.proofs.lemmas.Result.{IfOk-weaker}
use Rattle.pv_terms.proofs.Pushing.{keeps, puts_then}
use Rattle.pv_terms.proofs.function.push_negative.Goals as goal

pub returns : goal.returns
returns c = λ t table at.
    let x = c.in_ok-zero.ensures table in
    IfOk-weaker c.push_less.result _ _ (λ n z. puts_then _ _ _ n _ x.grows z)
    (c.push_less.ensures _ _ x.grows.table (keeps _ _ _ t x.grows at) x.at)
