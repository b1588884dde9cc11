use Rattle.std.proofs.lemmas.Result.{IfOk-weaker}
use Rattle.pv_terms.proofs.Pushing.{keeps, grows_then, puts_then}
use Rattle.pv_terms.proofs.Givens.{givens_keep}
use Rattle.pv_terms.proofs.function.push_max.Goals as goal

pub returns : goal.returns
returns c = λ ts table are.
    let x = c.in_ok-a.ensures ts table are in
    let y = c.in_ok-b.ensures ts x.grows.table (givens_keep _ _ c.args.args.now ts x.grows are) in
    IfOk-weaker c.push_greater.result _ _ (λ n z. puts_then _ _ _ n _ (grows_then _ _ _ x.grows y.grows) z)
    (c.push_greater.ensures _ _ y.grows.table (keeps _ _ _ _ y.grows x.at) y.at)
