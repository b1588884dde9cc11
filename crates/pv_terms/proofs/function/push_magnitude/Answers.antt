use Rattle.std.proofs.lemmas.Result.{IfOk-weaker}
use Rattle.pv_terms.proofs.Pushing.{keeps, grows_then, puts_then}
use Rattle.pv_terms.proofs.function.push_magnitude.Goals as goal

pub returns : goal.returns
returns c = λ t table at.
    let x = c.in_ok-less.ensures t table at in
    let y = c.in_ok-turned.ensures t x.grows.table (keeps _ _ _ t x.grows at) in
    IfOk-weaker c.push_select.result _ _ (λ n z. puts_then _ _ _ n _ (grows_then _ _ _ x.grows y.grows) z)
    (c.push_select.ensures _ _ _ y.grows.table (keeps _ _ _ _ y.grows x.at) y.at (keeps _ _ _ t y.grows (keeps _ _ _ t x.grows at)))
