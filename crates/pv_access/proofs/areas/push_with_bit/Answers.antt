use Rattle.std.proofs.lemmas.Result.{IfOk-weaker}
use Rattle.pv_terms.proofs.ForCallers.{keeps, grows_then, puts_then}
use Rattle.pv_access.proofs.areas.push_with_bit.Goals as goal

pub returns : goal.returns
returns c = λ t table at.
    let x = c.in_ok-others.ensures table in
    let y = c.in_ok-own.ensures t x.grows.table (keeps _ _ _ t x.grows at) in
    IfOk-weaker c.push_binary.result _ _ (λ n z. puts_then _ _ _ n _ (grows_then _ _ _ x.grows y.grows) z)
    (c.push_binary.ensures _ _ y.grows.table (keeps _ _ _ _ y.grows x.at) y.at)
