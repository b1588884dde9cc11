use Rattle.std.proofs.lemmas.Result.{IfOk-weaker}
use Rattle.pv_terms.proofs.Pushing.{keeps, grows_then, puts_then}
use Rattle.pv_terms.proofs.Givens.{givens_keep}
use Rattle.pv_terms.proofs.function.push_sel.Goals as goal

pub returns : goal.returns
returns c = λ ts table are.
    let x = c.in_ok-choice.ensures ts table are in
    let are1 = givens_keep _ _ c.args.args.now ts x.grows are in
    let y = c.in_ok-no.ensures ts x.grows.table are1 in
    let z = c.in_ok-yes.ensures ts y.grows.table (givens_keep _ _ c.args.args.now ts y.grows are1) in
    let both = grows_then _ _ _ y.grows z.grows in
    IfOk-weaker c.push_select.result _ _ (λ n r. puts_then _ _ _ n _ (grows_then _ _ _ x.grows both) r)
    (c.push_select.ensures _ _ _ z.grows.table (keeps _ _ _ _ both x.at) z.at (keeps _ _ _ _ z.grows y.at))
