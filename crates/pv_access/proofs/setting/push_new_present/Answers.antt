use Rattle.std.proofs.lemmas.Result.{IfOk-weaker}
use Rattle.pv_terms.proofs.ForCallers.{keeps, grows_then, puts_then}
use Rattle.pv_access.proofs.Pushing.{all_keep, writing_keeps}
use Rattle.pv_access.proofs.setting.push_new_present.Goals as goal

pub returns : goal.returns
returns c = λ w cs table is are.
    let x = c.in_ok-old.ensures table in
    let y = c.in_ok-new.ensures w _ x.grows.table (writing_keeps _ _ c.args.writing w x.grows is) x.at in
    let both = grows_then _ _ _ x.grows y.grows in
    IfOk-weaker c.push_where_all.result _ _ (λ n z. puts_then _ _ _ n _ both z)
    (c.push_where_all.ensures cs _ _ y.grows.table (all_keep _ _ c.args.conditions.now cs both are) y.at (keeps _ _ _ _ y.grows x.at))
