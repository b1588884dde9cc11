use Rattle.std.proofs.lemmas.Result.{on_ok_weaker}
use Rattle.pv_access.proofs.Pushing.{sets_behind}
use Rattle.pv_access.proofs.setting.set_present.Goals as goal

pub returns : goal.returns
returns c = λ w cs table is are.
    let x = c.in_ok-value.ensures w cs table is are in
    on_ok_weaker c.push_set.result (λ z. sets_behind _ _ _ _ _ _ x.grows z) (c.push_set.ensures _ x.grows.table x.at)
