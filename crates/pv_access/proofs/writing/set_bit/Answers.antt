use Rattle.std.proofs.lemmas.Result.{on_ok_weaker}
use Rattle.pv_terms.proofs.ForCallers.{grows_then}
use Rattle.pv_access.proofs.Pushing.{sets_behind, writing_keeps}
use Rattle.pv_access.proofs.writing.set_bit.Goals as goal

pub returns : goal.returns
returns c = λ w table is.
    let x = c.in_ok-old.ensures table in
    let y = c.in_ok-new.ensures w _ x.grows.table (writing_keeps _ _ c.args.writing w x.grows is) x.at in
    let z = c.in_ok-byte.ensures _ y.grows.table y.at in
    let grows = grows_then _ _ _ x.grows (grows_then _ _ _ y.grows z.grows) in
    on_ok_weaker c.push_set.result (λ s. sets_behind _ _ _ _ _ _ grows s) (c.push_set.ensures _ z.grows.table z.at)
