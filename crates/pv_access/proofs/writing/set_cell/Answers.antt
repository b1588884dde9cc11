use Rattle.std.proofs.lemmas.Result.{on_ok_weaker}
use Rattle.pv_access.proofs.Pushing.{sets_then, sets_say, all_keep, writing_keeps}
use Rattle.pv_access.proofs.Steps.{cell_one, cell_two}
use Rattle.pv_access.proofs.writing.set_cell.Goals as goal

pub returns-then-not-target : goal.returns-then-not-target
returns-then-not-target c = λ w cs table is are.
    sets_say _ _ _ _ _ _ (cell_one c.args.target.paired c.args.target.ty cs c.args.n w c.if-not-target.true)
    (c.in_ok-set_value.ensures w cs table is are)

pub returns : goal.returns
returns c = λ w cs table is are.
    let x = c.in_ok-set_value.ensures w cs table is are in
    on_ok_weaker c.set_present.result
    (λ z. sets_say _ _ _ _ _ _ (cell_two c.args.target.paired c.args.target.ty cs c.args.n c.in_ok-present.present w
    c.if-not-target.false c.in_ok-present.ensures) (sets_then _ _ _ _ _ _ _ _ x z))
    (c.set_present.ensures w cs x.grows.table (writing_keeps _ _ c.args.target.writing w x.grows is)
    (all_keep _ _ c.args.conditions.now cs x.grows are))
