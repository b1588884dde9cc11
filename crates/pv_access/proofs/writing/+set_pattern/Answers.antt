use Rattle.std.proofs.Common.{◌-◌, arith}
use Rattle.std.proofs.lemmas.Result.{on_ok_weaker}
use Rattle.pv_terms.proofs.ForCallers.{keeps}
use Rattle.pv_access.proofs.Pushing.{sets_then, sets_say, no_sets}
use Rattle.pv_access.proofs.Steps.{sets_none, sets_some}
use Rattle.pv_access.proofs.writing.+set_pattern.Goals as goal

pub returns-then-count-eq0 : goal.returns-then-count-eq0
returns-then-count-eq0 t c = λ s table at.
    sets_say _ _ _ _ _ _ (sets_none c.args.ty c.args.n c.args.count s c.if-count-eq0.true) (no_sets _ _ table)

pub returns : goal.returns
returns t c = λ s table at.
    let x = c.in_ok-set_byte.ensures s table at in
    on_ok_weaker c.set_pattern.result
    (λ z. sets_say _ _ _ _ _ _
    (sets_some c.args.ty c.args.n c.in_ok-next.next c.args.count (c.args.count - 1) s (omega (arith, c.if-count-eq0.false)) c.in_ok-next.ensures)
    (sets_then _ _ _ _ _ _ _ _ x z))
    (c.set_pattern.ensures s x.grows.table (keeps _ _ _ s x.grows at))
