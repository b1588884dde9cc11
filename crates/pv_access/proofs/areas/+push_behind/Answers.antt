use Rattle.std.proofs.Common.{◌-◌, arith}
use Rattle.std.proofs.lemmas.Result.{IfOk-weaker}
use Rattle.pv_terms.proofs.ForCallers.{keeps, grows_then, puts_then}
use Rattle.pv_access.proofs.Pushing.{says, puts_itself}
use Rattle.pv_access.proofs.Steps.{behind_none, behind_some}
use Rattle.pv_access.proofs.areas.+push_behind.Goals as goal

pub returns-then-count-eq0 : goal.returns-then-count-eq0
returns-then-count-eq0 t c = λ s table at.
    says _ _ _ _ _ (behind_none c.args.ty c.args.n c.args.count s c.if-count-eq0.true) (puts_itself _ _ s table at)

pub returns : goal.returns
returns t c = λ s table at.
    let x = c.in_ok-byte.ensures table in
    let y = c.in_ok-so_far.ensures s _ x.grows.table (keeps _ _ _ s x.grows at) x.at in
    IfOk-weaker c.push_behind.result _ _
    (λ n z. puts_then _ _ _ n _ (grows_then _ _ _ x.grows y.grows)
    (says _ _ n _ _ (behind_some c.args.ty c.args.n c.in_ok-next.next c.args.count (c.args.count - 1) s (omega (arith, c.if-count-eq0.false)) c.in_ok-next.ensures) z))
    (c.push_behind.ensures _ y.grows.table y.at)
