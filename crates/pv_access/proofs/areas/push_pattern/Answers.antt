use Rattle.std.proofs.Common.{◌-◌, arith}
use Rattle.std.proofs.lemmas.Result.{IfOk-weaker}
use Rattle.pv_terms.proofs.ForCallers.{puts_then}
use Rattle.pv_access.proofs.Pushing.{says}
use Rattle.pv_access.proofs.Steps.{pattern_none, pattern_some}
use Rattle.pv_access.proofs.areas.push_pattern.Goals as goal

pub returns-then-count-eq0 : goal.returns-then-count-eq0
returns-then-count-eq0 c = λ table.
    IfOk-weaker c.push_constant.result _ _
    (λ n z. says _ _ n _ _ (pattern_none c.args.ty c.args.n c.args.count c.if-count-eq0.true) z) (c.push_constant.ensures table)

pub returns : goal.returns
returns c = λ table.
    let x = c.in_ok-first.ensures table in
    IfOk-weaker c.push_behind.result _ _
    (λ n z. puts_then _ _ _ n _ x.grows
    (says _ _ n _ _ (pattern_some c.args.ty c.args.n c.in_ok-next.next c.args.count (c.args.count - 1) (omega (arith, c.if-count-eq0.false)) c.in_ok-next.ensures) z))
    (c.push_behind.ensures _ x.grows.table x.at)
