use Rattle.std.proofs.Common.{ap}
use Rattle.std.proofs.lemmas.Result.{IfOk-weaker}
use Rattle.pv_terms.specs.Forms.{converted}
use Rattle.pv_terms.proofs.ForCallers.{puts_then}
use Rattle.pv_access.specs.Accesses.{pattern_term}
use Rattle.pv_access.proofs.Pushing.{says}
use Rattle.pv_access.proofs.areas.push_bytes.Goals as goal

pub returns : goal.returns
returns c = λ table.
    let x = c.in_ok-pattern.ensures table in
    IfOk-weaker c.converted.result _ _
    (λ n z. puts_then _ _ _ n _ x.grows
    (says _ _ n _ _ (ap (λ ty. converted ty c.args.own (pattern_term ty c.args.n c.args.count)) c.pattern_type-ty.ensures) z))
    (c.converted.ensures _ x.grows.table x.at)
