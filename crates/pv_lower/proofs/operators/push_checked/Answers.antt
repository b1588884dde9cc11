use Rattle.pv_terms.proofs.ForCallers.{keeps}
use Rattle.pv_lower.specs.Lowered.{divisor_checks}
use Rattle.pv_lower.proofs.Behind.{lowers_on}
use Rattle.pv_lower.proofs.operators.push_checked.Goals as goal

pub returns : goal.returns
returns c = λ s t table p q.
    let x = c.in_ok-check_divisor.ensures t table q in
    lowers_on _ _ _ _ _ _ _ (divisor_checks c.args.op c.args.place c.args.ty t) x
    (c.in_ok-push_between.ensures s t x.grows.table (keeps _ _ _ s x.grows p) (keeps _ _ _ t x.grows q))
