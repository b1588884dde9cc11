use Rattle.std.proofs.Common.{refl}
use Rattle.pv_terms.proofs.ForCallers.{keeps, puts_then}
use Rattle.pv_lower.specs.Lowered.{zero_check}
use Rattle.pv_lower.proofs.Behind.{one_check}
use Rattle.pv_lower.proofs.operators.check_zero.Goals as goal

pub returns : goal.returns
returns c = λ t table at.
    let z = c.in_ok-zero.ensures table in
    one_check _ _ c.args.checks.now.items c.push.new.self.items _ (zero_check c.args.place c.args.ty t) c.in_ok-push.ensures.items refl refl
    (puts_then _ _ _ _ _ z.grows (c.in_ok-term.ensures t _ z.grows.table (keeps _ _ _ t z.grows at) z.at))
