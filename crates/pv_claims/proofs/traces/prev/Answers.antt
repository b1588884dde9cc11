use Rattle.pv_claims.proofs.TraceLaws.{no-prev}
use Rattle.pv_claims.proofs.traces.prev.Goals as goal

pub returns-in_err-rest-clause-none : goal.returns-in_err-rest-clause-none
returns-in_err-rest-clause-none c = rw c.from_residual.ensures (no-prev c.args.text.now c.in_default.ensures.none c.in_default-strip.ensures.none c.in_err-rest.ensures.none)
