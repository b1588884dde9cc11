use Rattle.pv_claims.proofs.HeadLaws.{no-verdict-line, other-verdict}
use Rattle.pv_claims.proofs.heads.verdict.Goals as goal

pub returns-in_err-line-clause-none : goal.returns-in_err-line-clause-none
returns-in_err-line-clause-none c = rw c.from_residual.ensures (no-verdict-line c.args.text.now c.in_err-line.ensures.none)

pub returns-in_err-claim-clause-none : goal.returns-in_err-claim-clause-none
returns-in_err-claim-clause-none c =
    rw c.from_residual-in_err-claim.ensures
    (other-verdict c.args.text.now c.in_ok-line.line.now c.in_ok-line.after.now c.in_ok-line.ensures.found.0 c.in_ok-line.ensures.found.1 c.in_err-claim.ensures.none)
