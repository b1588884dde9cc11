use Rattle.std.proofs.lemmas.Result.{IfOk-weaker}
use Rattle.pv_claims.proofs.ForCallers.{passed}
use Rattle.pv_cert.proofs.Wholes.{head-within, shown-within, whole-read, stops-on}
use Rattle.pv_cert.proofs.parts.certificate.Goals as goal

pub returns-in_err-claim-clause-stuck : goal.returns-in_err-claim-clause-stuck
returns-in_err-claim-clause-stuck c = passed _ c.from_residual.result c.in_err-claim.field-0.0 c.from_residual.ensures.1 (head-within c.args.text.now c.in_err-claim.field-0.0 c.in_err-claim.ensures.stuck)

pub returns-clause-ok : goal.returns-clause-ok
returns-clause-ok c =
    let head = c.in_ok-claim.ensures.ok in
    IfOk-weaker c.shown.result _ _ (λ cut is. (is.0.has, whole-read c.in_ok-claim.claim cut.0 c.args.text.now c.in_ok-claim.rest.now cut.1.now head.1 is.0.is is.1)) (c.shown.ensures.ok head.0)

pub returns-clause-stuck : goal.returns-clause-stuck
returns-clause-stuck c =
    let head = c.in_ok-claim.ensures.ok in
    stops-on c.shown.result (λ stop. shown-within c.in_ok-claim.claim c.args.text.now c.in_ok-claim.rest.now stop head.0 head.1) (c.shown.ensures.stuck head.0)
