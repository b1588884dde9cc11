use Rattle.pv_claims.proofs.ForCallers.{passed}
use Rattle.pv_cert.proofs.BodyLaws.{body-under, tail-within, body-read}
use Rattle.pv_cert.proofs.parts.body.Goals as goal

pub returns-in_err-proofs-clause-stuck : goal.returns-in_err-proofs-clause-stuck
returns-in_err-proofs-clause-stuck c = passed _ c.from_residual.result c.in_err-proofs.field-0.0 c.from_residual.ensures.1 (c.in_err-proofs.ensures.stuck c.args.region)

pub returns-in_err-next-clause-stuck : goal.returns-in_err-next-clause-stuck
returns-in_err-next-clause-stuck c =
    let read = c.in_ok-proofs.ensures.ok in
    passed _ c.from_residual-in_err-next.result c.in_err-next.field-0.0 c.from_residual-in_err-next.ensures.1
    (body-under c.args.region c.in_ok-proofs.proofs c.args.text.now c.in_ok-proofs.rest.now c.in_err-next.field-0.0 read.0 read.1
    (tail-within c.args.region c.in_ok-proofs.rest.now c.in_err-next.field-0.0 read.2 c.in_err-next.ensures.stuck))

pub returns-clause-ok : goal.returns-clause-ok
returns-clause-ok c =
    let read = c.in_ok-proofs.ensures.ok in
    let behind = c.in_ok-next.ensures.ok in
    ((read.0, behind.0), body-read c.args.region c.args.text.now c.in_ok-proofs.rest.now c.in_ok-next.after.now c.in_ok-proofs.proofs c.in_ok-next.next read.1 behind.1)
