use Rattle.std.proofs.Common.{◌≡◌, ◌++◌, Bool, subst}
use Rattle.pv_claims.specs.Lines.{StopsAt, text_of_lines}
use Rattle.pv_claims.proofs.ForCallers.{passed}
use Rattle.pv_cert.specs.Reading.{Body, HasBody, body_lines}
use Rattle.pv_cert.proofs.Wholes.{trace-within, body-within, has-claim, shown-read}
use Rattle.pv_cert.proofs.parts.shown.Goals as goal

pub returns-in_err-trace-clause-stuck : goal.returns-in_err-trace-clause-stuck
returns-in_err-trace-clause-stuck c = λ fits.
    passed _ c.from_residual.result c.in_err-trace.field-0.0 c.from_residual.ensures.1 (trace-within c.args.claim c.args.text.now c.in_err-trace.field-0.0 fits c.in_err-trace.ensures.stuck)

pub returns-in_err-proofs-clause-stuck : goal.returns-in_err-proofs-clause-stuck
returns-in_err-proofs-clause-stuck c = λ fits.
    (let read = c.in_ok-trace.ensures.ok in
    let behind = subst (λ (asked : Bool). StopsAt Body (HasBody asked) (body_lines asked) c.in_ok-trace.rest.now c.in_err-proofs.field-0.0) c.asks_next.ensures c.in_err-proofs.ensures.stuck in
    passed _ c.from_residual-in_err-proofs.result c.in_err-proofs.field-0.0 c.from_residual-in_err-proofs.ensures.1
    (body-within c.args.claim c.in_ok-trace.trace c.args.text.now c.in_ok-trace.rest.now c.in_err-proofs.field-0.0 fits read.0 read.1 behind))

pub returns-clause-ok : goal.returns-clause-ok
returns-clause-ok c = λ fits.
    (let read = c.in_ok-trace.ensures.ok in
    let behind =
    subst (λ (asked : Bool). HasBody asked (c.in_ok-proofs.proofs, c.in_ok-proofs.next)
    × (c.in_ok-trace.rest.now ≡ text_of_lines (body_lines asked (c.in_ok-proofs.proofs, c.in_ok-proofs.next)) ++ c.in_ok-proofs.after.now)) c.asks_next.ensures c.in_ok-proofs.ensures.ok in (
      has-claim c.args.claim c.in_ok-trace.trace c.in_ok-proofs.proofs c.in_ok-proofs.next fits read.0 behind.0,
      shown-read c.args.claim c.in_ok-trace.trace c.args.text.now c.in_ok-trace.rest.now c.in_ok-proofs.after.now c.in_ok-proofs.proofs c.in_ok-proofs.next read.1 behind.1,
    ))
