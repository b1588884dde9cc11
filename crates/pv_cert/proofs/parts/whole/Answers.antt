use Rattle.std.proofs.Common.{rules}
use Rattle.pv_claims.proofs.ForCallers.{passed}
use Rattle.pv_cert.proofs.Wholes.{stops-with, left-over, read-whole}
use Rattle.pv_cert.proofs.parts.whole.Goals as goal

pub returns-in_err-certificate-clause-stuck : goal.returns-in_err-certificate-clause-stuck
returns-in_err-certificate-clause-stuck c = passed _ c.from_residual.result c.in_err-certificate.field-0.0 c.from_residual.ensures.1 (stops-with c.args.text.now c.in_err-certificate.field-0.0 c.in_err-certificate.ensures.stuck)

pub returns-then-is_over-clause-ok : goal.returns-then-is_over-clause-ok
returns-then-is_over-clause-ok c = read-whole c.args.text.now c.in_ok-certificate.rest.now c.in_ok-certificate.certificate c.in_ok-certificate.ensures.ok.0 c.in_ok-certificate.ensures.ok.1 (search rules)

pub returns-else-is_over-clause-stuck : goal.returns-else-is_over-clause-stuck
returns-else-is_over-clause-stuck c = left-over c.args.text.now c.in_ok-certificate.rest.now c.in_ok-certificate.certificate c.in_ok-certificate.ensures.ok.0 c.in_ok-certificate.ensures.ok.1 (λ e. search rules)
