use Rattle.std.proofs.Common.{◌<◌, ◌^◌}
use Rattle.pv_cert.specs.CertificateText.{log_line}
use Rattle.pv_cert.proofs.Texts.{feedless-count}
use Rattle.pv_cert.proofs.Parsing.{no-line, other-line}
use Rattle.pv_cert.proofs.query.count_line.Goals as goal

pub returns-in_err-line-clause-none : goal.returns-in_err-line-clause-none
returns-in_err-line-clause-none c = rw c.from_residual.ensures (no-line (λ n. n < 2 ^ 32) log_line c.args.text.now c.in_err-line.ensures.none)

pub returns-in_err-count-clause-none : goal.returns-in_err-count-clause-none
returns-in_err-count-clause-none c =
    rw c.from_residual-in_err-count.ensures
    (other-line (λ n. n < 2 ^ 32) log_line feedless-count c.args.text.now c.in_ok-line.line.now c.in_ok-line.after.now c.in_ok-line.ensures.found.0 c.in_ok-line.ensures.found.1 c.in_err-count.ensures.none)
