use Rattle.pv_cert.specs.CertificateText.{query_line, QueryFits}
use Rattle.pv_cert.proofs.Texts.{feedless-query}
use Rattle.pv_cert.proofs.Parsing.{no-line, other-line}
use Rattle.pv_cert.proofs.query.query_line.Goals as goal

pub returns-in_err-line-clause-none : goal.returns-in_err-line-clause-none
returns-in_err-line-clause-none c = rw c.from_residual.ensures (no-line QueryFits query_line c.args.text.now c.in_err-line.ensures.none)

pub returns-in_err-query-clause-none : goal.returns-in_err-query-clause-none
returns-in_err-query-clause-none c =
    rw c.from_residual-in_err-query.ensures
    (other-line QueryFits query_line feedless-query c.args.text.now c.in_ok-line.line.now c.in_ok-line.after.now c.in_ok-line.ensures.found.0 c.in_ok-line.ensures.found.1 c.in_err-query.ensures.none)
