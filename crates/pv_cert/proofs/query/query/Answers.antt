use Rattle.pv_cert.proofs.Parsing.{no-query}
use Rattle.pv_cert.proofs.query.query.Goals as goal

pub returns-in_err-k-clause-none : goal.returns-in_err-k-clause-none
returns-in_err-k-clause-none c = rw c.from_residual.ensures (no-query c.args.line.now c.in_default.ensures.none c.in_err-k.ensures.none)
