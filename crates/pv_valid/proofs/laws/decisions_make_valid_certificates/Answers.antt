use Rattle.pv_valid.proofs.Decided.{decided-valid}
use Rattle.pv_valid.proofs.laws.decisions_make_valid_certificates.Goals as goal

pub returns : goal.returns
returns g c = λ case fixed. decided-valid case (g.O.Oracle.encoding fixed)
