use Rattle.pv_cnf.proofs.Text.{text_determines}
use Rattle.pv_cnf.proofs.dimacs.text_determines_clauses.Goals as goal

pub returns : goal.returns
returns c = text_determines
