use Rattle.pv_log.proofs.Spelled.{one-line}
use Rattle.pv_log.proofs.laws.text_determines_line.Goals as goal

pub returns : goal.returns
returns c = one-line
