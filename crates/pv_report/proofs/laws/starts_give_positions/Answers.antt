use Rattle.pv_report.proofs.Positions.{at_offset}
use Rattle.pv_report.proofs.laws.starts_give_positions.Goals as goal

pub returns-clause-line : goal.returns-clause-line
returns-clause-line c = λ bytes offset le. (at_offset bytes offset le).line

pub returns-clause-column : goal.returns-clause-column
returns-clause-column c = λ bytes offset le. (at_offset bytes offset le).column
