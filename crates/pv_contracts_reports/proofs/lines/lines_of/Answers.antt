use Rattle.pv_contracts_reports.proofs.lines.lines_of.Goals as goal

pub returns : goal.returns
returns c = c.of.ensures
