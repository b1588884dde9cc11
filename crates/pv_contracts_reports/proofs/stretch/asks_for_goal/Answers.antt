use Rattle.pv_contracts_reports.proofs.stretch.asks_for_goal.Goals as goal

pub returns : goal.returns
returns c = c.asks_for_goal.ensures
