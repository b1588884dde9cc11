use Rattle.pv_contracts_readers.proofs.sources.expression.Goals as goal

pub returns : goal.returns
returns c = c.expression.ensures
