use Rattle.pv_contracts_readers.proofs.sources.stl_source.Goals as goal

pub returns : goal.returns
returns c = c.parse.ensures
