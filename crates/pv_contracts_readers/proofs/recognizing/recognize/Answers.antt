use Rattle.pv_contracts_readers.proofs.recognizing.recognize.Goals as goal

pub returns : goal.returns
returns c = c.recognize.ensures
