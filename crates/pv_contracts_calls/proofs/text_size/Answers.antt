use Rattle.pv_contracts_calls.proofs.text_size.Goals as goal

pub returns-clause-size : goal.returns-clause-size
returns-clause-size c = c.text_size.ensures.size

pub returns-clause-short : goal.returns-clause-short
returns-clause-short c = c.text_size.ensures.short
