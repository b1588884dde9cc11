use Rattle.pv_contracts_claims.proofs.texts.cut_line.Goals as goal

pub returns-clause-found : goal.returns-clause-found
returns-clause-found c = c.cut_line.ensures.found

pub returns-clause-none : goal.returns-clause-none
returns-clause-none c = c.cut_line.ensures.none
