use Rattle.pv_contracts_case.proofs.cases.read.Goals as goal

pub returns-clause-found : goal.returns-clause-found
returns-clause-found c = c.read.ensures.found

pub returns-clause-broken : goal.returns-clause-broken
returns-clause-broken c = c.read.ensures.broken

pub returns-clause-not_json : goal.returns-clause-not_json
returns-clause-not_json c = c.read.ensures.not_json
