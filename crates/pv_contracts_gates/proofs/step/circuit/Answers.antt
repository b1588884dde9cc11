use Rattle.pv_contracts_gates.proofs.step.circuit.Goals as goal

pub returns-clause-made : goal.returns-clause-made
returns-clause-made c = c.circuit.ensures.made

pub returns-clause-within : goal.returns-clause-within
returns-clause-within c = c.circuit.ensures.within

pub returns-clause-limit : goal.returns-clause-limit
returns-clause-limit c = c.circuit.ensures.limit

pub returns-clause-few : goal.returns-clause-few
returns-clause-few c = c.circuit.ensures.few

pub returns-clause-kept : goal.returns-clause-kept
returns-clause-kept c = c.circuit.ensures.kept
