use Rattle.pv_contracts_gates.proofs.gate.nodes.Goals as goal

pub returns-clause-count : goal.returns-clause-count
returns-clause-count c = c.nodes.ensures.count

pub returns-clause-netlist : goal.returns-clause-netlist
returns-clause-netlist c = c.nodes.ensures.netlist

pub returns-clause-one : goal.returns-clause-one
returns-clause-one c = c.nodes.ensures.one

pub returns-clause-few : goal.returns-clause-few
returns-clause-few c = c.nodes.ensures.few

pub returns-clause-within : goal.returns-clause-within
returns-clause-within c = c.nodes.ensures.within
