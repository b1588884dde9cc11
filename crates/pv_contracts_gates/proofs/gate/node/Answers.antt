use Rattle.pv_contracts_gates.proofs.gate.node.Goals as goal

pub returns-clause-node : goal.returns-clause-node
returns-clause-node c = c.node.ensures.node

pub returns-clause-operands : goal.returns-clause-operands
returns-clause-operands c = c.node.ensures.operands
