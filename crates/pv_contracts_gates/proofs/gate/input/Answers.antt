use Rattle.pv_contracts_gates.proofs.gate.input.Goals as goal

pub returns-clause-literal : goal.returns-clause-literal
returns-clause-literal c = c.input.ensures.literal

pub returns-clause-nodes : goal.returns-clause-nodes
returns-clause-nodes c = c.input.ensures.nodes

pub returns-clause-err : goal.returns-clause-err
returns-clause-err c = c.input.ensures.err

pub returns-clause-value : goal.returns-clause-value
returns-clause-value c = c.input.ensures.value

pub returns-clause-names : goal.returns-clause-names
returns-clause-names c = c.input.ensures.names

pub returns-clause-extends : goal.returns-clause-extends
returns-clause-extends c = c.input.ensures.extends

pub returns-clause-longer : goal.returns-clause-longer
returns-clause-longer c = c.input.ensures.longer

pub returns-clause-older : goal.returns-clause-older
returns-clause-older c = c.input.ensures.older
