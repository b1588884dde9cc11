use Rattle.pv_contracts_meaning.proofs.table_of.Goals as goal

pub returns-clause-cells : goal.returns-clause-cells
returns-clause-cells c = c.of.ensures.cells

pub returns-clause-bytes : goal.returns-clause-bytes
returns-clause-bytes c = c.of.ensures.bytes

pub returns-clause-within : goal.returns-clause-within
returns-clause-within c = c.of.ensures.within

pub returns-clause-too_large : goal.returns-clause-too_large
returns-clause-too_large c = c.of.ensures.too_large
