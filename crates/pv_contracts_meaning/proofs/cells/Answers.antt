use Rattle.pv_contracts_meaning.proofs.cells.Goals as goal

pub returns-clause-cells : goal.returns-clause-cells
returns-clause-cells c = c.cells.ensures.cells

pub returns-clause-within : goal.returns-clause-within
returns-clause-within c = c.cells.ensures.within

pub returns-clause-too_large : goal.returns-clause-too_large
returns-clause-too_large c = c.cells.ensures.too_large
