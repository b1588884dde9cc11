use Rattle.pv_contracts_kind.proofs.lift.formula.Goals as goal

pub returns-clause-formula : goal.returns-clause-formula
returns-clause-formula g c = c.formula.ensures.formula

pub returns-clause-fits : goal.returns-clause-fits
returns-clause-fits g c = c.formula.ensures.fits

pub returns-clause-passes : goal.returns-clause-passes
returns-clause-passes g c = c.formula.ensures.passes
