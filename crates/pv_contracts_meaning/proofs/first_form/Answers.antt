use Rattle.pv_contracts_meaning.proofs.first_form.Goals as goal

pub returns-clause-is_first : goal.returns-clause-is_first
returns-clause-is_first c = c.first_form.ensures.is_first

pub returns-clause-program : goal.returns-clause-program
returns-clause-program c = c.first_form.ensures.program
