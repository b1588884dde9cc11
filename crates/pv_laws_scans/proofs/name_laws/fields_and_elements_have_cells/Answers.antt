use Rattle.pv_laws_scans.proofs.Fields.{field-has, element-has, variable-named, data-named}
use Rattle.pv_laws_scans.proofs.Walked.{steps-lead}
use Rattle.pv_laws_scans.proofs.name_laws.fields_and_elements_have_cells.Goals as goal

pub returns-clause-field : goal.returns-clause-field
returns-clause-field c = field-has

pub returns-clause-element : goal.returns-clause-element
returns-clause-element c = element-has

pub returns-clause-variable : goal.returns-clause-variable
returns-clause-variable c = variable-named

pub returns-clause-data : goal.returns-clause-data
returns-clause-data c = data-named

pub returns-clause-steps : goal.returns-clause-steps
returns-clause-steps c = λ scope laid last more ty keeps names literal good means.
    steps-lead scope keeps more laid last ty names literal good means
