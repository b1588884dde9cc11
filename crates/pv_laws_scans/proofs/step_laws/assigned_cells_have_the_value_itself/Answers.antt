use Rattle.pv_laws_scans.proofs.Stored.{visible-stored, brief-stored, bit-stored, bytes-stored}
use Rattle.pv_laws_scans.proofs.step_laws.assigned_cells_have_the_value_itself.Goals as goal

pub returns-clause-visible : goal.returns-clause-visible
returns-clause-visible c = λ source calls act frame ended target place e statement v n t there is has at ends.
    visible-stored c.assigned_values_lie_in_the_targets_type.ensures source calls act frame ended target place e statement v t there is has ends
    n at

pub returns-clause-brief : goal.returns-clause-brief
returns-clause-brief c = λ source calls act frame ended target place e statement v ty n t there is within has at ends.
    brief-stored c.assigned_values_lie_in_the_targets_type.ensures source calls act frame ended target place e statement v t there is has ends
    ty n within at

pub returns-clause-bit : goal.returns-clause-bit
returns-clause-bit c = λ source calls act frame ended target place at_read e statement v n b t there is within byte few has at ends.
    bit-stored c.assigned_values_lie_in_the_targets_type.ensures source calls act frame ended target place e statement v t there is has ends
    at_read n b within byte few at

pub returns-clause-bytes : goal.returns-clause-bytes
returns-clause-bytes c = λ source calls act frame ended target place at_read e statement v ty n count t there is within are wide has at ends.
    bytes-stored c.assigned_values_lie_in_the_targets_type.ensures source calls act frame ended target place e statement v t there is has ends
    at_read ty n count within are wide at
