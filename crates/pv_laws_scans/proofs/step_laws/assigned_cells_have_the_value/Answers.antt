use Rattle.pv_laws_scans.proofs.Areas.{own-value}
use Rattle.pv_laws_scans.proofs.Assigning.{assigned, visible-assigned, brief-assigned, bit-assigned, bytes-assigned}
use Rattle.pv_laws_scans.proofs.step_laws.assigned_cells_have_the_value.Goals as goal

pub returns-clause-ends : goal.returns-clause-ends
returns-clause-ends c = assigned

pub returns-clause-visible : goal.returns-clause-visible
returns-clause-visible c = visible-assigned

pub returns-clause-brief : goal.returns-clause-brief
returns-clause-brief c = brief-assigned

pub returns-clause-bit : goal.returns-clause-bit
returns-clause-bit c = bit-assigned

pub returns-clause-bytes : goal.returns-clause-bytes
returns-clause-bytes c = bytes-assigned

pub returns-clause-own : goal.returns-clause-own
returns-clause-own c = own-value
