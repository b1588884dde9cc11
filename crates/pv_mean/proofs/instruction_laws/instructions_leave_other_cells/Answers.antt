use Rattle.pv_mean.proofs.Steps.{untouched-stl}
use Rattle.pv_mean.proofs.instruction_laws.instructions_leave_other_cells.Goals as goal

pub returns : goal.returns
returns c = untouched-stl
