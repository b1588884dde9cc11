use Rattle.pv_mean.proofs.Steps.{read-written, read-written_brief}
use Rattle.pv_mean.proofs.step_laws.written_cells_have_the_value.Goals as goal

pub returns-clause-visible : goal.returns-clause-visible
returns-clause-visible c = read-written

pub returns-clause-brief : goal.returns-clause-brief
returns-clause-brief c = read-written_brief
