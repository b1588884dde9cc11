use Rattle.pv_resolve.proofs.ForCallers.{failed}
use Rattle.pv_program.proofs.label.labels_of.Goals as goal

pub returns-in_err-at-clause-room : goal.returns-in_err-at-clause-room
returns-in_err-at-clause-room c = λ free. failed _ _ c.from_residual.ensures.1 (c.in_err-at.ensures.room free)
