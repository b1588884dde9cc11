use Rattle.std.proofs.Common.{◌∙◌}
use Rattle.pv_run.specs.Code.{assigns}
use Rattle.pv_resolve.proofs.ForCallers.{failed}
use Rattle.pv_program.proofs.Growing.{extends-then}
use Rattle.pv_program.proofs.Keeping.{value-kept}
use Rattle.pv_program.proofs.plain.make_assign.Goals as goal

pub returns : goal.returns
returns c = record {
  grows = extends-then _ _ _ c.in_ok-from.ensures.grows c.in_ok-to.ensures.grows;
  means = λ source place is. assigns (value-kept c.in_ok-to.ensures.grows (c.in_ok-from.ensures.means source is)) (c.in_ok-to.ensures.means source is);
  calls = c.in_ok-to.ensures.calls ∙ c.in_ok-from.ensures.calls;
  room = λ source is h target value. tt;
}

pub returns-in_err-from-clause-room : goal.returns-in_err-from-clause-room
returns-in_err-from-clause-room c = λ source is h target value.
    failed _ _ c.from_residual.ensures.1 (c.in_err-from.ensures.room source is h value)

pub returns-in_err-to-clause-room : goal.returns-in_err-to-clause-room
returns-in_err-to-clause-room c = λ source is h target value.
    failed _ _ c.from_residual-in_err-to.ensures.1 (c.in_err-to.ensures.room source is h target)
