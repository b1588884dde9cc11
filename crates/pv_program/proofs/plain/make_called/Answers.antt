use Rattle.pv_run.specs.Code.{calls}
use Rattle.pv_resolve.proofs.ForCallers.{failed}
use Rattle.pv_program.proofs.plain.make_called.Goals as goal

pub returns : goal.returns
returns c = record { grows = c.in_ok-made.ensures.grows; means = λ source is. calls (c.in_ok-made.ensures.means source is); room = λ source is h call led. tt; led = c.in_ok-made.ensures.led }

pub returns-in_err-made-clause-room : goal.returns-in_err-made-clause-room
returns-in_err-made-clause-room c = λ source is h call led.
    failed _ _ c.from_residual.ensures.1 (c.in_err-made.ensures.room source is h call led)
