use Rattle.pv_run.specs.Code.{assigns_call}
use Rattle.pv_resolve.proofs.ForCallers.{failed}
use Rattle.pv_program.proofs.Leading.{led_same}
use Rattle.pv_program.proofs.Growing.{extends-then}
use Rattle.pv_program.proofs.Keeping.{call-kept}
use Rattle.pv_program.proofs.plain.make_assign_call.Goals as goal

pub returns : goal.returns
returns c = record {
  grows = extends-then _ _ _ c.in_ok-made.ensures.grows c.in_ok-to.ensures.grows;
  means = λ source place is. assigns_call (call-kept c.in_ok-to.ensures.grows (c.in_ok-made.ensures.means source is)) (c.in_ok-to.ensures.means source is);
  room = λ source is h target call led. tt;
  led = λ source is led before. led_same c.in_ok-to.ensures.calls (c.in_ok-made.ensures.led source is led before);
}

pub returns-in_err-made-clause-room : goal.returns-in_err-made-clause-room
returns-in_err-made-clause-room c = λ source is h target call led.
    failed _ _ c.from_residual.ensures.1 (c.in_err-made.ensures.room source is h call led)

pub returns-in_err-to-clause-room : goal.returns-in_err-to-clause-room
returns-in_err-to-clause-room c = λ source is h target call led.
    failed _ _ c.from_residual-in_err-to.ensures.1 (c.in_err-to.ensures.room source is h.own target)
