use Rattle.std.proofs.Common.{◌∙◌}
use Rattle.pv_program.proofs.Failing.{passed}
use Rattle.pv_program.proofs.replay.make.Goals as goal

pub returns-in_err-program-clause-room : goal.returns-in_err-program-clause-room
returns-in_err-program-clause-room c = λ source project entry bytes run texts.
    passed _ _ c.from_residual.ensures.1 (c.in_err-program.ensures.room source project entry (c.bytes-bytes.ensures ∙ bytes) run texts)
