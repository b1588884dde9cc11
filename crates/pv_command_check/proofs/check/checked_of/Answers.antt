use Rattle.pv_command_verdict.proofs.ForCallers.{passed}
use Rattle.pv_command_check.specs.Checks.{StopsCheck}
use Rattle.pv_command_check.proofs.Deciding.{comes_to}
use Rattle.pv_command_check.proofs.check.checked_of.Goals as goal

pub returns-in_err-evidence-clause-stopped : goal.returns-in_err-evidence-clause-stopped
returns-in_err-evidence-clause-stopped c = λ told file s reads is.
    passed (StopsCheck told file) c.from_residual.result c.in_err-evidence.field-0.0 c.from_residual.ensures.1
    (c.in_err-evidence.ensures.stopped told file s reads is)

pub texts_of-requires-clause-writable : goal.texts_of-requires-clause-writable
texts_of-requires-clause-writable c =
    let on = c.requires.worked_on in
    (c.in_ok-evidence.ensures.found on.told on.file on.subject on.reads on.is).evidence.writable

pub texts_of-requires-clause-ending : goal.texts_of-requires-clause-ending
texts_of-requires-clause-ending c =
    let on = c.requires.worked_on in
    let made = c.in_ok-evidence.evidence in
    c.scans_are_done.ensures.verdicts on.told on.file on.subject made.certificate made.ending on.reads
    (c.in_ok-evidence.ensures.found on.told on.file on.subject on.reads on.is).evidence.says

pub returns-clause-found : goal.returns-clause-found
returns-clause-found c = λ told file s reads is. record {
  certificate = c.in_ok-evidence.evidence.certificate;
  ending = c.in_ok-evidence.evidence.ending;
  comes = comes_to told file s c.in_ok-checked.checked.certificate c.in_ok-evidence.evidence.certificate c.in_ok-evidence.evidence.ending reads
      (c.in_ok-evidence.ensures.found told file s reads is) c.in_ok-checked.ensures.certificate;
  claim = c.in_ok-checked.ensures.claim;
  report = c.in_ok-checked.ensures.report s is.subject;
}
