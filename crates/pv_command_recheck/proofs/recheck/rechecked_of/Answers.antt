use Rattle.pv_command_recheck.specs.declared.stop.RecheckStop.TheVariants.{Certificate as At_certificate}
use Rattle.pv_command_recheck.proofs.Unread.{claim_never_six}
use Rattle.pv_command_recheck.proofs.Reporting.{ends_by_pattern, says_reported, says_stopped, stopped_status_is, err_said, err_status}
use Rattle.pv_command_recheck.proofs.recheck.rechecked_of.Goals as goal

pub judged-answer-requires-clause-form : goal.judged-answer-requires-clause-form
judged-answer-requires-clause-form c = c.requires.read.is.valid.has_trace.has_form

pub reported_of-requires : goal.reported_of-requires
reported_of-requires c =
    let on = c.requires.worked_on in
    let read = c.requires.read in
    let e = c.in_ok-evidence.evidence in
    ends_by_pattern c.right_certificates_say_what_is_so.ensures c.scans_are_done.ensures.verdicts on.told on.file on.subject on.reads read.bytes
    c.args.certificate read.is e.certificate e.ending c.judged-answer.result
    (c.judged-answer.ensures.found on.told on.file on.subject on.reads on.is) c.in_ok-evidence.ensures.ok.1 c.in_ok-evidence.ensures.ok.0

pub returns-clause-says : goal.returns-clause-says
returns-clause-says c = λ told case_file file s reads is held.
    let e = c.in_ok-evidence.evidence in
    says_reported c.right_certificates_say_what_is_so.ensures told case_file file s c.args.certificate reads held c.in_ok-rechecked.rechecked
    e.certificate e.ending c.judged-answer.result (c.judged-answer.ensures.found told case_file s reads is) c.in_ok-evidence.ensures.ok.1
    c.in_ok-evidence.ensures.ok.0 c.in_ok-rechecked.ensures.claim (c.in_ok-rechecked.ensures.report s is.subject)

pub returns-clause-unread : goal.returns-clause-unread
returns-clause-unread c = claim_never_six c.in_ok-rechecked.rechecked.claim

pub returns-in_err-evidence-clause-says : goal.returns-in_err-evidence-clause-says
returns-in_err-evidence-clause-says c = λ told case_file file s reads is held.
    let stop = c.in_err-evidence.field-0.0 in
    err_said told case_file file c.from_residual.result (At_certificate stop) c.from_residual.ensures.1
    (says_stopped told case_file file s c.judged-answer.result stop reads c.in_err-evidence.ensures.err
    (c.judged-answer.ensures.stopped told case_file file s reads is held))

pub returns-in_err-evidence-clause-unread : goal.returns-in_err-evidence-clause-unread
returns-in_err-evidence-clause-unread c =
    let stop = c.in_err-evidence.field-0.0 in
    err_status c.from_residual.result (At_certificate stop) 6 c.from_residual.ensures.1
    (stopped_status_is c.judged-answer.result stop c.in_err-evidence.ensures.err c.judged-answer.ensures.unread)
