use Rattle.pv_command_recheck.specs.declared.stop.RecheckStop.TheVariants.{Certificate as At_certificate}
use Rattle.pv_command_recheck.proofs.Unread.{recheck_other}
use Rattle.pv_command_recheck.proofs.Reporting.{err_said, err_counted, err_told, read_counted}
use Rattle.pv_command_recheck.proofs.recheck.rechecked_in.Goals as goal

pub rechecked_of-requires-clause-read : goal.rechecked_of-requires-clause-read
rechecked_of-requires-clause-read g c = record {
  bytes = c.in_ok-certificate.ensures.found.bytes;
  is = c.in_ok-certificate.ensures.found.are;
}

pub returns-clause-says : goal.returns-clause-says
returns-clause-says g c = λ case_file s reads is.
    c.rechecked_of.ensures.says (g.F.Files.told c.args.files.now) case_file c.args.file.now s reads is c.in_ok-certificate.ensures.found

pub returns-clause-counted : goal.returns-clause-counted
returns-clause-counted g c = read_counted c.rechecked_of.result _ _ c.in_ok-certificate.ensures.counted c.rechecked_of.ensures.unread

pub returns-clause-named : goal.returns-clause-named
returns-clause-named g c = recheck_other c.rechecked_of.result _ c.rechecked_of.ensures.unread

pub returns-in_err-certificate-clause-says : goal.returns-in_err-certificate-clause-says
returns-in_err-certificate-clause-says g c = λ case_file s reads is.
    err_said (g.F.Files.told c.args.files.now) case_file c.args.file.now c.from_residual.result (At_certificate c.in_err-certificate.field-0.0)
    c.from_residual.ensures.1 (s, reads, c.in_err-certificate.ensures.stopped s)

pub returns-in_err-certificate-clause-counted : goal.returns-in_err-certificate-clause-counted
returns-in_err-certificate-clause-counted g c =
    err_counted c.from_residual.result (At_certificate c.in_err-certificate.field-0.0) _ _ c.from_residual.ensures.1
    c.in_err-certificate.ensures.counted

pub returns-in_err-certificate-clause-named : goal.returns-in_err-certificate-clause-named
returns-in_err-certificate-clause-named g c =
    err_told c.from_residual.result (At_certificate c.in_err-certificate.field-0.0) _ c.from_residual.ensures.1
    c.in_err-certificate.ensures.named
