use Rattle.pv_command_recheck.specs.declared.stop.RecheckStop.TheVariants.{First as At_first}
use Rattle.pv_command_recheck.proofs.Reporting.{says_moved, err_said, err_counted, err_told, counted_again}
use Rattle.pv_command_recheck.proofs.recheck.recheck_in.Goals as goal

pub rechecked_in-rechecked-requires : goal.rechecked_in-rechecked-requires
rechecked_in-rechecked-requires g c =
    let found = c.in_ok-first.ensures.found in
    record {
      worked_on = record {
        told = g.F.Files.told c.args.files.now;
        file = c.args.case_file.now;
        subject = found.0;
        reads = found.1;
        is = found.2;
      };
    }

pub returns-clause-says : goal.returns-clause-says
returns-clause-says g c =
    let found = c.in_ok-first.ensures.found in
    says_moved (g.F.Files.told c.args.files.now) _ c.args.case_file.now c.args.certificate_file.now found.0 c.rechecked_in-rechecked.result
    c.in_ok-first.ensures.files found.1 (λ reads. c.rechecked_in-rechecked.ensures.says c.args.case_file.now found.0 reads found.2)

pub returns-clause-counted : goal.returns-clause-counted
returns-clause-counted g c = counted_again _ _ _ _ c.in_ok-first.ensures.counted c.rechecked_in-rechecked.ensures.counted

pub returns-in_err-first-clause-says : goal.returns-in_err-first-clause-says
returns-in_err-first-clause-says g c =
    err_said (g.F.Files.told c.args.files.now) c.args.case_file.now c.args.certificate_file.now c.from_residual.result
    (At_first c.in_err-first.field-0.0) c.from_residual.ensures.1 c.in_err-first.ensures.stopped

pub returns-in_err-first-clause-counted : goal.returns-in_err-first-clause-counted
returns-in_err-first-clause-counted g c =
    err_counted c.from_residual.result (At_first c.in_err-first.field-0.0) _ _ c.from_residual.ensures.1 c.in_err-first.ensures.counted

pub returns-in_err-first-clause-named : goal.returns-in_err-first-clause-named
returns-in_err-first-clause-named g c =
    err_told c.from_residual.result (At_first c.in_err-first.field-0.0) _ c.from_residual.ensures.1 c.in_err-first.ensures.named
