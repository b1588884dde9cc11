use Rattle.pv_command_check.proofs.Writing.{written_says, written_leaves, err_said}
use Rattle.pv_command_check.proofs.check.finished.Goals as goal

pub returns-in_err-checked-clause-says : goal.returns-in_err-checked-clause-says
returns-in_err-checked-clause-says g c = λ file s reads is.
    let told = g.F.Files.told c.args.files.now in
    err_said told file c.from_residual.result c.in_err-checked.field-0.0 c.from_residual.ensures.1
    (c.in_err-checked.ensures.stopped told file s reads is)

pub returns-clause-says : goal.returns-clause-says
returns-clause-says g c = λ file s reads is.
    let told = g.F.Files.told c.args.files.now in
    written_says file told _ s c.in_ok-checked.checked _ is.subject.case.certificate (c.in_ok-checked.ensures.found told file s reads is)
    c.kept_in.result c.kept_in.ensures.same c.kept_in.ensures.files

pub returns-clause-files : goal.returns-clause-files
returns-clause-files g c = λ file s reads is.
    let told = g.F.Files.told c.args.files.now in
    written_leaves file told _ s c.in_ok-checked.checked _ is.subject.case.certificate (c.in_ok-checked.ensures.found told file s reads is)
    c.kept_in.result c.kept_in.ensures.same c.kept_in.ensures.files
