use Rattle.pv_command_check.proofs.Writing.{moved_says, moved_leaves}
use Rattle.pv_command_check.proofs.check.check_in.Goals as goal

pub returns-clause-says : goal.returns-clause-says
returns-clause-says g c =
    let found = c.in_ok-first.ensures.found in
    let file = c.args.case_file.now in
    let told = g.F.Files.told c.finished-checked.new.files in
    moved_says _ _ told c.first_subject_in.ensures.files file found.0 found.1 c.finished-checked.result
    (λ reads. c.finished-checked.ensures.says file found.0 reads found.2)

pub returns-clause-files : goal.returns-clause-files
returns-clause-files g c =
    let found = c.in_ok-first.ensures.found in
    let file = c.args.case_file.now in
    moved_leaves _ _ _ c.first_subject_in.ensures.files file found.0 found.1 c.finished-checked.result
    (λ reads. c.finished-checked.ensures.files file found.0 reads found.2)
