use Rattle.pv_command_replay.proofs.ForCallers.{none_unread, subject_starts, subject_runs, ran_lies, all_read}
use Rattle.pv_command_replay.specs.declared.replay.ReplayStop.TheVariants.{NoMemory}
use Rattle.pv_command_show.proofs.Showing.{ran_values, says_shown, err_said, err_kept, err_told}
use Rattle.pv_command_show.proofs.show.show_in.Goals as goal

pub reported-requires : goal.reported-requires
reported-requires g c =
    let found = c.in_ok-ran.ensures.ran in
    ran_lies _ c.args.case_file.now c.args.trace_file.now found.0 c.in_ok-ran.ran found.1

pub scans_of-requires : goal.scans_of-requires
scans_of-requires g c =
    let found = c.in_ok-ran.ensures.ran in
    subject_runs c.views_keep_paths_types_and_starts.ensures.types _ c.args.case_file.now found.0 c.in_ok-ran.ran.subject
    found.1.replayed.reads found.1.subject

pub returns-clause-says : goal.returns-clause-says
returns-clause-says g c =
    let found = c.in_ok-ran.ensures.ran in
    let s = found.0 in
    says_shown _ c.args.case_file.now c.args.trace_file.now s c.in_ok-ran.ran _ found.1 c.reported.ensures.case c.reported.ensures.kind
    c.reported.ensures.sources c.reported.ensures.end
    (c.in_ok-scans.ensures s found.1.subject (subject_starts _ c.args.case_file.now s found.1.replayed.reads)
    (ran_values _ c.args.case_file.now c.args.trace_file.now s c.in_ok-ran.ran found.1))

pub returns-in_err-ran-clause-says : goal.returns-in_err-ran-clause-says
returns-in_err-ran-clause-says g c =
    err_said _ c.args.case_file.now c.args.trace_file.now c.from_residual.result c.in_err-ran.field-0.0
    c.from_residual.ensures.1 c.in_err-ran.ensures.stopped

pub returns-in_err-ran-clause-counted : goal.returns-in_err-ran-clause-counted
returns-in_err-ran-clause-counted g c =
    err_kept c.from_residual.result c.in_err-ran.field-0.0 _ _ c.from_residual.ensures.1 c.in_err-ran.ensures.counted

pub returns-in_err-scans-clause-counted : goal.returns-in_err-scans-clause-counted
returns-in_err-scans-clause-counted g c =
    err_kept c.from_residual-in_err-scans.result NoMemory _ _ c.from_residual-in_err-scans.ensures.1
    (all_read _ _ c.in_ok-ran.ensures.counted)

pub returns-in_err-scans-clause-says : goal.returns-in_err-scans-clause-says
returns-in_err-scans-clause-says g c =
    err_said _ c.args.case_file.now c.args.trace_file.now c.from_residual-in_err-scans.result NoMemory
    c.from_residual-in_err-scans.ensures.1 tt

pub returns-in_err-ran-clause-named : goal.returns-in_err-ran-clause-named
returns-in_err-ran-clause-named g c =
    err_told c.from_residual.result c.in_err-ran.field-0.0 _ c.from_residual.ensures.1 c.in_err-ran.ensures.named

pub returns-in_err-scans-clause-named : goal.returns-in_err-scans-clause-named
returns-in_err-scans-clause-named g c =
    err_told c.from_residual-in_err-scans.result NoMemory _ c.from_residual-in_err-scans.ensures.1 (none_unread _)
