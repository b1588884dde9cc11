use Rattle.pv_command_replay.proofs.Saying.{ran_lies, says_replayed, err_said, err_kept, err_told}
use Rattle.pv_command_replay.proofs.running.replay_in.Goals as goal

pub reported-requires : goal.reported-requires
reported-requires g c =
    let found = c.in_ok-ran.ensures.ran in
    ran_lies _ c.args.case_file.now c.args.trace_file.now found.0 c.in_ok-ran.ran found.1

pub returns-clause-says : goal.returns-clause-says
returns-clause-says g c =
    let found = c.in_ok-ran.ensures.ran in
    says_replayed _ c.args.case_file.now c.args.trace_file.now found.0 c.in_ok-ran.ran c.reported.result found.1
    c.reported.ensures.case c.reported.ensures.kind c.reported.ensures.sources c.reported.ensures.end

pub returns-in_err-ran-clause-says : goal.returns-in_err-ran-clause-says
returns-in_err-ran-clause-says g c =
    err_said _ c.args.case_file.now c.args.trace_file.now c.from_residual.result c.in_err-ran.field-0.0 c.from_residual.ensures.1
    c.in_err-ran.ensures.stopped

pub returns-in_err-ran-clause-counted : goal.returns-in_err-ran-clause-counted
returns-in_err-ran-clause-counted g c =
    err_kept c.from_residual.result c.in_err-ran.field-0.0 _ _ c.from_residual.ensures.1 c.in_err-ran.ensures.counted

pub returns-in_err-ran-clause-named : goal.returns-in_err-ran-clause-named
returns-in_err-ran-clause-named g c =
    err_told c.from_residual.result c.in_err-ran.field-0.0 _ c.from_residual.ensures.1 c.in_err-ran.ensures.named
