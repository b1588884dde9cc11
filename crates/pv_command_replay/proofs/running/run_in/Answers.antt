use Rattle.std.proofs.Common.{refl, sym, subst, ◌∙◌}
use Rattle.pv_command_load.specs.Subjects.{source_in}
use Rattle.pv_command_load.specs.Held.{IsUnread}
use Rattle.pv_command_load.proofs.ForCallers.{none_unread}
use Rattle.pv_command_replay.specs.Replays.{StopsReplay, stop_unread}
use Rattle.pv_command_replay.specs.declared.replay.ReplayStop.TheVariants.{Trace as AtTrace, NoMemory}
use Rattle.pv_command_replay.proofs.Starts.{subject_starts}
use Rattle.pv_command_replay.proofs.Runs.{subject_runs}
use Rattle.pv_command_replay.proofs.TraceLaws.{err_passed}
use Rattle.pv_command_replay.proofs.Saying.{says_ran, says_stopped, err_counted, all_read}
use Rattle.pv_command_replay.proofs.running.run_in.Goals as goal

pub end_of-requires : goal.end_of-requires
end_of-requires g c =
    let found = c.in_ok-subject.ensures.found in
    subject_runs c.views_keep_paths_types_and_starts.ensures.types _ c.args.case_file.now found.0 c.in_ok-subject.subject found.1 found.2

pub returns-clause-ran : goal.returns-clause-ran
returns-clause-ran g c =
    let found = c.in_ok-subject.ensures.found in
    let s = found.0 in (
      s,
      says_ran _ _ c.args.case_file.now c.args.trace_file.now c.in_ok-subject.subject s c.in_ok-trace.trace c.in_ok-end.end found.1 found.2
          c.in_ok-subject.ensures.files (c.in_ok-trace.ensures.found (source_in s) (sym (c.cells.ensures ∙ found.2.cells)))
          (λ values. c.in_ok-end.ensures s found.2 (subject_starts _ c.args.case_file.now s found.1) values)
          (λ ends. c.ends_lie_in_sources.ensures _ c.args.case_file.now s c.in_ok-trace.trace.params c.in_ok-trace.trace.inputs
          c.in_ok-end.end found.1 ends),
    )

pub returns-in_err-trace-clause-stopped : goal.returns-in_err-trace-clause-stopped
returns-in_err-trace-clause-stopped g c =
    let found = c.in_ok-subject.ensures.found in
    let s = found.0 in
    err_passed (StopsReplay _ c.args.case_file.now c.args.trace_file.now) c.from_residual-in_err-trace.result
    (AtTrace c.in_err-trace.field-0.0) c.from_residual-in_err-trace.ensures.1
    (says_stopped _ _ c.args.case_file.now c.args.trace_file.now c.in_ok-subject.subject s c.in_err-trace.field-0.0 found.1
    c.in_ok-subject.ensures.files (c.in_err-trace.ensures.stopped (source_in s) (sym (c.cells.ensures ∙ found.2.cells))))

pub returns-in_err-trace-clause-counted : goal.returns-in_err-trace-clause-counted
returns-in_err-trace-clause-counted g c =
    err_counted c.from_residual-in_err-trace.result (AtTrace c.in_err-trace.field-0.0) _ _ _ c.from_residual-in_err-trace.ensures.1
    c.in_ok-subject.ensures.counted c.in_err-trace.ensures.counted

pub returns-in_err-end-clause-counted : goal.returns-in_err-end-clause-counted
returns-in_err-end-clause-counted g c =
    err_counted c.from_residual-in_err-end.result NoMemory _ _ _ c.from_residual-in_err-end.ensures.1 refl
    (all_read _ _ (c.in_ok-trace.ensures.counted ∙ c.in_ok-subject.ensures.counted))

pub returns-in_err-trace-clause-named : goal.returns-in_err-trace-clause-named
returns-in_err-trace-clause-named g c =
    err_passed (λ stop. IsUnread (stop_unread stop) _) c.from_residual-in_err-trace.result (AtTrace c.in_err-trace.field-0.0)
    c.from_residual-in_err-trace.ensures.1 c.in_err-trace.ensures.named

pub returns-in_err-end-clause-named : goal.returns-in_err-end-clause-named
returns-in_err-end-clause-named g c =
    err_passed (λ stop. IsUnread (stop_unread stop) _) c.from_residual-in_err-end.result NoMemory c.from_residual-in_err-end.ensures.1
    (none_unread _)
