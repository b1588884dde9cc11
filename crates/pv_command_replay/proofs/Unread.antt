-- A replay with the status of a file that can't be read tells one that it asks for.
use Rattle.std.proofs.Common.{◌≡◌, inl, inr, ℕ, List, Option, Result, Ok, Err, arith}
use Rattle.pv_edge.specs.Files.{FileMap}
use Rattle.pv_command_load.specs.Subjects.{source_in}
use Rattle.pv_command_load.specs.Reads.{AsksSubject}
use Rattle.pv_command_load.proofs.ForCallers.{TellsUnread, stopped_tells, tells_of, subject_tells}
use Rattle.pv_command_replay.specs.declared.end.End.{End}
use Rattle.pv_command_replay.specs.declared.end.End.TheVariants.{Kept, Broken, Over, Reached, NotReached}
use Rattle.pv_command_replay.specs.declared.replay.Replayed.{Replayed}
use Rattle.pv_command_replay.specs.declared.replay.ReplayStop.{ReplayStop}
use Rattle.pv_command_replay.specs.declared.replay.ReplayStop.TheVariants as replay_stop
use Rattle.pv_command_replay.specs.Reports.{end_status}
use Rattle.pv_command_replay.specs.Traces.{HoldsNoTrace, trace_line, trace_stopped}
use Rattle.pv_command_replay.specs.Replays.{AsksReplay, StopsReplay, stop_status, stop_unread, stop_text, SaysReplay, replay_status, replay_unread, replay_text}

pub end_never_six : (end : End) → end_status end ≡ 6 → ⊥
end_never_six (Kept k) e = omega (arith, e)
end_never_six (Broken k by) e = omega (arith, e)
end_never_six (Over k place) e = omega (arith, e)
end_never_six (Reached k) e = omega (arith, e)
end_never_six (NotReached k trap) e = omega (arith, e)

module _ (told : Option FileMap) (case_file trace_file : List ℕ) where
  pub stop_tells : (stop : ReplayStop) → StopsReplay told case_file trace_file stop → stop_status stop ≡ 6
      → TellsUnread (AsksReplay told case_file trace_file) (stop_unread stop) (stop_text stop)
  stop_tells (replay_stop.Subject stop) is six =
      tells_of (AsksSubject told case_file) (AsksReplay told case_file trace_file) _ _ (λ name asked. inl asked)
      (subject_tells told case_file stop is six)
  stop_tells (replay_stop.Trace stop) is six =
      tells_of (λ name. name ≡ trace_file) (AsksReplay told case_file trace_file) _ _ (λ name same. inr ((is.0, is.1), same))
      (stopped_tells (λ name. name ≡ trace_file) (HoldsNoTrace told trace_file (source_in is.0)) (λ line. 8) trace_line (trace_stopped stop)
      (λ line e. absurd cc) is.2 six)
  stop_tells replay_stop.NoMemory is six = absurd (omega (arith, six))

  pub replay_tells : (result : Result Replayed ReplayStop) → SaysReplay told case_file trace_file result → replay_status result ≡ 6
      → TellsUnread (AsksReplay told case_file trace_file) (replay_unread result) (replay_text result)
  replay_tells (Ok r) says six = absurd (end_never_six r.end six)
  replay_tells (Err stop) says six = stop_tells stop says six
