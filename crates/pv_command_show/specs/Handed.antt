-- What crates above name of the libraries below, handed on, so that their lines needn't list these.

pub use Rattle.pv_command_replay.specs.Handed.{Counts, IsUnread, TableRefusal, no_entry, read_line, table_status, too_many_cells, Stopped, no_memory, refused, stopped_status, unread, case_stopped, fit_stopped, project_stopped, source_stopped, subject_status, table_stopped, SubjectData, SubjectStop}
pub use Rattle.pv_command_replay.specs.Replays.{AsksReplay, ReplaysExactly, SaysReplay, replay_status, replay_text, replay_unread, report_of, stop_status, stop_text}
pub use Rattle.pv_command_replay.specs.Reports.{end_status}
pub use Rattle.pv_command_replay.specs.Traces.{trace_stopped}
pub use Rattle.pv_command_replay.specs.declared.end.End.{End}
pub use Rattle.pv_command_replay.specs.declared.end.End.TheVariants.{Broken, Kept, NotReached, Over, Reached}
pub use Rattle.pv_command_replay.specs.declared.replay.ReplayStop.{ReplayStop}
pub use Rattle.pv_command_replay.specs.declared.replay.Replayed.{Replayed}
pub use Rattle.pv_command_replay.specs.Handed.subject_stop
pub use Rattle.pv_command_replay.specs.declared.replay.ReplayStop.TheVariants as replay_stop
