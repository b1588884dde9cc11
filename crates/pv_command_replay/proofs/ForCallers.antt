-- What proofs of the crates above take from here: what the files hold decides a replay, what a run begins with, and that it is made
-- unless memory runs out.
pub use Rattle.pv_command_replay.proofs.Exactly.{Laws, Came, ends, by_stop, by_result, one_came, replays_exactly, end_never_five, stop_never_five, never_five, stop_has_text, has_text}
pub use Rattle.pv_command_replay.proofs.TraceLaws.{one_trace_held, has_values}
pub use Rattle.pv_command_replay.proofs.Starts.{subject_starts}
pub use Rattle.pv_command_replay.proofs.Runs.{subject_runs}
pub use Rattle.pv_command_replay.proofs.Saying.{ran_lies, reported_as, all_read}
pub use Rattle.pv_command_replay.proofs.Unread.{end_never_six, stop_tells, replay_tells}
pub use Rattle.pv_command_load.proofs.ForCallers.{TellsUnread, none_unread, tells_of}
