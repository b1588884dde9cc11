pub use Rattle.pv_bool_load.proofs.ForCallers.{TellsUnread, no_file_fit, no_file_project, no_file_table, passed, stopped_tells, tells_of, none_unread, stopped_other, subject_other}
-- What proofs of crates above take.
pub use Rattle.pv_command_verdict.proofs.Reports.{no_place}
