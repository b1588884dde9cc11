pub use Rattle.pv_bool_case.proofs.ForCallers.{only_entered}
pub use Rattle.pv_command_load.proofs.ForCallers.{TellsUnread, blocks_short, blocks_spelled, no_file_fit, no_file_project, no_file_table, none_unread, passed, source_runs, stopped_other, stopped_tells, subject_other, tells_of}

-- What proofs of crates above take.
