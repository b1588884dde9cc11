-- What crates above name of the libraries below, handed on, so that their lines needn't list these.

pub use Rattle.pv_command_load.specs.Held.{Counts, IsUnread}
pub use Rattle.pv_command_load.specs.Made.{IsSubject}
pub use Rattle.pv_command_load.specs.Positions.{FileText}
pub use Rattle.pv_command_load.specs.Refusals.{TableRefusal, no_entry, read_line, table_status, too_many_cells}
pub use Rattle.pv_command_load.specs.Stopped.{Stopped, no_memory, refused, stopped_status, unread}
pub use Rattle.pv_command_load.specs.Stops.{case_stopped, fit_stopped, project_stopped, source_stopped, subject_status, table_stopped, text_tree}
pub use Rattle.pv_command_load.specs.Subjects.{SubjectData, source_in, texts_of}
pub use Rattle.pv_command_load.specs.declared.subject.SubjectStop.{SubjectStop}
pub use Rattle.pv_command_load.specs.declared.subject.SubjectStop.TheVariants as subject_stop
