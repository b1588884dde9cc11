-- What crates above name of the libraries below, handed on, so that their lines needn't list these.

pub use Rattle.pv_bool_case.specs.Forms.{IsFirstCase}
pub use Rattle.pv_command_load.specs.Held.{Counts, Holds, HoldsBytes, IsUnread}
pub use Rattle.pv_command_load.specs.Made.{IsSubject}
pub use Rattle.pv_command_load.specs.Positions.{FileText}
pub use Rattle.pv_command_load.specs.Reads.{OfCase, Reads, RefusesCase}
pub use Rattle.pv_command_load.specs.Refusals.{Refusal, TableRefusal, case_refusal_line, fit_line, limit_line, no_entry, of_case, of_fit, of_project, of_source, of_table, pattern_text, project_line, refusal_line, refusal_status, source_line, table_line, table_status, too_many_cells}
pub use Rattle.pv_command_load.specs.Sources.{AtOne, IsAsked, IsRefused}
pub use Rattle.pv_command_load.specs.Stopped.{Stopped, StopsAt, no_memory, refused, stopped_status, stopped_text, stopped_unread, unread}
pub use Rattle.pv_command_load.specs.Stops.{case_stopped, fit_stopped, project_stopped, source_stopped, subject_status, subject_text, subject_unread, table_stopped, text_tree}
pub use Rattle.pv_command_load.specs.Subjects.{SubjectData, blocks_of, project_of, scope_of, source_in, texts_of}
pub use Rattle.pv_command_load.specs.declared.position.SourceText.{SourceText}
pub use Rattle.pv_command_load.specs.declared.reading.ReadStop.{ReadStop}
pub use Rattle.pv_command_load.specs.declared.subject.Subject.{Subject}
pub use Rattle.pv_command_load.specs.declared.subject.SubjectStop.{SubjectStop}
pub use Rattle.pv_command_load.specs.declared.reading.ReadStop.TheVariants as read_stop
pub use Rattle.pv_command_load.specs.declared.subject.SubjectStop.TheVariants as subject_stop
