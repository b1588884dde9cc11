-- What crates above name of the libraries below, handed on, so that their lines needn't list these.

pub use Rattle.pv_bool_load.specs.Handed.{IsFirstCase, Counts, Holds, HoldsBytes, IsUnread, IsSubject, OfCase, RefusesCase, Refusal, TableRefusal, case_refusal_line, fit_line, no_entry, of_case, of_fit, of_project, of_source, of_table, pattern_text, project_line, refusal_line, refusal_status, source_line, table_line, table_status, too_many_cells, AtOne, IsAsked, IsRefused, Stopped, StopsAt, no_memory, refused, stopped_status, stopped_text, stopped_unread, unread, case_stopped, fit_stopped, project_stopped, source_stopped, subject_status, subject_text, subject_unread, table_stopped, SubjectData, source_in, ReadStop, SubjectStop}
pub use Rattle.pv_bool_load.specs.Correct.{FilesDecideOneFirst}
pub use Rattle.pv_bool_load.specs.Forms.{ReadsFirst}
pub use Rattle.pv_bool_load.specs.Made.{IsFirstSubject}
pub use Rattle.pv_bool_load.specs.Refusals.{AsksFirst, FirstRefusal, RefusesAny, RefusesFirst, StopsAsAny, as_any, case_form, first_refusal_line, first_refusal_status, source_form}
pub use Rattle.pv_bool_load.specs.Stops.{StopsFirst, first_stop_status, first_stop_text, first_stop_unread}
pub use Rattle.pv_bool_load.specs.declared.stop.FirstStop.{FirstStop}
pub use Rattle.pv_bool_load.specs.declared.subject.FirstSubject.{FirstSubject}
pub use Rattle.pv_bool_load.specs.declared.stop.FirstStop.TheVariants as first_stop
pub use Rattle.pv_bool_load.specs.Handed.read_stop
pub use Rattle.pv_bool_load.specs.Handed.subject_stop
