-- What proofs of crates above cite: the texts of a case and the blocks of sources as the code has them, and the stages by which files
-- decide one thing that a command works on; that this is run, and tokens spell its blocks; and that what is at fault lies in one of the
-- sources.
pub use Rattle.pv_command_load.proofs.Exits.{passed}
pub use Rattle.pv_command_load.proofs.Located.{held_read, are_read, among, breach_lies, breaches_lie}
pub use Rattle.pv_command_load.proofs.CaseTexts.{HasTexts, has_texts, code_count, code_short}
pub use Rattle.pv_command_load.proofs.EntryLaws.{entry_below, some_there, there_below}
pub use Rattle.pv_command_load.proofs.SubjectLaws.{is_case, held_texts, given_by, are_given, reads_sources, reads_kept, reads_project, reads_table}
pub use Rattle.pv_command_load.proofs.Sourced.{has_source, source_runs}
pub use Rattle.pv_command_load.proofs.Texts.{blocks_short, blocks_spelled}
pub use Rattle.pv_command_load.proofs.SubjectLaws.{no_file_project, no_file_table, no_file_fit}
pub use Rattle.pv_command_load.proofs.Unread.{none_unread, stopped_other, subject_other, TellsUnread, stopped_tells, tells_of, subject_tells}
pub use Rattle.pv_command_load.proofs.OneCase.{one_held, held_both, CaseLaws, one_case, one_refused, case_apart}
pub use Rattle.pv_command_load.proofs.OneSource.{IsOneJudgement, one_list, one_at, list_apart}
pub use Rattle.pv_command_load.proofs.OneSubject.{RuleLaws, one_breach, breach_apart, TextLaws, one_table, table_once, table_apart, PatternLaws, fit_once, one_fit, fit_apart}
pub use Rattle.pv_command_load.proofs.OneReading.{Laws, one_given, moved, Of, entered_again, sources_once, project_once, tables_once, fits_once, case_read, sources_read, project_read, table_read, fit_read, one_refusal, apart, one_subject, decide_one}
