-- What proofs of the crates above take from here.
pub use Rattle.pv_parse_stmt.proofs.ArgLaws.{FrontLawful, argument_of, argument_value_1, argument_value_2, behind_append, first_argument_1, more_arguments_1, more_arguments_2, next_argument_1, numbered_hash_1, one_behind, plain_hash_1, quoted_hash_1}
pub use Rattle.pv_parse_stmt.proofs.ArgRuns.{Named, behind_mark, first_made, more_made, named}
pub use Rattle.pv_parse_stmt.proofs.PathLaws.{area_target, called_by, callee_second, firm_callee, firm_target, hash_callee, hash_target, target_field, target_on, target_read, target_step, target_to, word_callee, word_path, word_target}
pub use Rattle.pv_parse_stmt.proofs.SingleTexts.{single-continue, single-exit, single-return}
pub use Rattle.pv_parse_stmt.proofs.TailRuns.{Fronts, Split, a_firm_one, a_read, split, tails_to}
