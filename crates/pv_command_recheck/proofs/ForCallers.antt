-- What proofs of the crates above take from here: what the files hold decides a recheck, and what a recheck's status goes with.
pub use Rattle.pv_command_recheck.proofs.Unread.{recheck_other, recheck_tells}
pub use Rattle.pv_command_recheck.proofs.Exactly.{recheck_never_five, HasText, recheck_has_text, recheck_told, RecheckCame, recheck_came, one_came, rechecks_exactly}
