-- What proofs of the crates above take from here: what the files hold decides a check, and what a check's status goes with.
pub use Rattle.pv_command_check.proofs.Unread.{check_tells}
pub use Rattle.pv_command_check.proofs.Exactly.{check_never_five, HasText, check_has_text, CheckCame, had, refuses, check_came, checks_exactly}
