-- What proofs of the crates above take from here: what the files hold decides a show.
pub use Rattle.pv_command_show.proofs.Exactly.{by_show, show_never_five, show_tells}
pub use Rattle.pv_command_replay.proofs.ForCallers.{Came, Laws, by_result, one_came, replay_tells, replays_exactly, TellsUnread, tells_of}
