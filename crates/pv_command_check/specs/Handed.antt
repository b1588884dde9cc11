-- What crates above name of the libraries below, handed on, so that their lines needn't list these.

pub use Rattle.pv_command_verdict.specs.Handed.{ReadsFirst, AsksFirst, first_stop_status, FirstStop, Counts, IsUnread, SubjectData, source_in}
pub use Rattle.pv_command_verdict.specs.Bounds.{IsComplete, IsProvedBy, IsShownBy, IsSpent}
pub use Rattle.pv_command_verdict.specs.Cases.{case_in}
pub use Rattle.pv_command_verdict.specs.Sayings.{FailsBy, IsInOrder, SaysOfSource, asked_last}
pub use Rattle.pv_command_verdict.specs.Verdicts.{verdict_text}
pub use Rattle.pv_command_verdict.specs.Handed.first_stop
