-- What a run of the program promises: each field of `Promises` is one.
use Rattle.std.specs.Prelude.{◌≡◌, ◌≢◌, ◌≤◌, ◌⊎◌, ◌↔◌, ℕ, List, Some, IfSome, Result}
use Rattle.pv_edge.specs.Faults.{HasRisen}
use Rattle.pv_edge.specs.Files.{FileMap}
use Rattle.pv_edge.specs.declared.outside.SinkFault.{SinkFault}
use Rattle.pv_command_show.specs.Handed.{read_line, report_of, ReplaysExactly}
use Rattle.pv_command_show.specs.Shows.{show_of}
use Rattle.pv_top.specs.Words.{AreOfCheck, IsCommand, IsReplay, IsShow}
use Rattle.pv_top.specs.Calls.{Call, Asks, Answers, IsSettled, IsTakenIn}
use Rattle.pv_top.specs.Checks.{CheckPromises}
use Rattle.pv_top.specs.Rechecks.{RecheckPromises}

-- the line that is taken names this file: one that the command asks for, and the one of the last read that failed, as far as the files
-- tell that
pub record NamesUnread {S : Type 0} (call : Call S) : Type 0 where
  pub file : List ℕ
  pub asked : Asks call.told call.words file
  pub last : IfSome call.unread_after (λ name. name ≡ file)
  pub taken : IsTakenIn call (read_line file)

pub record Promises {S : Type 0} (sink_call : List ℕ → Result ℕ SinkFault → S → S → Type 0) (call : Call S) : Type 0 where
  pub answer : Answers sink_call call
  -- status 5 comes exactly where the words are no command's
  pub no_command : IsSettled call.status → (call.status ≡ 5) ↔ (IsCommand call.words → ⊥)
  pub check : CheckPromises call
  pub recheck : RecheckPromises call
  -- where the files tell their bytes, the status comes exactly where they hold what it says, and the text that goes with it is taken
  pub replay : (files : FileMap) (case_file trace_file : List ℕ) → call.told ≡ Some files → IsReplay call.words case_file trace_file
      → IsSettled call.status
      → ReplaysExactly report_of files case_file trace_file call.status (IsTakenIn call)
  -- so for a show, whose text has the scans
  pub show : (files : FileMap) (case_file trace_file : List ℕ) → call.told ≡ Some files → IsShow call.words case_file trace_file
      → IsSettled call.status
      → ReplaysExactly show_of files case_file trace_file call.status (IsTakenIn call)
  -- a check alone changes a file, and what is kept
  pub files_stay : (AreOfCheck call.words → ⊥) → call.told_after ≡ call.told
  pub kept_stays : (AreOfCheck call.words → ⊥) → call.kept_after ≡ call.kept
  pub no_writes : (AreOfCheck call.words → ⊥) → call.writes_after ≡ call.writes
  -- a read fault and a write fault are told only where a count of theirs rose. After a settled status that of reads is as before, and after
  -- each but a write fault those of writes and of the sink. Whatever the status is, that of reads is no less than before
  pub unread : call.status ≡ 6 → HasRisen call.reads call.reads_after
  pub names_unread : call.status ≡ 6 → NamesUnread call
  pub all_read : IsSettled call.status → call.reads_after ≡ call.reads
  pub never_falls : call.reads ≤ call.reads_after
  pub unwritten : call.status ≡ 7 → HasRisen call.writes call.writes_after ⊎ HasRisen call.sink call.sink_after
  pub all_written : call.status ≢ 7 → call.writes_after ≡ call.writes
  pub all_taken : call.status ≢ 7 → call.sink_after ≡ call.sink
