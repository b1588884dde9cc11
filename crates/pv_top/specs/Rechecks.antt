-- What a run with the words `recheck CASE CERTIFICATE` promises.
use Rattle.std.specs.Prelude.{◌≡◌, ℕ, List, Some}
use Rattle.pv_edge.specs.Files.{FileMap}
use Rattle.pv_command_check.specs.Decided.{HasVerdict}
use Rattle.pv_command_recheck.specs.Decided.{IsTold, RechecksExactly}
use Rattle.pv_top.specs.Words.{IsRecheck}
use Rattle.pv_top.specs.Calls.{Call, IsSettled, IsTakenIn}

pub record RechecksSo {S : Type 0} (call : Call S) (case_file file : List ℕ) : Type 0 where
  -- a verdict comes only where the certificate is right, and what it says is so, whoever wrote it
  pub verdict : HasVerdict call.status → IsTold call.told case_file file call.status (IsTakenIn call)
  -- where the files tell their bytes, each status comes exactly where they hold what it says, and the text that goes with it is taken
  pub exactly : (files : FileMap) → call.told ≡ Some files → IsSettled call.status
      → RechecksExactly files case_file file call.status (IsTakenIn call)

abbrev pub RecheckPromises : {S : Type 0} → Call S → Type 0
RecheckPromises call = (case_file file : List ℕ) → IsRecheck call.words case_file file → RechecksSo call case_file file
