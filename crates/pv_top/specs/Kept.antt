-- What laws say of what a check keeps, and of what it wrote.
use Rattle.std.specs.Prelude.{◌≡◌, ◌⊎◌, ℕ, List, Option, Some}
use Rattle.pv_edge.specs.Faults.{HasRisen}
use Rattle.pv_edge.specs.Files.{FileMap}
use Rattle.pv_edge.specs.Sink.{Takes}
use Rattle.pv_claims.specs.declared.trace.Ending.{Ending}
use Rattle.pv_cert.specs.declared.certificate.Certificate.{Certificate}
use Rattle.pv_report.specs.Reports.{status_of}
use Rattle.pv_command_show.specs.Handed.{SubjectData}
use Rattle.pv_command_check.specs.Handed.{verdict_text}
use Rattle.pv_command_recheck.specs.Rechecks.{HoldsRight}
use Rattle.pv_command_recheck.specs.Decided.{RechecksExactly}
use Rattle.pv_top.specs.Calls.{Call, IsTakenIn}

-- by these files the certificate is right, and whatever they decide of a recheck, it has the certificate's status, and the report of a check
-- that comes to it is what a sink takes
pub record RechecksAs (files : FileMap) (case_file file : List ℕ) (s : SubjectData) (c : Certificate) (ending : Option Ending) : Type 0 where
  pub holds : HoldsRight (Some files) case_file file s c
  pub of_status : (status : ℕ) (taken taken_after : Option (List ℕ))
      → RechecksExactly files case_file file status (λ text. Takes text taken taken_after) → status ≡ status_of c.claim
  pub report : (status : ℕ) (taken taken_after : Option (List ℕ))
      → RechecksExactly files case_file file status (λ text. Takes text taken taken_after)
      → Takes (verdict_text s c ending) taken taken_after

-- ---- two calls

-- they have one status, and one text was taken in both, as far as their sinks tell
pub record TellAlike {S T : Type 0} (first : Call S) (second : Call T) : Type 0 where
  pub status : second.status ≡ first.status
  pub text : List ℕ
  pub taken : IsTakenIn first text
  pub taken_again : IsTakenIn second text

-- so they do; or in the second call memory ended, or a count of faults rose: a file couldn't be read, or not all of the text was taken
pub data TellsAgain {S T : Type 0} (first : Call S) (second : Call T) : Type 0 where
  alike : TellAlike first second → TellsAgain first second
  no_memory : second.status ≡ 9 → TellsAgain first second
  unread : second.status ≡ 6 → HasRisen second.reads second.reads_after → TellsAgain first second
  unwritten : second.status ≡ 7 → HasRisen second.writes second.writes_after ⊎ HasRisen second.sink second.sink_after
      → TellsAgain first second
