-- What the command `recheck CASE CERTIFICATE` says.
use Rattle.std.specs.Prelude.{◌≡◌, ℕ, List, Option, Some, None, Result, Ok, Err}
use Rattle.pv_edge.specs.Files.{FileMap}
use Rattle.pv_claims.specs.declared.trace.Ending.{Ending}
use Rattle.pv_cert.specs.declared.certificate.Certificate.{Certificate}
use Rattle.pv_cert.specs.CertificateText.{IsTextOf}
use Rattle.pv_valid.specs.Validity.{IsRight}
use Rattle.pv_report.specs.Reports.{status_of}
use Rattle.pv_command_verdict.specs.Handed.{Holds, stopped_status, stopped_unread, stopped_text, SubjectData, ReadsFirst, StopsFirst, first_stop_status, first_stop_unread, first_stop_text}
use Rattle.pv_command_verdict.specs.Sizes.{HasTooManyEdges}
use Rattle.pv_command_verdict.specs.Cases.{case_in}
use Rattle.pv_command_verdict.specs.Verdicts.{verdict_text, IsVerdict}
use Rattle.pv_command_recheck.specs.declared.recheck.Rechecked.{Rechecked}
use Rattle.pv_command_recheck.specs.declared.stop.RecheckStop.{RecheckStop}
use Rattle.pv_command_recheck.specs.declared.stop.RecheckStop.TheVariants as recheck_stop
use Rattle.pv_command_recheck.specs.Certificates.{certificate_status, certificate_line, certificate_stopped, StopsCertificate}

-- ---- a certificate

-- the files hold what the command works on, whose block has no more edges than it may, and the text of this certificate, which is right for
-- it: so its bytes are valid
pub record HoldsRight (told : Option FileMap) (case_file file : List ℕ) (s : SubjectData) (c : Certificate) : Type 0 where
  pub reads : ReadsFirst told case_file s
  pub few : HasTooManyEdges s → ⊥
  pub bytes : List ℕ
  pub held : Holds told file bytes
  pub is_text : IsTextOf bytes c
  pub is_right : IsRight (case_in s) c

-- so they do, its trace ends so, and what it says is so of the runs of the source, whoever wrote it
pub record HoldsVerdict (told : Option FileMap) (case_file file : List ℕ) (s : SubjectData) (c : Certificate) (ending : Option Ending) : Type 0 where
  pub reads : ReadsFirst told case_file s
  pub few : HasTooManyEdges s → ⊥
  pub bytes : List ℕ
  pub held : Holds told file bytes
  pub is : IsVerdict s bytes c ending

-- ---- what a recheck comes to

-- they hold it, and this is its claim and the report of a check that comes to it
pub record IsReported (told : Option FileMap) (case_file file : List ℕ) (r : Rechecked) : Type 0 where
  pub subject : SubjectData
  pub certificate : Certificate
  pub ending : Option Ending
  pub holds : HoldsVerdict told case_file file subject certificate ending
  pub claim : r.claim ≡ certificate.claim
  pub report : r.report.items ≡ verdict_text subject certificate ending

-- why it stops: what it stops at is at fault, and all before is as it should be; nothing is said of want of memory
abbrev pub StopsRecheck : Option FileMap → List ℕ → List ℕ → RecheckStop → Type 0
StopsRecheck told case_file file (recheck_stop.First stop) = StopsFirst told case_file stop
StopsRecheck told case_file file (recheck_stop.Certificate stop) =
    (s : SubjectData) × ReadsFirst told case_file s × StopsCertificate told file s stop
StopsRecheck told case_file file recheck_stop.NoMemory = Unit {0}

-- what a recheck came to is so
abbrev pub SaysRecheck : Option FileMap → List ℕ → List ℕ → Result Rechecked RecheckStop → Type 0
SaysRecheck told case_file file (Ok r) = IsReported told case_file file r
SaysRecheck told case_file file (Err stop) = StopsRecheck told case_file file stop

-- ---- status and text

abbrev pub recheck_stop_status : RecheckStop → ℕ
recheck_stop_status (recheck_stop.First stop) = first_stop_status stop
recheck_stop_status (recheck_stop.Certificate stop) =
    stopped_status certificate_status (certificate_stopped stop)
recheck_stop_status recheck_stop.NoMemory = 9

abbrev pub recheck_status : Result Rechecked RecheckStop → ℕ
recheck_status (Ok r) = status_of r.claim
recheck_status (Err stop) = recheck_stop_status stop

-- the file that is told as one that can't be read
abbrev pub recheck_stop_unread : RecheckStop → Option (List ℕ)
recheck_stop_unread (recheck_stop.First stop) = first_stop_unread stop
recheck_stop_unread (recheck_stop.Certificate stop) =
    stopped_unread (certificate_stopped stop)
recheck_stop_unread recheck_stop.NoMemory = None

abbrev pub recheck_unread : Result Rechecked RecheckStop → Option (List ℕ)
recheck_unread (Ok r) = None
recheck_unread (Err stop) = recheck_stop_unread stop

-- what is printed, none where memory ends
abbrev pub recheck_stop_text : RecheckStop → Option (List ℕ)
recheck_stop_text (recheck_stop.First stop) = first_stop_text stop
recheck_stop_text (recheck_stop.Certificate stop) =
    stopped_text certificate_line (certificate_stopped stop)
recheck_stop_text recheck_stop.NoMemory = None

abbrev pub recheck_text : Result Rechecked RecheckStop → Option (List ℕ)
recheck_text (Ok r) = Some r.report.items
recheck_text (Err stop) = recheck_stop_text stop
