-- What the command `check CASE` says.
use Rattle.std.specs.Prelude.{◌≡◌, ℕ, List, Option, Some, None, Result, Ok, Err}
use Rattle.pv_edge.specs.Files.{FileMap}
use Rattle.pv_claims.specs.declared.trace.Ending.{Ending}
use Rattle.pv_cert.specs.declared.certificate.Certificate.{Certificate}
use Rattle.pv_report.specs.Reports.{status_of}
use Rattle.pv_command_verdict.specs.Handed.{SubjectData, source_in, StopsFirst, first_stop_status, first_stop_unread, first_stop_text}
use Rattle.pv_command_verdict.specs.Sizes.{edges_line, gates_line}
use Rattle.pv_command_verdict.specs.Sayings.{IsInOrder}
use Rattle.pv_command_verdict.specs.Bounds.{IsComplete}
use Rattle.pv_command_verdict.specs.Verdicts.{verdict_text, IsVerdict}
use Rattle.pv_command_check.specs.declared.check.Checked.{Checked}
use Rattle.pv_command_check.specs.declared.stop.CheckStop.{CheckStop}
use Rattle.pv_command_check.specs.declared.stop.CheckStop.TheVariants as check_stop
use Rattle.pv_command_check.specs.Refusals.{ReadsChecked, RefusesCheck, too_many_edges, too_many_gates, chain_text}

-- ---- a verdict

-- The files hold what the command works on, and this is a verdict on it: its certificate is right, what it says of the source is so, no step
-- query before the last one closes, and what can be decided within the limits is decided. No reduction is made, whichever the case names.
pub record ComesTo (told : Option FileMap) (file : List ℕ) (s : SubjectData) (bytes : List ℕ) (c : Certificate) (ending : Option Ending) : Type 0 where
  pub reads : ReadsChecked told file s
  pub is : IsVerdict s bytes c ending
  pub order : IsInOrder (source_in s) s.pattern c
  pub complete : IsComplete s c

-- so it is, and this is its claim, its certificate's text and its report
pub record IsChecked (told : Option FileMap) (file : List ℕ) (r : Checked) : Type 0 where
  pub subject : SubjectData
  pub certificate : Certificate
  pub ending : Option Ending
  pub comes : ComesTo told file subject r.certificate certificate ending
  pub claim : r.claim ≡ certificate.claim
  pub report : r.report.items ≡ verdict_text subject certificate ending

-- ---- why it stops

-- what it stops at is at fault, and all before is as it should be; the file that can't be written is the one that the case names for the
-- certificate of a verdict; nothing is said of want of memory
abbrev pub StopsCheck : Option FileMap → List ℕ → CheckStop → Type 0
StopsCheck told file (check_stop.First stop) = StopsFirst told file stop
StopsCheck told file check_stop.TooManyEdges = RefusesCheck told file too_many_edges
StopsCheck told file (check_stop.TooManyGates chain) = RefusesCheck told file too_many_gates × (chain ≡ chain_text)
StopsCheck told file check_stop.Unwritten = (s : SubjectData) × (name : List ℕ) × ReadsChecked told file s
    × (s.given.case.certificate ≡ Some name)
StopsCheck told file check_stop.NoMemory = Unit {0}

-- what a check came to is so
abbrev pub SaysCheck : Option FileMap → List ℕ → Result Checked CheckStop → Type 0
SaysCheck told file (Ok r) = IsChecked told file r
SaysCheck told file (Err stop) = StopsCheck told file stop

-- ---- status, text, and the file that can't be read

abbrev pub check_stop_status : CheckStop → ℕ
check_stop_status (check_stop.First stop) = first_stop_status stop
check_stop_status check_stop.TooManyEdges = 3
check_stop_status (check_stop.TooManyGates chain) = 3
check_stop_status check_stop.Unwritten = 7
check_stop_status check_stop.NoMemory = 9

abbrev pub check_status : Result Checked CheckStop → ℕ
check_status (Ok r) = status_of r.claim
check_status (Err stop) = check_stop_status stop

-- the file that is told as one that can't be read
abbrev pub check_stop_unread : CheckStop → Option (List ℕ)
check_stop_unread (check_stop.First stop) = first_stop_unread stop
check_stop_unread check_stop.TooManyEdges = None
check_stop_unread (check_stop.TooManyGates chain) = None
check_stop_unread check_stop.Unwritten = None
check_stop_unread check_stop.NoMemory = None

abbrev pub check_unread : Result Checked CheckStop → Option (List ℕ)
check_unread (Ok r) = None
check_unread (Err stop) = check_stop_unread stop

-- what is printed, none where memory ends or the certificate can't be written
abbrev pub check_stop_text : CheckStop → Option (List ℕ)
check_stop_text (check_stop.First stop) = first_stop_text stop
check_stop_text check_stop.TooManyEdges = Some edges_line
check_stop_text (check_stop.TooManyGates chain) = Some gates_line
check_stop_text check_stop.Unwritten = None
check_stop_text check_stop.NoMemory = None

abbrev pub check_text : Result Checked CheckStop → Option (List ℕ)
check_text (Ok r) = Some r.report.items
check_text (Err stop) = check_stop_text stop

-- ---- what is kept

-- what there is to keep once the text was taken whole: the certificate's bytes, or the line of the chain
abbrev pub check_stop_keeps : CheckStop → Option (List ℕ)
check_stop_keeps (check_stop.First stop) = None
check_stop_keeps check_stop.TooManyEdges = None
check_stop_keeps (check_stop.TooManyGates chain) = Some chain
check_stop_keeps check_stop.Unwritten = None
check_stop_keeps check_stop.NoMemory = None

abbrev pub check_keeps : Result Checked CheckStop → Option (List ℕ)
check_keeps (Ok r) = Some r.certificate
check_keeps (Err stop) = check_stop_keeps stop
