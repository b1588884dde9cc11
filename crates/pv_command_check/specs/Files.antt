-- What a check does to files: it writes the certificate of a verdict, if the case names a file for it, and no other.
use Rattle.std.specs.Prelude.{◌≡◌, ◌≢◌, ℕ, List, Option, Some, None, Result, Ok, Err}
use Rattle.pv_edge.specs.Faults.{HasRisen}
use Rattle.pv_edge.specs.Files.{FileMap, Puts, PutsPart, Changes}
use Rattle.pv_claims.specs.declared.trace.Ending.{Ending}
use Rattle.pv_cert.specs.declared.certificate.Certificate.{Certificate}
use Rattle.pv_command_verdict.specs.Handed.{SubjectData}
use Rattle.pv_command_check.specs.declared.check.Checked.{Checked}
use Rattle.pv_command_check.specs.declared.stop.CheckStop.{CheckStop}
use Rattle.pv_command_check.specs.declared.stop.CheckStop.TheVariants as check_stop
use Rattle.pv_command_check.specs.Checks.{ComesTo, IsChecked}

-- the bytes are written to the file of this name, if there is one, and each other name holds what it held
abbrev pub Writes : Option (List ℕ) → List ℕ → Option FileMap → Option FileMap → Type 0
Writes None bytes old new = new ≡ old
Writes (Some name) bytes old new = Changes (Puts name bytes) old new

-- so it is with the certificate of the verdict on what the files hold
pub record KeepsIn (file : List ℕ) (r : Checked) (old new : Option FileMap) : Type 0 where
  pub checked : IsChecked old file r
  pub writes : Writes checked.subject.given.case.certificate r.certificate old new

-- A write failed: the named file holds what it held, or the certificate of a verdict on what the files hold from its beginning on, not all of
-- it maybe; and each other name holds what it held.
pub record FailsIn (file : List ℕ) (old new : Option FileMap) : Type 0 where
  pub subject : SubjectData
  pub bytes : List ℕ
  pub certificate : Certificate
  pub ending : Option Ending
  pub comes : ComesTo old file subject bytes certificate ending
  pub name : List ℕ
  pub named : subject.given.case.certificate ≡ Some name
  pub part : Changes (PutsPart name bytes) old new

abbrev pub LeavesFiles : List ℕ → Result Checked CheckStop → Option FileMap → Option FileMap → Type 0
LeavesFiles file (Ok r) old new = KeepsIn file r old new
LeavesFiles file (Err (check_stop.First stop)) old new = new ≡ old
LeavesFiles file (Err check_stop.TooManyEdges) old new = new ≡ old
LeavesFiles file (Err (check_stop.TooManyGates chain)) old new = new ≡ old
LeavesFiles file (Err check_stop.Unwritten) old new = FailsIn file old new
LeavesFiles file (Err check_stop.NoMemory) old new = new ≡ old

-- what the count of failed writes does in a check that ends with this status: it rises where the certificate can't be written, and stays
-- but there
pub record CountsWrites (status before after : ℕ) : Type 0 where
  pub rises : status ≡ 7 → HasRisen before after
  pub stays : status ≢ 7 → after ≡ before
