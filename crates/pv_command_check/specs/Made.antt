-- What the stages of a check make and pass on, by the code's types. No public clause cites these.
use Rattle.std.specs.Prelude.{◌≡◌, ℕ, List, Option, Result, Ok, Err, IsSomeAnd}
use Rattle.pv_edge.specs.Files.{FileMap, PutsPart, Changes}
use Rattle.pv_claims.specs.declared.trace.Ending.{Ending}
use Rattle.pv_cert.specs.declared.certificate.Certificate.{Certificate}
use Rattle.pv_kind.specs.declared.told.OracleFault.{OracleFault}
use Rattle.pv_kind.specs.declared.told.OracleFault.TheVariants as oracle
use Rattle.pv_command_verdict.specs.Handed.{SubjectData}
use Rattle.pv_command_verdict.specs.Sizes.{HasTooManyEdges}
use Rattle.pv_command_verdict.specs.Verdicts.{verdict_text}
use Rattle.pv_command_verdict.specs.Made.{IsEvidenceOf}
use Rattle.pv_command_check.specs.declared.check.Checked.{Checked}
use Rattle.pv_command_check.specs.declared.stop.CheckStop.{CheckStop}
use Rattle.pv_command_check.specs.declared.stop.CheckStop.TheVariants as check_stop
use Rattle.pv_command_check.specs.Refusals.{chain_text}
use Rattle.pv_command_check.specs.Checks.{ComesTo, check_stop_status}
use Rattle.pv_command_check.specs.Files.{Writes}

-- ---- what is decided

-- a stop by what an oracle was stopped by
abbrev pub IsStopOf : OracleFault → CheckStop → Type 0
IsStopOf fault (check_stop.First stop) = ⊥
IsStopOf fault check_stop.TooManyEdges = ⊥
IsStopOf fault (check_stop.TooManyGates chain) = (fault ≡ oracle.Gates) × (chain ≡ chain_text)
IsStopOf fault check_stop.Unwritten = ⊥
IsStopOf fault check_stop.NoMemory = Unit {0}

-- evidence of a verdict on a block that has no more edges than it may
pub record IsDecided (s : SubjectData) (c : Certificate) (ending : Option Ending) : Type 0 where
  pub evidence : IsEvidenceOf s c ending
  pub few : HasTooManyEdges s → ⊥

-- a verdict on what is worked on, with its texts
pub record IsCheckedOf (told : Option FileMap) (file : List ℕ) (s : SubjectData) (r : Checked) : Type 0 where
  pub certificate : Certificate
  pub ending : Option Ending
  pub comes : ComesTo told file s r.certificate certificate ending
  pub claim : r.claim ≡ certificate.claim
  pub report : r.report.items ≡ verdict_text s certificate ending

-- ---- what is written

-- what becomes of the files by a write to the file of this name, if there is one, which stops so, or ends so
abbrev pub LeavesStopped : Option (List ℕ) → List ℕ → CheckStop → Option FileMap → Option FileMap → Type 0
LeavesStopped name bytes (check_stop.First stop) old new = ⊥
LeavesStopped name bytes check_stop.TooManyEdges old new = ⊥
LeavesStopped name bytes (check_stop.TooManyGates chain) old new = ⊥
LeavesStopped name bytes check_stop.Unwritten old new = IsSomeAnd name (λ n. Changes (PutsPart n bytes) old new)
LeavesStopped name bytes check_stop.NoMemory old new = new ≡ old

abbrev pub LeavesBy : {X : Type 0} → Option (List ℕ) → List ℕ → Result X CheckStop → Option FileMap → Option FileMap → Type 0
LeavesBy name bytes (Ok x) old new = Writes name bytes old new
LeavesBy name bytes (Err stop) old new = LeavesStopped name bytes stop old new

-- a status by which a stop is counted
abbrev pub status_by : {X : Type 0} → Result X CheckStop → ℕ
status_by (Ok x) = 0
status_by (Err stop) = check_stop_status stop
