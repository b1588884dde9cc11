-- The first fault of a certificate's bytes, its line and kind; the first circuit past the limit on gates; and what judging answers.
use Rattle.std.specs.Prelude.{◌≡◌, ℕ, List, Some, Result, Ok, Err}
use Rattle.pv_cert.specs.declared.certificate.Certificate.{Certificate}
use Rattle.pv_cert.specs.CertificateText.{IsTextOf, FailsAt}
use Rattle.pv_valid.specs.declared.fault.Kind.{Kind}
use Rattle.pv_valid.specs.declared.fault.Kind.TheVariants.{NotACertificate}
use Rattle.pv_valid.specs.declared.fault.Kind.TheVariants as kind
use Rattle.pv_valid.specs.declared.fault.Fault.{Fault}
use Rattle.pv_valid.specs.declared.fault.Fault.TheVariants.{TooManyGates, Line, NoMemory}
use Rattle.pv_valid.specs.declared.fault.Verdict.{Verdict}
use Rattle.pv_valid.specs.Cases.{Case}
use Rattle.pv_valid.specs.Validity.{IsValid}
use Rattle.pv_valid.specs.Walk.{certificate_fault}

-- the bytes are a certificate's text, and this is wrong first with it
pub record HasContents (case : Case) (bytes : List ℕ) (fault : Fault) : Type 0 where
  pub certificate : Certificate
  pub is_text : IsTextOf bytes certificate
  pub first : certificate_fault case certificate ≡ Some fault

-- this is the first fault: where the bytes are no certificate's text it is the grammar's, and else that of the contents
abbrev pub IsFirstFault : Case → List ℕ → ℕ → Kind → Type 0
IsFirstFault case bytes at NotACertificate = FailsAt bytes at
IsFirstFault case bytes at (kind.Line fault) = HasContents case bytes (Line at (kind.Line fault))
IsFirstFault case bytes at kind.NoEmpty = HasContents case bytes (Line at kind.NoEmpty)
IsFirstFault case bytes at kind.WrongQuery = HasContents case bytes (Line at kind.WrongQuery)
IsFirstFault case bytes at kind.TraceDiffers = HasContents case bytes (Line at kind.TraceDiffers)
IsFirstFault case bytes at kind.WrongBudget = HasContents case bytes (Line at kind.WrongBudget)
IsFirstFault case bytes at kind.WrongNeed = HasContents case bytes (Line at kind.WrongNeed)

-- a proof's circuit passes the limit on gates, and nothing before it is at fault
abbrev pub IsFirstPast : Case → List ℕ → Type 0
IsFirstPast case bytes = HasContents case bytes TooManyGates

-- ---- answers

-- what is answered of bytes
abbrev pub Answers : Case → List ℕ → Result Verdict Fault → Type 0
Answers case bytes (Ok verdict) = IsValid case bytes verdict
Answers case bytes (Err TooManyGates) = IsFirstPast case bytes
Answers case bytes (Err (Line at why)) = IsFirstFault case bytes at why
Answers case bytes (Err NoMemory) = Unit {0}
