-- What the stages of a recheck make and pass on, by the code's types. No public clause cites these.
use Rattle.std.specs.Prelude.{◌≡◌, ℕ, List}
use Rattle.pv_claims.specs.declared.fault.CertFault.{CertFault}
use Rattle.pv_claims.specs.declared.fault.CertFault.TheVariants as cert_fault
use Rattle.pv_cert.specs.declared.certificate.Certificate.{Certificate}
use Rattle.pv_cert.specs.CertificateText.{IsTextOf}
use Rattle.pv_valid.specs.declared.fault.Kind.TheVariants.{NotACertificate}
use Rattle.pv_valid.specs.declared.fault.Fault.{Fault}
use Rattle.pv_valid.specs.declared.fault.Fault.TheVariants as fault
use Rattle.pv_valid.specs.declared.fault.Verdict.{Verdict}
use Rattle.pv_valid.specs.Validity.{IsRight, verdict_of}
use Rattle.pv_command_verdict.specs.Handed.{ReadStop, SubjectData}
use Rattle.pv_command_verdict.specs.Handed.read_stop
use Rattle.pv_command_verdict.specs.Sizes.{HasTooManyEdges}
use Rattle.pv_command_verdict.specs.Cases.{case_in}
use Rattle.pv_command_recheck.specs.declared.stop.CertificateStop.{CertificateStop}
use Rattle.pv_command_recheck.specs.declared.stop.CertificateStop.TheVariants as certificate_stop

-- a file that can't be read, as the stop of the stage that reads it
abbrev pub unread_certificate : ReadStop → CertificateStop
unread_certificate (read_stop.Unread file) = certificate_stop.Unread file
unread_certificate read_stop.NoMemory = certificate_stop.NoMemory

-- bytes that are no certificate's text, as a stop
abbrev pub no_certificate : CertFault → CertificateStop
no_certificate (cert_fault.NotACertificate line) = certificate_stop.Faulty line NotACertificate
no_certificate cert_fault.NoMemory = certificate_stop.NoMemory

-- some bytes are its text
pub record IsOfText (c : Certificate) : Type 0 where
  pub bytes : List ℕ
  pub is : IsTextOf bytes c

-- what is wrong first with a certificate, as a stop
abbrev pub stop_by : Fault → CertificateStop
stop_by fault.TooManyGates = certificate_stop.TooManyGates
stop_by (fault.Line line kind) = certificate_stop.Faulty line kind
stop_by fault.NoMemory = certificate_stop.NoMemory

-- the certificate is right for what the command works on, whose block has no more edges than it may, and this is its verdict
pub record IsJudged (s : SubjectData) (c : Certificate) (verdict : Verdict) : Type 0 where
  pub few : HasTooManyEdges s → ⊥
  pub is_right : IsRight (case_in s) c
  pub is : verdict ≡ verdict_of (case_in s) c
