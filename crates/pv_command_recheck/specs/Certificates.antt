-- The certificate of a recheck: what its file holds for what the command works on, and why it is refused. The grammar of the whole comes
-- first, then the count of edges, then the contents, in which the circuit's gates are counted where a proof's chain stands.
use Rattle.std.specs.Prelude.{◌≡◌, ℕ, List, ◌++◌, codes, decimal, Option, Result, Err, string_bytes}
use Rattle.pv_edge.specs.Files.{FileMap}
use Rattle.pv_cert.specs.declared.certificate.Certificate.{Certificate}
use Rattle.pv_cert.specs.CertificateText.{IsTextOf}
use Rattle.pv_valid.specs.declared.fault.Kind.{Kind}
use Rattle.pv_valid.specs.declared.fault.Fault.{Fault}
use Rattle.pv_valid.specs.declared.fault.Fault.TheVariants.{TooManyGates, Line}
use Rattle.pv_valid.specs.declared.fault.Verdict.{Verdict}
use Rattle.pv_valid.specs.Faults.{Answers}
use Rattle.pv_valid.specs.Kinds.{kind_word}
use Rattle.pv_command_verdict.specs.Handed.{HoldsBytes, Stopped, unread, refused, no_memory, StopsAt, SubjectData}
use Rattle.pv_command_verdict.specs.Sizes.{HasTooManyEdges, edges_line, gates_line}
use Rattle.pv_command_verdict.specs.Cases.{case_in}
use Rattle.pv_command_recheck.specs.declared.stop.CertificateStop.{CertificateStop}
use Rattle.pv_command_recheck.specs.declared.stop.CertificateStop.TheVariants as certificate_stop

-- ---- what its bytes are

-- the text of some certificate, of whatever case
abbrev pub IsText : List ℕ → Type 0
IsText bytes = (c : Certificate) × IsTextOf bytes c

-- This is what is answered of them: that they are valid, with a verdict, that this line is the first at fault, or that the circuit of a proof
-- has more gates than it may and nothing before is at fault (`Answers`). A block with more edges than it may have is told behind the grammar,
-- so nothing of a certificate's contents is answered then.
pub record AreAnswered (s : SubjectData) (answer : Result Verdict Fault) (bytes : List ℕ) : Type 0 where
  pub answers : Answers (case_in s) bytes answer
  pub few : IsText bytes → HasTooManyEdges s → ⊥

-- ---- why it is refused

-- this line, from 1, is the first at fault; the block has too many edges; the circuit of a scan has too many gates
pub data CertificateRefusal : Type 0 where
  faulty : ℕ → Kind → CertificateRefusal
  too_many_edges : CertificateRefusal
  too_many_gates : CertificateRefusal

-- the file holds what is refused so
abbrev pub RefusesCertificate : Option FileMap → List ℕ → SubjectData → CertificateRefusal → Type 0
RefusesCertificate told file s (faulty line kind) = HoldsBytes told file (AreAnswered s (Err (Line line kind)))
RefusesCertificate told file s too_many_edges = HasTooManyEdges s × HoldsBytes told file IsText
RefusesCertificate told file s too_many_gates = HoldsBytes told file (AreAnswered s (Err TooManyGates))

abbrev pub certificate_status : CertificateRefusal → ℕ
certificate_status (faulty line kind) = 8
certificate_status too_many_edges = 3
certificate_status too_many_gates = 3

-- of the certificate's line at fault
abbrev pub fault_line : ℕ → Kind → List ℕ
fault_line line kind =
    codes "plcv: certificate: line " ++ (decimal line ++ (codes " " ++ (kind_word kind ++ codes "\n")))

abbrev pub certificate_line : CertificateRefusal → List ℕ
certificate_line (faulty line kind) = fault_line line kind
certificate_line too_many_edges = edges_line
certificate_line too_many_gates = gates_line

-- ---- why a recheck stops at it

abbrev pub certificate_stopped : CertificateStop → Stopped CertificateRefusal
certificate_stopped (certificate_stop.Unread file) = unread (string_bytes file)
certificate_stopped (certificate_stop.Faulty line kind) = refused (faulty line kind)
certificate_stopped certificate_stop.TooManyEdges = refused too_many_edges
certificate_stopped certificate_stop.TooManyGates = refused too_many_gates
certificate_stopped certificate_stop.NoMemory = no_memory

abbrev pub StopsCertificate : Option FileMap → List ℕ → SubjectData → CertificateStop → Type 0
StopsCertificate told file s stop =
    StopsAt (λ name. name ≡ file) (RefusesCertificate told file s) (certificate_stopped stop)
