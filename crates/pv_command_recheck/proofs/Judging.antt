-- What is judged of a certificate that was read: by how large what is worked on is, and then by its contents.
use Rattle.std.proofs.Common.{◌≡◌, ◌≢◌, ◌<◌, ◌≤◌, ℕ, List, length, true, false, Option, Err, sym, ap, ◌∙◌, arith}
use Rattle.std.specs.Prelude.{nat_lt}
use Rattle.std.proofs.lemmas.Bool.{ltb-true, ltb-false}
use Rattle.std.proofs.lemmas.List.{length-map}
use Rattle.pv_edge.specs.Files.{FileMap}
use Rattle.pv_bool.specs.Tree.{ProgramTree, assignment_tree}
use Rattle.pv_sizes.specs.declared.count.TheConstants.{MAX_EDGES}
use Rattle.pv_cert.specs.declared.certificate.Certificate.{Certificate}
use Rattle.pv_cert.specs.CertificateText.{IsTextOf}
use Rattle.pv_valid.specs.declared.fault.Fault.{Fault}
use Rattle.pv_valid.specs.declared.fault.Fault.TheVariants.{TooManyGates, Line, NoMemory}
use Rattle.pv_judge.specs.Answers.{Judges}
use Rattle.pv_command_verdict.specs.Handed.{HoldsBytes, stopped_status, SubjectData, FirstSubject, IsFirstSubject}
use Rattle.pv_command_verdict.specs.Sizes.{edges_of, HasTooManyEdges}
use Rattle.pv_command_verdict.specs.Cases.{case_in}
use Rattle.pv_command_recheck.specs.Certificates.{IsText, certificate_status, certificate_stopped, StopsCertificate}
use Rattle.pv_command_recheck.specs.Made.{stop_by}
use Rattle.pv_command_recheck.proofs.Answering.{HasAnswer, bytes-answered}

-- ---- edges

-- the code's count of assignments is that of edges
edges_are : (first : FirstSubject) (s : SubjectData) → IsFirstSubject first s → edges_of s ≡ length first.program.body.items
edges_are first s is = ap (λ (p : ProgramTree). length p.body) (sym is.program) ∙ length-map first.program.body.items assignment_tree

above : (limit n m : ℕ) → n ≡ m → limit < m → limit < n
above limit n m same lt = omega (arith, same, lt)

not_above : (limit n m : ℕ) → n ≡ m → m ≤ limit → limit < n → ⊥
not_above limit n m same le lt = omega (arith, same, le, lt)

pub many_edges : (first : FirstSubject) (s : SubjectData) → IsFirstSubject first s
    → nat_lt MAX_EDGES (length first.program.body.items) ≡ true → HasTooManyEdges s
many_edges first s is many =
    above MAX_EDGES (edges_of s) (length first.program.body.items) (edges_are first s is) (ltb-true MAX_EDGES (length first.program.body.items) many)

pub few_edges : (first : FirstSubject) (s : SubjectData) → IsFirstSubject first s
    → nat_lt MAX_EDGES (length first.program.body.items) ≡ false → HasTooManyEdges s → ⊥
few_edges first s is few =
    not_above MAX_EDGES (edges_of s) (length first.program.body.items) (edges_are first s is)
    (ltb-false MAX_EDGES (length first.program.body.items) few)

-- ---- stops

-- it is a certificate's text, and the block has too many edges
pub stops_at_edges : (told : Option FileMap) (file : List ℕ) (s : SubjectData) (c : Certificate) → HasTooManyEdges s
    → HoldsBytes told file (λ bytes. IsTextOf bytes c) → HasTooManyEdges s × HoldsBytes told file IsText
stops_at_edges told file s c many held = (many, record { bytes = held.bytes; held = held.held; are = (c, held.are) })

-- this is wrong first with it
pub stops_by : (told : Option FileMap) (file : List ℕ) (s : SubjectData) (c : Certificate) (fault : Fault) → (HasTooManyEdges s → ⊥)
    → (held : HoldsBytes told file (λ bytes. IsTextOf bytes c)) → HasAnswer (case_in s) held.bytes c → Judges (case_in s) c (Err fault)
    → StopsCertificate told file s (stop_by fault)
stops_by told file s c TooManyGates few held some j = record {
  bytes = held.bytes;
  held = held.held;
  are = record { answers = bytes-answered (case_in s) held.bytes c held.are some (Err TooManyGates) j; few = λ text. few };
}
stops_by told file s c (Line at why) few held some j = record {
  bytes = held.bytes;
  held = held.held;
  are = record { answers = bytes-answered (case_in s) held.bytes c held.are some (Err (Line at why)) j; few = λ text. few };
}
stops_by told file s c NoMemory few held some j = tt

pub stop_never_six : (fault : Fault) → stopped_status certificate_status (certificate_stopped (stop_by fault)) ≢ 6
stop_never_six TooManyGates = λ e. omega (arith, e)
stop_never_six (Line at why) = λ e. omega (arith, e)
stop_never_six NoMemory = λ e. omega (arith, e)
