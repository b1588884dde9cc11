-- Why a check is refused, in the order of work: what it works on; a block with more assignments than there may be edges; a circuit with more
-- gates than there may be.
use Rattle.std.specs.Prelude.{ℕ, List, ◌++◌, codes, Option, Some, None}
use Rattle.pv_edge.specs.Files.{FileMap}
use Rattle.pv_cert.specs.CertificateText.{no_reduction}
use Rattle.pv_cert.specs.ChainText.{chain_line}
use Rattle.pv_command_verdict.specs.Handed.{SubjectData, ReadsFirst, AsksFirst, FirstRefusal, first_refusal_status, first_refusal_line, RefusesFirst}
use Rattle.pv_command_verdict.specs.Sizes.{HasTooManyEdges, HasTooManyGates, edges_line, gates_line}

-- the files hold what the command works on, all of it of the form, and the block has no more edges than it may
pub record ReadsSmall (told : Option FileMap) (file : List ℕ) (s : SubjectData) : Type 0 where
  pub reads : ReadsFirst told file s
  pub few : HasTooManyEdges s → ⊥

-- so, and its circuit has no more gates than it may: a verdict is to be had
pub record ReadsChecked (told : Option FileMap) (file : List ℕ) (s : SubjectData) : Type 0 where
  pub reads : ReadsSmall told file s
  pub few : HasTooManyGates s → ⊥

-- ---- the files that a check asks for: the case's, and its source's

abbrev pub AsksCheck : Option FileMap → List ℕ → List ℕ → Type 0
AsksCheck told case_file file = AsksFirst told case_file file

-- ---- the refusals

-- as whatever works on what the files hold; by the edges; by the gates
pub data CheckRefusal : Type 0 where
  as_first : FirstRefusal → CheckRefusal
  too_many_edges : CheckRefusal
  too_many_gates : CheckRefusal

abbrev pub RefusesCheck : Option FileMap → List ℕ → CheckRefusal → Type 0
RefusesCheck told file (as_first r) = RefusesFirst told file r
RefusesCheck told file too_many_edges = (s : SubjectData) × ReadsFirst told file s × HasTooManyEdges s
RefusesCheck told file too_many_gates = (s : SubjectData) × ReadsSmall told file s × HasTooManyGates s

abbrev pub check_refusal_status : CheckRefusal → ℕ
check_refusal_status (as_first r) = first_refusal_status r
check_refusal_status too_many_edges = 3
check_refusal_status too_many_gates = 3

abbrev pub check_refusal_line : CheckRefusal → List ℕ
check_refusal_line (as_first r) = first_refusal_line r
check_refusal_line too_many_edges = edges_line
check_refusal_line too_many_gates = gates_line

-- What there is to keep where the circuit has too many gates: the line of the chain whose circuit that is, which makes nothing smaller
-- whichever reductions the case names.
abbrev pub chain_text : List ℕ
chain_text = chain_line no_reduction ++ codes "\n"

abbrev pub check_refusal_keeps : CheckRefusal → Option (List ℕ)
check_refusal_keeps (as_first r) = None
check_refusal_keeps too_many_edges = None
check_refusal_keeps too_many_gates = Some chain_text
