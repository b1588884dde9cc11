-- Certificates of 'satisfied' with k = 0, and which are valid for a program.
use Rattle.std.specs.Prelude.{◌≡◌, ℕ, List, [], ◌∷◌}
use Rattle.pv_bool.specs.Tree.{ProgramTree}
use Rattle.pv_cnf.specs.Clause.{Cnf}
use Rattle.pv_log.specs.declared.line.Line.{Line}
use Rattle.pv_log.specs.Follows.{Follows, IsAccepted}
use Rattle.pv_cert.specs.declared.proof.Query.TheVariants.{Step}
use Rattle.pv_cert.specs.declared.proof.Proof.{Proof}
use Rattle.pv_cert.specs.CertificateText.{satisfied_by, no_reduction, IsTextOf}
use Rattle.pv_circuit.specs.declared.start.Start.{Start}
use Rattle.pv_circuit.specs.Circuits.{Circuit}
use Rattle.pv_step.specs.Circuits.{circuit_of}
use Rattle.pv_step.specs.Steps.{starts_of}
use Rattle.pv_frames.specs.Queries.{query_clauses, variable_count}

-- the formula of step(0) of a circuit whose state begins so
abbrev pub formula_over : Circuit → List Start → Cnf
formula_over c start = record { variables = variable_count c start (Step 0); clauses = query_clauses c start (Step 0) }

-- the formula of step(0): some state has a scan that fails
abbrev pub step_formula : ProgramTree → Cnf
step_formula program = formula_over (circuit_of program) (starts_of program)

-- the log is accepted for the formula of step(0)
abbrev pub RefutesStep : ProgramTree → List Line → Type 0
RefutesStep program log = IsAccepted (Follows (step_formula program).variables) (step_formula program).clauses log

-- step(0) is refuted for the machine of the program, without reductions
pub record IsStepProof (program : ProgramTree) (p : Proof) : Type 0 where
  pub query : p.query ≡ Step 0
  pub chain : p.chain ≡ no_reduction
  pub refutes : RefutesStep program p.log

-- the bytes are the text of a certificate of 'satisfied' with k = 0, and its one proof refutes step(0)
pub record IsValid (program : ProgramTree) (bytes : List ℕ) : Type 0 where
  pub proof : Proof
  pub is_text : IsTextOf bytes (satisfied_by (proof ∷ []))
  pub is_proof : IsStepProof program proof
