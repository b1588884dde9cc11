-- What is worked on, and what is decided of it before that has a text, by the code's types.
use Rattle.std.specs.Prelude.{◌≡◌, ℕ, Bool, List, Option}
use Rattle.pv_edge.specs.Files.{FileMap}
use Rattle.pv_mean.specs.declared.cell.Cell.{Cell}
use Rattle.pv_pattern.specs.Sources.{looks_back}
use Rattle.pv_bool.specs.Tree.{ProgramTree}
use Rattle.pv_bool.specs.Machine.{machine_of as program_machine}
use Rattle.pv_step.specs.Circuits.{circuit_of}
use Rattle.pv_step.specs.Steps.{starts_of}
use Rattle.pv_claims.specs.declared.trace.Ending.{Ending}
use Rattle.pv_cert.specs.declared.certificate.Certificate.{Certificate}
use Rattle.pv_cert.specs.CertificateText.{IsWritable}
use Rattle.pv_kind.specs.Refinements.{Stage}
use Rattle.pv_valid.specs.declared.facts.Facts.{Facts}
use Rattle.pv_valid.specs.Validity.{ending_in, IsRight}
use Rattle.pv_valid.specs.Deciding.{IsOracleFor}
use Rattle.pv_lift.specs.Cases.{case_of}
use Rattle.pv_lift.specs.Stages.{encoding_of}
use Rattle.pv_bool_load.specs.Handed.{SubjectData, source_in}
use Rattle.pv_bool_load.specs.declared.subject.FirstSubject.{FirstSubject}
use Rattle.pv_bool_load.specs.Forms.{ReadsFirst, program_of}
use Rattle.pv_bool_load.specs.Made.{IsFirstSubject}
use Rattle.pv_command_verdict.specs.Sizes.{HasTooManyGates}
use Rattle.pv_command_verdict.specs.Cases.{limits_by, facts_in, case_in}
use Rattle.pv_command_verdict.specs.Sayings.{SaysOfSource, IsInOrder}
use Rattle.pv_command_verdict.specs.Bounds.{IsComplete}

-- it was made of what some files hold
pub record IsWorkedOn (first : FirstSubject) : Type 0 where
  pub told : Option FileMap
  pub file : List ℕ
  pub subject : SubjectData
  pub reads : ReadsFirst told file subject
  pub is : IsFirstSubject first subject

-- evidence of a verdict on what is worked on, before it is written: all that is promised of it but its text
pub record IsEvidenceOf (s : SubjectData) (c : Certificate) (told : Option Ending) : Type 0 where
  pub is_right : IsRight (case_in s) c
  pub writable : IsWritable c
  pub ending : told ≡ ending_in (case_in s) c.trace
  pub few : HasTooManyGates s → ⊥
  pub says : SaysOfSource (source_in s) s.pattern s.given.case.limits c told c.claim
  pub order : IsInOrder (source_in s) s.pattern c
  pub complete : IsComplete s c

-- ---- what private clauses cite

-- a lift of this program, with this known of its case, these cells, a pattern that looks back or doesn't, and this stage: it is that of what
-- files hold, and answers the queries of its own case
pub record IsLiftOf (s : SubjectData) (tree : ProgramTree) (facts : Facts) (cells : List Cell) (back : Bool) (stage : Stage) : Type 0 where
  pub program : tree ≡ program_of s
  pub known : facts ≡ facts_in s
  pub of_cells : cells ≡ (source_in s).cells
  pub looks : back ≡ looks_back s.pattern
  pub oracle : IsOracleFor (case_of (program_machine tree) (circuit_of tree) (starts_of tree) facts)
      (encoding_of (program_machine tree) (circuit_of tree) (starts_of tree) cells back) stage (limits_by s.given.case.limits)
