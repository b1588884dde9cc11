-- What is decided over the lift of what files hold is evidence of a verdict on it.
use Rattle.std.proofs.Common.{◌≡◌, ℕ, Bool, true, false, List, Option, Result, ap, sym, ◌∙◌}
use Rattle.std.specs.Prelude.{IfOk, OnOk}
use Rattle.pv_edge.specs.Files.{FileMap}
use Rattle.pv_mean.specs.declared.cell.Cell.{Cell}
use Rattle.pv_bool.specs.Tree.{ProgramTree}
use Rattle.pv_step.specs.Circuits.{circuit_of}
use Rattle.pv_kind.specs.declared.decision.Limits.{Limits}
use Rattle.pv_kind.specs.declared.told.OracleFault.{OracleFault}
use Rattle.pv_kind.specs.Refinements.{Stage}
use Rattle.pv_valid.specs.declared.facts.Facts.{Facts}
use Rattle.pv_queries.specs.declared.built.TheConstants.{MAX_BUILT_GATES}
use Rattle.pv_lift.specs.Stages.{passes_limit}
use Rattle.pv_evidence.specs.declared.evidence.Evidence.{Evidence}
use Rattle.pv_bool_load.specs.Handed.{SubjectData}
use Rattle.pv_bool_load.specs.Forms.{ReadsFirst, program_of}
use Rattle.pv_bool_load.specs.Correct.{IsOfProgram}
use Rattle.pv_command_verdict.specs.Sizes.{HasTooManyGates, gates_of}
use Rattle.pv_command_verdict.specs.Cases.{limits_by}
use Rattle.pv_command_verdict.specs.Made.{IsEvidenceOf, IsLiftOf}
use Rattle.pv_command_verdict.proofs.OfFiles.{Laws}
use Rattle.pv_command_verdict.proofs.Lifting.{ok_both}
use Rattle.pv_command_verdict.proofs.Decided.{Suffice}
use Rattle.pv_command_verdict.proofs.Evidence.{EvidenceBy, evidence_of, many_gates}
use Rattle.pv_command_verdict.proofs.Formulas.{FormulaLaw, are_formulas}

-- whether the circuit has too many gates
passes_too : (s : SubjectData) (tree : ProgramTree) (b : Bool) → tree ≡ program_of s → passes_limit (circuit_of tree) ≡ b
    → passes_limit (circuit_of (program_of s)) ≡ b
passes_too s tree b program is = ap (λ (t : ProgramTree). passes_limit (circuit_of t)) (sym program) ∙ is

pub too_many : (s : SubjectData) (tree : ProgramTree) → tree ≡ program_of s → passes_limit (circuit_of tree) ≡ true → HasTooManyGates s
too_many s tree program is = many_gates MAX_BUILT_GATES (gates_of s) (passes_too s tree true program is)

pub decided : Laws → Suffice → FormulaLaw → (told : Option FileMap) (file : List ℕ) (s : SubjectData) → ReadsFirst told file s → IsOfProgram s
    → (tree : ProgramTree) (facts : Facts) (cells : List Cell) (back : Bool) (stage : Stage) (limits : Limits)
    → IsLiftOf s tree facts cells back stage → limits ≡ limits_by s.given.case.limits → (r : Result Evidence OracleFault)
    → IfOk r (λ e. EvidenceBy tree facts cells back limits stage e.certificate e.ending) → OnOk r (passes_limit (circuit_of tree) ≡ false)
    → IfOk r (λ e. IsEvidenceOf s e.certificate e.ending)
decided laws suffice formulas told file s reads of tree facts cells back stage limits lift within r evidence fits =
    ok_both (λ (e : Evidence). EvidenceBy tree facts cells back limits stage e.certificate e.ending) (passes_limit (circuit_of tree) ≡ false)
    (λ (e : Evidence). IsEvidenceOf s e.certificate e.ending) r evidence fits
    (λ e by few.
    let own = passes_too s tree false lift.program few in
    evidence_of laws suffice told file s reads of (are_formulas formulas s of own) own tree facts cells back stage limits lift within
    e.certificate e.ending by)
