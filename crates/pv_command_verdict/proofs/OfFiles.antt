-- What a certificate says that is right for what files hold of the form is so of the source.
use Rattle.std.proofs.Common.{◌↔◌, ℕ, ◌≤◌, List, length, Option, refl}
use Rattle.std.specs.List.{AllByRecursion}
use Rattle.pv_edge.specs.Files.{FileMap}
use Rattle.pv_machine.specs.Machines.{Machine, Values, IsInput, AreParams}
use Rattle.pv_machine.specs.Queries.{MeetsBase, NoneFails}
use Rattle.pv_mean.specs.Sources.{Source}
use Rattle.pv_pattern.specs.Patterns.{Pattern}
use Rattle.pv_pattern.specs.Sources.{machine_of, IsSatisfied}
use Rattle.pv_bool.specs.Machine.{machine_of as program_machine}
use Rattle.pv_step.specs.Circuits.{circuit_of}
use Rattle.pv_step.specs.Steps.{form_of, starts_of}
use Rattle.pv_step.proofs.ForCallers.{is_circuit, does_the_steps}
use Rattle.pv_cert.specs.declared.certificate.Certificate.{Certificate}
use Rattle.pv_cert.specs.CertificateText.{IsTextOf}
use Rattle.pv_valid.specs.Cases.{IsSound}
use Rattle.pv_valid.specs.Validity.{ending_in, IsRight}
use Rattle.pv_bool_load.specs.Handed.{SubjectData, source_in}
use Rattle.pv_bool_load.specs.Forms.{ReadsFirst, program_of}
use Rattle.pv_bool_load.specs.Correct.{IsOfProgram}
use Rattle.pv_command_verdict.specs.Cases.{case_in}
use Rattle.pv_command_verdict.specs.Verdicts.{IsVerdict}
use Rattle.pv_command_verdict.proofs.CaseLimits.{LieWell, lie_well}
use Rattle.pv_command_verdict.proofs.Sound.{is_sound}
use Rattle.pv_command_verdict.proofs.Right.{says}

pub limits_lie_well : (told : Option FileMap) (file : List ℕ) (s : SubjectData) → ReadsFirst told file s → LieWell s.given.case.limits
limits_lie_well told file s reads =
    let held = reads.reads.table.project.sources.case_held in
    lie_well held.bytes s.given.case held.are

-- what files hold of the form is a case
pub sound_in : (told : Option FileMap) (file : List ℕ) (s : SubjectData) → ReadsFirst told file s → IsOfProgram s → IsSound (case_in s)
sound_in told file s reads of =
    let program = program_of s in
    is_sound (source_in s) s.pattern s.given.case.limits (program_machine program) (form_of program) (circuit_of program) (starts_of program)
    of.machines.machines.lawful of.machines.machines.same (is_circuit program of.machines.program) (does_the_steps program of.machines.program)
    (λ st i trapped. trapped) (limits_lie_well told file s reads).depth

-- laws that are handed in
pub record Laws : Type 0 where
  pub early : (m : Machine) (n : ℕ) → ((j : ℕ) → 1 ≤ j → j ≤ n → MeetsBase m j → ⊥)
      → (params : Values) (inputs : List Values) → AreParams m params → AllByRecursion (IsInput m) inputs → length inputs ≤ n
      → NoneFails m (m.start params) inputs
  pub satisfied : (source : Source) (p : Pattern) → ((n : ℕ) → MeetsBase (machine_of source p) n → ⊥) ↔ IsSatisfied source p

pub verdict_of_right : Laws → (told : Option FileMap) (file : List ℕ) (s : SubjectData) (bytes : List ℕ) (c : Certificate)
    → ReadsFirst told file s → IsOfProgram s → IsTextOf bytes c → IsRight (case_in s) c
    → IsVerdict s bytes c (ending_in (case_in s) c.trace)
verdict_of_right laws told file s bytes c reads of text right =
    let case = case_in s in
    let sound = sound_in told file s reads of in
    let program = program_of s in
    record {
      is_text = text;
      is_right = right;
      ending = refl;
      says = says (source_in s) s.pattern s.given.case.limits (program_machine program) (circuit_of program) (starts_of program)
          of.machines.machines.lawful of.machines.machines.same (laws.early (machine_of (source_in s) s.pattern)) sound
          (laws.satisfied (source_in s) s.pattern).0 c.claim c.trace c.next c.proofs text.valid.has_trace.has_form right;
    }
