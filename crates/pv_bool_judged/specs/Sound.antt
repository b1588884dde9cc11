-- That a Boolean program is a case: its ranges are the machine's, and its formulas hold exactly where the machine meets the queries.
use Rattle.std.proofs.Common.{◌≡◌, ◌↔◌, ℕ, zero, suc, ◌≤◌, Bool, List, [], ◌∷◌, map, replicate, refl, ap, subst, ◌∙◌}
use Rattle.pv_place.specs.Ranges.{Range, AreWithin}
use Rattle.pv_cnf.specs.Clause.{Holds}
use Rattle.pv_cert.specs.declared.proof.Query.{Query}
use Rattle.pv_cert.specs.declared.proof.Query.TheVariants.{Base, Step}
use Rattle.pv_bool.specs.Tree.{ProgramTree, IsProgram}
use Rattle.pv_bool.specs.Scans.{state_len, input_len}
use Rattle.pv_bool.specs.Machine.{bit_range, machine_of}
use Rattle.pv_bool.proofs.ForCallers.{lawful}
use Rattle.pv_step.specs.Circuits.{circuit_of}
use Rattle.pv_step.specs.Steps.{form_of, starts_of}
use Rattle.pv_step.proofs.ForCallers.{is_circuit, does_the_steps}
use Rattle.pv_laws_frames.proofs.ForCallers.{base-stands, step-stands, base-satisfied, step-satisfied}
use Rattle.pv_kind.specs.declared.told.TheConstants.{LAST_QUERY}
use Rattle.pv_kind.specs.Oracles.{IsAsked, Meets}
use Rattle.pv_valid.specs.declared.facts.Facts.{Facts}
use Rattle.pv_valid.specs.Cases.{range_between, Bounds, IsSound}
use Rattle.pv_bool_judged.specs.Bounds.{bit_bounds}
use Rattle.pv_bool_judged.specs.Formulas.{formula_of}
use Rattle.pv_bool_judged.specs.Cases.{case_of}

pub ranges-are : (n : ℕ) → map range_between (replicate n bit_bounds) ≡ replicate n bit_range
ranges-are zero = refl
ranges-are (suc n) = ap (λ (rs : List Range). bit_range ∷ rs) (ranges-are n)

module _ (program : ProgramTree) (own : IsProgram program) where
  met : (q : Query) → IsAsked q → Meets (machine_of program) q ↔ ((values : ℕ → Bool) × Holds values (formula_of program q).clauses)
  met (Base k) asked = (
    λ m. let some = base-satisfied (machine_of program) (form_of program) (starts_of program) (circuit_of program) k
        (is_circuit program own) (does_the_steps program own) m in (some.values, some.holds),
    λ h. (base-stands (machine_of program) (form_of program) (starts_of program) (circuit_of program) k h.0
        (is_circuit program own) (does_the_steps program own) asked h.1).meets,
  )
  met (Step k) asked = (
    λ m. let some = step-satisfied (machine_of program) (form_of program) (starts_of program) (circuit_of program) k
        (is_circuit program own) (does_the_steps program own) m in (some.values, some.holds),
    λ h. (step-stands (machine_of program) (form_of program) (starts_of program) (circuit_of program) k h.0
        (is_circuit program own) (does_the_steps program own) asked h.1).meets,
  )

pub case_is_sound : (program : ProgramTree) (facts : Facts) (gates : ℕ) → IsProgram program → facts.depth ≤ LAST_QUERY
    → facts.params ≡ [] → facts.input ≡ replicate (input_len program.bits) bit_bounds
    → facts.image ≡ replicate (state_len program.bits) bit_bounds → IsSound (case_of program facts gates)
case_is_sound program facts gates own depth params input image = record {
  lawful = lawful program;
  params = ap (λ (bs : List Bounds). map range_between bs) params;
  input = ap (λ (bs : List Bounds). map range_between bs) input ∙ ranges-are (input_len program.bits);
  states = λ values prev within follows. subst (λ (rs : List Range). AreWithin rs values)
      (ap (λ (bs : List Bounds). map range_between bs) image ∙ ranges-are (state_len program.bits)) within;
  traps = λ goal s i state taken fails trapped. trapped;
  depth = depth;
  met = met program own;
}
