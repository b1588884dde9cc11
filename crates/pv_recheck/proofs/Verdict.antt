-- What a valid certificate says is so: a scan that fails is a run of the circuit's bits, of values by which the formula of step(0) holds
-- (`solved`), which an accepted log rules out (`no_step`); and by k-induction no run fails, since no base query is asked at k = 0
-- (`no_run`).
use Rattle.std.proofs.Common.{◌≡◌, ◌↔◌, ℕ, Bool, true, not, List, [], ◌∷◌, length, refl, ap, sym, ◌∙◌, arith, lit≤}
use Rattle.std.specs.List.{AllByRecursion}
use Rattle.std.proofs.lemmas.List.{length-map}
use Rattle.pv_machine.specs.Machines.{Values, IsInput}
use Rattle.pv_machine.specs.Queries.{MeetsStep, NoneFails}
use Rattle.pv_machine.proofs.ForCallers.{step_zero, none_fails, no_base, step_of_reachable}
use Rattle.pv_gate.specs.Value.{value_of}
use Rattle.pv_cnf.specs.Clause.{Holds}
use Rattle.pv_log.proofs.ForCallers.{accepted-refutes}
use Rattle.pv_bool.specs.Tree.{ProgramTree, IsProgram}
use Rattle.pv_bool.specs.Scans.{Bits, state_len, input_len, start, keeps}
use Rattle.pv_bool.specs.Machine.{bit_of, bits_of, numbers_of, machine_of}
use Rattle.pv_bool.proofs.ForCallers.{length-start, length-within, numbers_within, bits_of-numbers_of, lawful}
use Rattle.pv_cert.specs.declared.proof.Query.TheVariants.{Step}
use Rattle.pv_step.specs.Circuits.{circuit_of}
use Rattle.pv_step.specs.Correct.{state_before, input_before}
use Rattle.pv_step.specs.Steps.{starts_of}
use Rattle.pv_step.proofs.ForCallers.{is_circuit, does_the_scan, have_lengths, stand_for, begin-state, long-starts}
use Rattle.pv_frames.specs.Runs.{BeginsWith, run_with}
use Rattle.pv_frames.proofs.ForCallers.{run-meets, run-holds}
use Rattle.pv_recheck.specs.Validity.{step_formula, IsValid}

abbrev Solution : ProgramTree → Type 0
Solution program = (values : ℕ → Bool) × Holds values (step_formula program).clauses

-- a state and an input by which a scan fails make `fail` true under the inputs that stand for them
fails_there : (program : ProgramTree) (inputs : ℕ → Bool) (state input : Bits) → IsProgram program → state_before program inputs ≡ state
    → input_before program inputs ≡ input → not (keeps program state input) ≡ true
    → value_of inputs (circuit_of program).nodes (circuit_of program).fail ≡ true
fails_there program inputs state input is s i f =
    (does_the_scan program inputs is).fail
    ∙ (ap (λ x. not (keeps program x (input_before program inputs))) s ∙ (ap (λ y. not (keeps program state y)) i ∙ f))

-- values of the variables where a scan fails
solved : (program : ProgramTree) → IsProgram program → MeetsStep (machine_of program) 0 → Solution program
solved program is met =
    let found = step_zero (machine_of program) met in
    let state = bits_of found.0 in
    let input = bits_of found.1 in
    let s : length state ≡ state_len program.bits = length-map found.0 bit_of ∙ length-within (state_len program.bits) found.0 found.2 in
    let i : length input ≡ input_len program.bits = length-map found.1 bit_of ∙ length-within (input_len program.bits) found.1 found.3 in
    let stand = stand_for program state input s i in
    let fails = fails_there program stand.inputs state input is stand.state stand.input found.4 in
    let scan : BeginsWith (circuit_of program) state input = record { inputs = stand.inputs; state_is = stand.state; input_is = stand.input } in
    let has = run-holds (circuit_of program) (starts_of program) (Step 0) (run_with state (input ∷ [])) (is_circuit program is)
    (begin-state (start program.bits) state (s ∙ sym (length-start program.bits)), refl, (scan, fails)) in
    (has.values, has.holds)

-- the scan from the state by the input that the values stand for
met_by : (program : ProgramTree) → IsProgram program → Solution program → MeetsStep (machine_of program) 0
met_by program is solution =
    let meets = run-meets (circuit_of program) (starts_of program) (Step 0) solution.0 (is_circuit program is) (long-starts program is) (lit≤ tt) solution.1 in
    let inputs = meets.2.0.inputs in
    let state = state_before program inputs in
    let input = input_before program inputs in
    let long = have_lengths program inputs in
    record {
      state = numbers_of state;
      inputs = numbers_of input ∷ [];
      is_state = numbers_within (state_len program.bits) state long.state;
      are_inputs = (numbers_within (input_len program.bits) input long.input, tt);
      count = refl;
      fails = ap (λ x. not (keeps program x (bits_of (numbers_of input)))) (bits_of-numbers_of state)
          ∙ (ap (λ y. not (keeps program state y)) (bits_of-numbers_of input) ∙ (sym (does_the_scan program inputs is).fail ∙ meets.2.1));
    }

pub step_meets : (program : ProgramTree) → IsProgram program → (MeetsStep (machine_of program) 0) ↔ Solution program
step_meets program is = (solved program is, met_by program is)

pub no_step : (program : ProgramTree) (bytes : List ℕ) → IsProgram program → IsValid program bytes → MeetsStep (machine_of program) 0 → ⊥
no_step program bytes is v met =
    let refuted = v.is_proof.refutes in
    let solution = solved program is met in
    accepted-refutes solution.0 (step_formula program).variables
    (step_formula program).clauses v.proof.log refuted.each refuted.ends solution.1

-- no base query is asked at k = 0
pub no_run : (program : ProgramTree) (bytes : List ℕ) → IsProgram program → IsValid program bytes
    → (params : Values) (inputs : List Values) → AllByRecursion (IsInput (machine_of program)) inputs
    → NoneFails (machine_of program) ((machine_of program).start params) inputs
no_run program bytes is v params inputs all =
    let m = machine_of program in
    none_fails m (m.start params) inputs all (λ others inside f.
    no_base m 0 (λ j from to base. absurd (omega arith)) (λ met. no_step program bytes is v (step_of_reachable m 0 (lawful program) met))
    (length others)
    (record { params = []; inputs = others; are_params = tt; are_inputs = inside; count = refl; fails = f }))
