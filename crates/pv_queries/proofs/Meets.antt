-- The numbers of a run of bits as a run of the machine whose steps the circuit does; that such a machine is lawful.
use Rattle.std.proofs.Common.{◌≡◌, ℕ, ◌+◌, Bool, List, length, map, sym, subst}
use Rattle.std.specs.List.{AllByRecursion}
use Rattle.pv_machine.specs.Machines.{Machine, Values, IsState, IsInput}
use Rattle.pv_machine.specs.Queries.{FailsAtLast}
use Rattle.pv_cnf.specs.Clause.{Holds}
use Rattle.pv_cert.specs.declared.proof.Query.{Query}
use Rattle.pv_cert.specs.declared.proof.Query.TheVariants.{Base, Step}
use Rattle.pv_circuit.specs.declared.start.Start.{Start}
use Rattle.pv_circuit.specs.Circuits.{Circuit, IsCircuit}
use Rattle.pv_circuit.specs.Steps.{Form, Steps}
use Rattle.pv_frames.specs.Queries.{IsAsked, query_clauses}
use Rattle.pv_frames.specs.Runs.{run_of}
use Rattle.pv_laws_frames.proofs.ForCallers.{base-stands, step-stands}
use Rattle.pv_queries.specs.Numbers.{values_of_bits, numbers_of}
use Rattle.pv_queries.specs.Meeting.{FailsIn, MeetsBy}
use Rattle.pv_queries.proofs.Reading.{one-values, scans-denoted}

fails-in : (m : Machine) (count : ℕ) (state given : Values) (inputs told : List Values) → AllByRecursion (IsInput m) inputs → length inputs ≡ count
    → FailsAtLast m state inputs → state ≡ given → inputs ≡ told → FailsIn m count (record { state = given; inputs = told })
fails-in m count state given inputs told are long fails same_state same_inputs = record {
  are_inputs = subst (λ (is : List Values). AllByRecursion (IsInput m) is) same_inputs are;
  count = subst (λ (is : List Values). length is ≡ count) same_inputs long;
  fails = subst (λ (s : Values). FailsAtLast m s told) same_state (subst (λ (is : List Values). FailsAtLast m state is) same_inputs fails);
}

pub numbers-meet : (m : Machine) (form : Form) (start : List Start) (c : Circuit) (q : Query) (values : ℕ → Bool) → IsCircuit c → Steps m form start c
    → IsAsked q → Holds values (query_clauses c start q) → MeetsBy m q (numbers_of form (run_of c start q values))
numbers-meet m form start c (Base k) values is steps asks holds =
    let run = run_of c start (Base k) values in
    let s = base-stands m form start c k values is steps asks holds in
    let state : m.start s.meets.params ≡ values_of_bits form.state run.state = one-values form.state run.state (m.start s.meets.params) s.state in
    let inputs : s.meets.inputs ≡ map (values_of_bits form.input) run.inputs = scans-denoted form.input run.inputs s.meets.inputs s.inputs in (
      record { params = s.meets.params; are_params = s.meets.are_params; is = sym state },
      fails-in m k (m.start s.meets.params) (values_of_bits form.state run.state) s.meets.inputs (map (values_of_bits form.input) run.inputs)
          s.meets.are_inputs s.meets.count s.meets.fails state inputs,
    )
numbers-meet m form start c (Step k) values is steps asks holds =
    let run = run_of c start (Step k) values in
    let s = step-stands m form start c k values is steps asks holds in
    let state : s.meets.state ≡ values_of_bits form.state run.state = one-values form.state run.state s.meets.state s.state in
    let inputs : s.meets.inputs ≡ map (values_of_bits form.input) run.inputs = scans-denoted form.input run.inputs s.meets.inputs s.inputs in (
      subst (λ (x : Values). IsState m x) state s.meets.is_state,
      fails-in m (k + 1) s.meets.state (values_of_bits form.state run.state) s.meets.inputs (map (values_of_bits form.input) run.inputs)
          s.meets.are_inputs s.meets.count s.meets.fails state inputs,
    )
