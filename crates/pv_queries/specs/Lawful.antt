-- That a machine whose steps a circuit does is lawful.
use Rattle.std.proofs.Common.{◌≡◌, length, sym, ◌∙◌}
use Rattle.std.proofs.lemmas.List.{length-map}
use Rattle.pv_gate.specs.Value.{value_of}
use Rattle.pv_machine.specs.Machines.{Machine, IsLawful}
use Rattle.pv_circuit.specs.declared.start.Start.{Start}
use Rattle.pv_circuit.specs.Circuits.{Circuit, IsCircuit, values_of}
use Rattle.pv_circuit.specs.Starts.{AreState, next_of}
use Rattle.pv_circuit.specs.Steps.{Form, Steps}
use Rattle.std.specs.Prelude.{List}
use Rattle.pv_laws_frames.proofs.ForCallers.{are-state, state-behind}

-- a start has the bits of a state, and so has what a scan leaves
pub lawful_by_circuits : (m : Machine) (form : Form) (start : List Start) (c : Circuit) → IsCircuit c → Steps m form start c → IsLawful m
lawful_by_circuits m form start c is steps = record {
  starts = λ p are.
      let begin = steps.starts.each p are in
      (steps.ranges.state begin.0 (m.start p) begin.2).1 (are-state start begin.0 begin.1);
  steps = λ s i t state input done.
      let d = steps.every s i state input in
      let before = values_of d.inputs c.nodes c.state_in in
      let end = values_of d.inputs c.nodes c.state_out in
      let long : length end ≡ length start = length-map c.state_out (value_of d.inputs c.nodes) ∙ (is.same_state ∙ sym steps.bits.starts) in
      let are : AreState start before = (steps.ranges.state before s d.state).0 state in
      (steps.ranges.state (next_of start before end) t ((steps.scan s i state input d).next t done)).1 (state-behind start before end are long);
}
