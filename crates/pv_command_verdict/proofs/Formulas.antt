-- Each query on the circuit of what files hold has clauses over its variables: it has few nodes.
use Rattle.std.proofs.Common.{◌≡◌, ℕ, suc, ◌+◌, ◌≤◌, pos, false, List, [], ◌∷◌, ◌++◌, length, take, cond, Some, refl, ap, arith, length-append}
use Rattle.std.specs.Prelude.{slice_get, nat_lt}
use Rattle.std.proofs.lemmas.List.Sums.{sum_by-cons}
use Rattle.std.proofs.lemmas.List.FromFn.{length-map-range_with_len}
use Rattle.std.proofs.lemmas.List.Sorted.{length_permutation}
use Rattle.pv_gate.specs.declared.netlist.Node.{Node}
use Rattle.pv_gate.specs.declared.netlist.Node.TheVariants.{True, Input, And, Xor, Mux}
use Rattle.pv_gate.specs.Node.{is_input, is_gate, gate_count, input_count}
use Rattle.pv_gate.specs.Netlist.{IsNetlist}
use Rattle.pv_circuit.specs.declared.start.Start.{Start}
use Rattle.pv_circuit.specs.Circuits.{Circuit, IsCircuit, input_literals}
use Rattle.pv_cert.specs.declared.proof.Query.{Query}
use Rattle.pv_cert.specs.declared.proof.Query.TheVariants.{Base, Step}
use Rattle.pv_step.specs.Circuits.{circuit_of}
use Rattle.pv_step.specs.Steps.{starts_of}
use Rattle.pv_step.proofs.ForCallers.{is_circuit, does_the_steps}
use Rattle.pv_frames.specs.declared.push.TheConstants.{MAX_QUERY_GATES}
use Rattle.pv_frames.specs.declared.query.TheConstants.{MAX_QUERY_NODES}
use Rattle.pv_frames.specs.Queries.{IsAsked, IsFormula}
use Rattle.pv_kind.specs.Oracles as oracles
use Rattle.pv_queries.specs.declared.built.TheConstants.{MAX_BUILT_GATES}
use Rattle.pv_bool_load.specs.Handed.{SubjectData}
use Rattle.pv_bool_load.specs.Forms.{program_of}
use Rattle.pv_bool_load.specs.Correct.{IsOfProgram}
use Rattle.pv_command_verdict.specs.Cases.{case_in}
use Rattle.pv_command_verdict.proofs.Lifting.{few_bits}
use Rattle.pv_command_verdict.proofs.Evidence.{AreFormulas}

-- ---- nodes

input-more : (node : Node) (nodes : List Node) → input_count (node ∷ nodes) ≡ cond (is_input node) 1 0 + input_count nodes
input-more node nodes = sum_by-cons (λ (x : Node). cond (is_input x) 1 0) node nodes

gate-more : (node : Node) (nodes : List Node) → gate_count (node ∷ nodes) ≡ cond (is_gate node) 1 0 + gate_count nodes
gate-more node nodes = sum_by-cons (λ (x : Node). cond (is_gate x) 1 0) node nodes

one-more : (node : Node) (nodes : List Node) → cond (is_input node) 1 0 + cond (is_gate node) 1 0 ≡ 1 → length nodes ≡ input_count nodes + gate_count nodes
    → length (node ∷ nodes) ≡ input_count (node ∷ nodes) + gate_count (node ∷ nodes)
one-more node nodes one rest = omega (arith, one, rest, input-more node nodes, gate-more node nodes)

no-true : (nodes : List Node) → ((k : ℕ) → slice_get nodes k ≡ Some True → ⊥) → length nodes ≡ input_count nodes + gate_count nodes
no-true [] h = refl
no-true (True ∷ nodes) h = absurd (h 0 refl)
no-true (Input n ∷ nodes) h = one-more (Input n) nodes refl (no-true nodes (λ k at. h (suc k) at))
no-true (And a b ∷ nodes) h = one-more (And a b) nodes refl (no-true nodes (λ k at. h (suc k) at))
no-true (Xor a b ∷ nodes) h = one-more (Xor a b) nodes refl (no-true nodes (λ k at. h (suc k) at))
no-true (Mux s a b ∷ nodes) h = one-more (Mux s a b) nodes refl (no-true nodes (λ k at. h (suc k) at))

not-first : (node : Node) (nodes : List Node) → node ∷ nodes ≡ [] → ⊥
not-first node nodes e = omega (arith, ap (λ (xs : List Node). length xs) e)

node-count : (nodes : List Node) → IsNetlist nodes → length nodes ≤ 1 + (input_count nodes + gate_count nodes)
node-count [] net = omega arith
node-count (node ∷ nodes) net =
    let rest = no-true nodes (λ k at. not-first node (take k nodes) (net.each (suc k) True at)) in
    omega (arith, rest, input-more node nodes, gate-more node nodes)

few-nodes : (c : Circuit) → IsCircuit c → length c.nodes ≤ 1 + ((length c.state_in + length c.input) + gate_count c.nodes)
few-nodes c is =
    let long = length_permutation (input_literals 0 (input_count c.nodes)) (c.state_in ++ c.input) is.all_inputs in
    let count = length-map-range_with_len (λ i. pos (2 + i)) 0 (input_count c.nodes) in
    let nodes = node-count c.nodes is.netlist in
    omega (arith, long, count, nodes, length-append c.state_in c.input)

-- ---- formulas

gates_within : (most gates : ℕ) → nat_lt most gates ≡ false → gates ≤ most
gates_within most gates is = grind (arith, is)

-- an oracle is asked the queries that have formulas
asked_so : (q : Query) → oracles.IsAsked q → IsAsked q
asked_so (Base k) asked = asked
asked_so (Step k) asked = asked

-- the law that is handed in
abbrev pub FormulaLaw : Type 0
FormulaLaw = (c : Circuit) (start : List Start) (q : Query) → IsCircuit c → length start ≡ length c.state_in → IsAsked q
    → length c.nodes ≤ MAX_QUERY_NODES → gate_count c.nodes ≤ MAX_QUERY_GATES → IsFormula c start q

pub are_formulas : FormulaLaw → (s : SubjectData) → IsOfProgram s → (case_in s).passes ≡ false → AreFormulas s
are_formulas law s of fits q asked =
    let program = program_of s in
    let c = circuit_of program in
    let is = is_circuit program of.machines.program in
    let bits = (does_the_steps program of.machines.program).bits in
    let gates = gates_within MAX_BUILT_GATES (gate_count c.nodes) fits in
    let nodes = few-nodes c is in
    let few = few_bits program of.machines.few in
    (law c (starts_of program) q is bits.starts (asked_so q asked) (omega (arith, nodes, few, gates, bits.state, bits.input))
    (omega (arith, gates))).clauses
