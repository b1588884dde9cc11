-- The laws that join the circuit with the scan.
use Rattle.std.proofs.Common.{◌≡◌, ◌+◌, ◌<◌, ◌++◌, ℕ, zero, suc, ℤ, pos, neg_ℤ, List, length, Bool, false, not, sym, ◌∙◌, ap, subst}
use Rattle.std.proofs.Common.{arith, get_or, All}
use Rattle.std.specs.List.{AllByRecursion}
use Rattle.std.specs.List.Sorted.{IsPermutation}
use Rattle.std.proofs.lemmas.List.{length-map}
use Rattle.std.proofs.lemmas.List.Elements.{recursion_from_All, All-from_recursion, All-from_get_or}
use Rattle.pv_bool.specs.Roles.{is_input, is_kept}
use Rattle.pv_gate.specs.declared.netlist.Node.{Node}
use Rattle.pv_gate.specs.Node.{Names, input_count}
use Rattle.pv_gate.specs.Netlist.{Netlist, Extends}
use Rattle.pv_gate.specs.Value.{value_of}
use Rattle.pv_gate.proofs.ForCallers.{Names-neg, value_of-neg}
use Rattle.pv_bool.specs.declared.program.Bit.{Bit}
use Rattle.pv_bool.specs.Tree.{ProgramTree, IsProgram, IsAssignmentOver, IsTermOver}
use Rattle.pv_bool.specs.Scans.{Bits, state_len, input_len, begin, state_of, input_of, value_in, run_body, scan_end, keeps}
use Rattle.pv_bool.proofs.ForCallers.{state_of-begin, input_of-begin}
use Rattle.pv_circuit.specs.Circuits.{Circuit, Literals, begin_nodes, input_literals, IsCircuit, values_of}
use Rattle.pv_step.specs.Circuits.{begin_literals, begin_wires}
use Rattle.pv_step.specs.Circuits.{end_wires, holds_gate, kept_literals, taken_literals, circuit_of}
use Rattle.pv_step.specs.Correct.{state_before, input_before, DoesTheScan, HaveLengths, StandFor}
use Rattle.pv_step.proofs.Growth.{input_count-grows, grows_term}
use Rattle.pv_step.proofs.Beginning.{length-begin_literals, input_count-begin, netlist_begin, begin_value, length-begin_nodes}
use Rattle.pv_step.proofs.Picks.{state_of-picked, input_of-picked, length-picked, begin_parts, given_of, begin_given, picked_all, parts_all}
use Rattle.pv_step.proofs.Outcome.{Scanned, circuit_is, grows_circuit, length-body, kept_parts}
use Rattle.pv_step.proofs.Meaning.{AreNamed, AreWires, IsNamed, named-grows, values-grow, wires_named, wires_body, value_term}
use Rattle.pv_step.proofs.Meaning.{value_body}

-- ---- the beginning

names_begin : (total m n : ℕ) → m + n ≡ total → AllByRecursion (Names (1 + total)) (input_literals m n)
names_begin total m zero e = tt
names_begin total m (suc n) e = (record { from_one = omega arith; to_last = omega arith }, names_begin total (m + 1) n (omega arith))

all_begin : (bits : List Bit) → AllByRecursion (Names (length (begin_nodes (length bits)))) (begin_literals bits)
all_begin bits =
    let n = length bits in
    let e : 0 + n ≡ n = omega arith in
    subst (λ k. AllByRecursion (Names k) (begin_literals bits)) (sym (length-begin_nodes n)) (names_begin n 0 n e)

named_begin : (bits : List Bit) → AreNamed (begin_nodes (length bits)) (begin_literals bits)
named_begin bits =
    let N = Names (length (begin_nodes (length bits))) in
    let all = All-from_recursion N (begin_literals bits) (all_begin bits) in
    record { each = λ k lt. all k (pos 0) lt }

begin_are_wires : (bits : List Bit) → AreWires (length bits) (begin_wires bits)
begin_are_wires bits =
    record { same_length = length-begin_literals bits; netlist = netlist_begin (length bits); named = named_begin bits }

-- the frame with which a scan begins, as the inputs have it
frame_of : ProgramTree → (ℕ → Bool) → Bits
frame_of program inputs = values_of inputs (begin_wires program.bits).nodes (begin_wires program.bits).literals

-- what the literals of the beginning have in the whole circuit they have in the nodes of the beginning
same_there : (program : ProgramTree) (inputs : ℕ → Bool) → values_of inputs (holds_gate program).nodes (begin_literals program.bits)
    ≡ frame_of program inputs
unfolding frame_of
same_there program inputs =
    values-grow inputs (begin_nodes (length program.bits)) (holds_gate program).nodes (begin_literals program.bits)
    (grows_circuit program) (named_begin program.bits)

state_is : (program : ProgramTree) (inputs : ℕ → Bool) → state_before program inputs ≡ state_of program.bits (frame_of program inputs)
state_is program inputs =
    ap (λ (c : Circuit). values_of inputs c.nodes c.state_in) (circuit_is program)
    ∙ (state_of-picked (value_of inputs (holds_gate program).nodes) program.bits (begin_literals program.bits)
    (length-begin_literals program.bits) ∙ ap (state_of program.bits) (same_there program inputs))

input_is : (program : ProgramTree) (inputs : ℕ → Bool) → input_before program inputs ≡ input_of program.bits (frame_of program inputs)
input_is program inputs =
    ap (λ (c : Circuit). values_of inputs c.nodes c.input) (circuit_is program)
    ∙ (input_of-picked (value_of inputs (holds_gate program).nodes) program.bits (begin_literals program.bits)
    (length-begin_literals program.bits) ∙ ap (input_of program.bits) (same_there program inputs))

-- the scan from that state by that input begins with that frame
begin_is : (program : ProgramTree) (inputs : ℕ → Bool) → begin program.bits (state_before program inputs) (input_before program inputs)
    ≡ frame_of program inputs
unfolding frame_of
begin_is program inputs =
    ap (λ s. begin program.bits s (input_before program inputs)) (state_is program inputs)
    ∙ (ap (begin program.bits (state_of program.bits (frame_of program inputs))) (input_is program inputs)
    ∙ begin_parts (value_of inputs (begin_nodes (length program.bits))) 0 program.bits)

pub have_lengths : (program : ProgramTree) (inputs : ℕ → Bool) → HaveLengths program inputs
have_lengths program inputs =
    let f : ℤ → Bool = value_of inputs (circuit_of program).nodes in
    record {
      state = length-map (circuit_of program).state_in f ∙ (ap (λ (c : Circuit). length c.state_in) (circuit_is program)
          ∙ length-picked is_kept program.bits (begin_literals program.bits));
      input = length-map (circuit_of program).input f ∙ (ap (λ (c : Circuit). length c.input) (circuit_is program)
          ∙ length-picked is_input program.bits (begin_literals program.bits));
    }

-- ---- each state and input

standing : (program : ProgramTree) (state input : Bits) (inputs : ℕ → Bool)
    → ((k : ℕ) → k < length program.bits → value_of inputs (begin_nodes (length program.bits)) (pos (2 + (0 + k)))
    ≡ get_or (given_of program.bits state input) k false)
    → frame_of program inputs ≡ begin program.bits state input
unfolding frame_of
standing program state input inputs has = begin_given (value_of inputs (begin_nodes (length program.bits))) 0 program.bits state
    input has

pub stand_for : (program : ProgramTree) (state input : Bits) → length state ≡ state_len program.bits
    → length input ≡ input_len program.bits → StandFor program state input
stand_for program state input s i =
    let bits = program.bits in
    let n = length bits in
    let inputs : ℕ → Bool = λ k. get_or (given_of bits state input) k false in
    let has : (k : ℕ) → k < n → value_of inputs (begin_nodes n) (pos (2 + (0 + k))) ≡ get_or (given_of bits state input) k false =
    λ k lt. (let e : 2 + (0 + k) ≡ 2 + k = omega arith in
    ap (λ j. value_of inputs (begin_nodes n) (pos j)) e ∙ begin_value inputs n k lt) in
    let frame = standing program state input inputs has in
    record {
      inputs = inputs;
      state = state_is program inputs ∙ (ap (state_of bits) frame ∙ state_of-begin bits state input s);
      input = input_is program inputs ∙ (ap (input_of bits) frame ∙ input_of-begin bits state input i);
    }

-- ---- the wires

over_body : (program : ProgramTree) → IsProgram program → AllByRecursion (IsAssignmentOver (length program.bits)) program.body
over_body program is = recursion_from_All (IsAssignmentOver (length program.bits)) program.body is.body

end_are_wires : (program : ProgramTree) → IsProgram program → AreWires (length program.bits) (end_wires program)
end_are_wires program is = wires_body (length program.bits) program.body (begin_wires program.bits) (begin_are_wires program.bits)
    (over_body program is)

holds_named : (program : ProgramTree) → IsProgram program → IsNamed (holds_gate program)
holds_named program is = wires_named (length program.bits) (end_wires program) program.holds (end_are_wires program is) is.holds

-- ---- the end

end_is : (program : ProgramTree) (inputs : ℕ → Bool) → IsProgram program
    → values_of inputs (end_wires program).nodes (end_wires program).literals
    ≡ scan_end program (state_before program inputs) (input_before program inputs)
unfolding frame_of
end_is program inputs is =
    value_body inputs (length program.bits) program.body (begin_wires program.bits) (begin_are_wires program.bits) (over_body program is)
    ∙ ap (run_body program.body) (sym (begin_is program inputs))

holds_value : (program : ProgramTree) (inputs : ℕ → Bool) → IsProgram program
    → value_of inputs (holds_gate program).nodes (holds_gate program).literal
    ≡ keeps program (state_before program inputs) (input_before program inputs)
holds_value program inputs is =
    let end = end_are_wires program is in
    let over = subst (λ n. IsTermOver n program.holds) (sym end.same_length) is.holds in
    value_term inputs (end_wires program).literals (end_wires program).nodes program.holds end.netlist end.named over
    ∙ ap (λ f. value_in f program.holds) (end_is program inputs is)

end_length : (program : ProgramTree) → length (end_wires program).literals ≡ length program.bits
end_length program = length-body program.body (begin_wires program.bits) ∙ length-begin_literals program.bits

pub does_the_scan : (program : ProgramTree) (inputs : ℕ → Bool) → IsProgram program → DoesTheScan program inputs
does_the_scan program inputs is =
    let p = holds_gate program in
    let value = holds_value program inputs is in
    let end = end_are_wires program is in
    let negated = value_of-neg inputs p.nodes (length p.nodes) p.literal (holds_named program is).names in
    let there : values_of inputs p.nodes (end_wires program).literals
    ≡ scan_end program (state_before program inputs) (input_before program inputs) =
    values-grow inputs (end_wires program).nodes p.nodes (end_wires program).literals
    (grows_term (end_wires program).literals (end_wires program).nodes program.holds) end.named ∙ end_is program inputs is in
    record {
      fail = ap (λ (c : Circuit). value_of inputs c.nodes c.fail) (circuit_is program) ∙ (negated ∙ ap not value);
      ok = ap (λ (c : Circuit). value_of inputs c.nodes c.ok) (circuit_is program) ∙ value;
      state_out = ap (λ (c : Circuit). values_of inputs c.nodes c.state_out) (circuit_is program)
          ∙ (state_of-picked (value_of inputs p.nodes) program.bits (end_wires program).literals (end_length program)
          ∙ ap (state_of program.bits) there);
    }

-- ---- the parts of the circuit

all_named : (nodes : List Node) (literals : Literals) → AreNamed nodes literals → AllByRecursion (Names (length nodes)) literals
all_named nodes literals named = recursion_from_All (Names (length nodes)) literals
    (All-from_get_or (Names (length nodes)) literals (pos 0) (λ k lt. named.each k lt))

pub is_circuit : (program : ProgramTree) → IsProgram program → IsCircuit (circuit_of program)
is_circuit program is =
    let bits = program.bits in
    let n = length bits in
    let p = holds_gate program in
    let grown = grows_circuit program in
    let named = holds_named program is in
    let N : ℤ → Type 0 = Names (length p.nodes) in
    let begin_named = all_named p.nodes (begin_literals bits) (named-grows (begin_nodes n) p.nodes (begin_literals bits) grown
    (named_begin bits)) in
    let end_named = all_named p.nodes (end_wires program).literals
    (named-grows (end_wires program).nodes p.nodes (end_wires program).literals
    (grows_term (end_wires program).literals (end_wires program).nodes program.holds) (end_are_wires program is).named) in
    let begin_len = length-begin_literals bits in
    let count : input_count p.nodes ≡ n = input_count-grows (begin_nodes n) p.nodes grown ∙ input_count-begin n in
    let Q : ℕ → Type 0 = λ m. IsPermutation (input_literals 0 m)
    (kept_literals bits (begin_literals bits) ++ taken_literals bits (begin_literals bits)) in
    let R : ℕ → Type 0 = λ m. Extends (begin_nodes m) p.nodes in
    let P : Circuit → Type 0 = λ c. IsCircuit c in
    subst P (sym (circuit_is program)) (record {
      netlist = named.netlist;
      inputs_first = subst R (sym count) (record { added = grown.added; is = grown.is });
      state_in = All-from_recursion N (kept_literals bits (begin_literals bits))
          (picked_all N is_kept bits (begin_literals bits) begin_len begin_named);
      input = All-from_recursion N (taken_literals bits (begin_literals bits))
          (picked_all N is_input bits (begin_literals bits) begin_len begin_named);
      state_out = All-from_recursion N (kept_literals bits (end_wires program).literals)
          (picked_all N is_kept bits (end_wires program).literals (end_length program) end_named);
      ok = named.names;
      fail = Names-neg (length p.nodes) p.literal named.names;
      same_state = length-picked is_kept bits (end_wires program).literals ∙ sym (length-picked is_kept bits (begin_literals bits));
      all_inputs = subst Q (sym count) (parts_all 0 bits);
    })

-- a scan's parts are a circuit
pub circuit_scanned : (program : ProgramTree) (limit : ℕ) (start finish : List ℤ) (gates : Netlist) (ok z : ℤ) → z ≡ ok
    → IsProgram program → Scanned program limit start finish gates ok
    → IsCircuit (record {
      nodes = gates.nodes;
      state_in = kept_literals program.bits start;
      input = taken_literals program.bits start;
      state_out = kept_literals program.bits finish;
      ok = z;
      fail = neg_ℤ z;
    })
circuit_scanned program limit start finish gates ok z same is scan =
    let p = holds_gate program in
    let bits = program.bits in
    let P : Circuit → Type 0 = λ c. IsCircuit c in
    let whole = subst P (circuit_is program) (is_circuit program is) in
    let Q : List Node → Type 0 = λ ns. IsCircuit (record {
      nodes = ns;
      state_in = kept_literals bits start;
      input = taken_literals bits
          start;
      state_out = kept_literals bits finish;
      ok = z;
      fail = neg_ℤ z;
    }) in
    subst Q (sym (ap (λ (g : Netlist). g.nodes) scan.gates_are))
    (kept_parts p.nodes _ _ _ (kept_literals bits start) (taken_literals bits start) (kept_literals bits finish) _ _ z (neg_ℤ z) whole
    (ap (kept_literals bits) scan.begin_is) (ap (taken_literals bits) scan.begin_is) (ap (kept_literals bits) scan.end_is)
    (same ∙ scan.ok_is) (ap neg_ℤ (same ∙ scan.ok_is)))

-- the copy of the literals names nodes
pub names_copy : (bits : List Bit) (gates old : Netlist) (copy : List ℤ) → gates ≡ record old { nodes = begin_nodes (length bits) }
    → copy ≡ begin_literals bits → All (Names (length gates.nodes)) copy
names_copy bits gates old copy made is =
    let P : List Node → List ℤ → Type 0 = λ ns ls. All (Names (length ns)) ls in
    let nodes = begin_nodes (length bits) in
    let there : P nodes copy = subst (P nodes) (sym is)
    (All-from_recursion (Names (length nodes)) (begin_literals bits) (all_begin bits)) in
    let Q : Netlist → Type 0 = λ g. P g.nodes copy in
    subst Q (sym made) there
